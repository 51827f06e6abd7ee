-- The outward labels: they cross the links of the order one after the other. The labels of a probe: which arcs they are, a walk, and when all their links are up.
-- Assumes nothing.
use mathlib.Core.Path.{◌≡◌, refl, sym, ap, ap₂, ◌∙◌, subst}
use mathlib.Core.Logic.{◌⊎◌, inl, inr, ⊎_elim}
use mathlib.Core.Bool.{Bool, true, false, ◌&&◌, and_self}
use mathlib.Core.List.{List, [], ◌∷◌, ◌++◌}
use Prim.Native.Nat.{ℕ, zero, suc, ◌-◌, ◌/◌, ◌≤◌, ◌<◌}
use native.Mathlib.Omega.{arith}
use lib.Dec.{eqb}
use lib.ListN.{length, get_or, take}
use lib.Seq.{take_all}
use borrow.Author.Tests.{eqb-true, eq-eqb, ne_eqb}
use Rattle.lists.specs.Tests.{choose}
use Rattle.lists.proofs.Tests.{bool?, same_test, and_comm, and_when}
use Rattle.lists.specs.Members.{In, all}
use Rattle.lists.proofs.Members.{in_append, in_append_left, get_d_in, all-at, at_all, all_append}
use Rattle.walks.specs.Walk.{Walk}
use Rattle.walks.proofs.Walk.{walk-append}
use Rattle.walks.specs.Arcs.{opposite}
use Rattle.walks.proofs.Labels.{opposite_half}
use Rattle.rings.specs.Packet.{by_link}
use Rattle.rings.specs.Order.{order, nth}
use Rattle.rings.specs.Probe.{up_to, back, outward, probe}
use Rattle.rings.proofs.Ring.{walk_split}
use Rattle.rings.proofs.Order.{Firsts, none, old, new, orders, unseen, label_order, order_label}

-- a link of the order is another than one seen before
other : {seen w o : List ℕ} → Firsts seen w o → (a l : ℕ) → In (a / 2) seen → In l o → eqb (a / 2) l ≡ false
other {seen} r a l j h = ne_eqb (a / 2) l (λ e. unseen r l h (subst (λ (k : ℕ). In k seen) e j))

-- ---- the order is by first crossing

some_label : {seen w o : List ℕ} → Firsts seen w o → (l m : ℕ) → m < length o → 1 ≤ length (up_to l w)
some_label none l m h = absurd (omega arith)
some_label (old j r) l m h = omega arith
some_label (new n r) l m h = omega arith

rising : {seen w o : List ℕ} → Firsts seen w o → (i j : ℕ) → i < j → j < length o → length (up_to (get_or o i 0) w) < length (up_to (get_or o j 0) w)
rising none i j h k = absurd (omega arith)
rising (old {seen} {w} {o} {a} q r) i j h k =
    rw (other r a (get_or o i 0) q (get_d_in o i (omega arith)), other r a (get_or o j 0) q (get_d_in o j k)) (omega (arith, rising r i j h k))
rising (new n r) i zero h k = absurd (omega arith)
rising (new {seen} {w} {o} {a} n r) zero (suc j) h k =
    rw (eq-eqb (a / 2) (a / 2) refl, other r a (get_or o j 0) (inl refl) (get_d_in o j (omega arith))) (omega (arith, some_label r (get_or o j 0) j (omega arith)))
rising (new {seen} {w} {o} {a} n r) (suc i) (suc j) h k =
    rw (other r a (get_or o i 0) (inl refl) (get_d_in o i (omega arith)), other r a (get_or o j 0) (inl refl) (get_d_in o j (omega arith)))
    (omega (arith, rising r i j (omega arith) (omega arith)))

-- a later link of the order is first crossed later: more labels go out up to its first crossing
pub order_rises : (r : List ℕ) (i j : ℕ) → 1 ≤ i → i < j → j ≤ length (order r) → length (outward i r) < length (outward j r)
unfolding outward order
order_rises r i j h k m = rising (orders [] r) (i - 1) (j - 1) (omega arith) (omega arith)

-- ---- when the links of a probe's labels are up

module _ (up : ℕ → Bool) where
  up_to_clear : {seen w o : List ℕ} → Firsts seen w o → (m : ℕ) → all up seen ≡ true → m < length o → all (by_link up) (up_to (get_or o m 0) w) ≡ all up (take (suc m) o)
  up_to_clear none m s h = absurd (omega arith)
  up_to_clear (old {seen} {w} {o} {a} j r) m s h =
      rw (other r a (get_or o m 0) j (get_d_in o m h), all-at up seen s (a / 2) j) (up_to_clear r m s h)
  up_to_clear (new {a = a} n r) zero s h = rw (eq-eqb (a / 2) (a / 2) refl)
  up_to_clear (new {seen} {w} {o} {a} n r) (suc m) s h =
      rw (other r a (get_or o m 0) (inl refl) (get_d_in o m (omega arith)))
      (and_when (up (a / 2)) (λ e. up_to_clear r m (rw e s) (omega arith)))

  -- up to the first crossing of the m-th link all links are up exactly if the first m of the order are
  pub outward_clear : (r : List ℕ) (m : ℕ) → 1 ≤ m → m ≤ length (order r) → all (by_link up) (outward m r) ≡ all up (take m (order r))
  unfolding outward order
  outward_clear r zero h i = absurd (omega arith)
  outward_clear r (suc m) h i = let e : suc m - 1 ≡ m = omega arith in rw e (up_to_clear (orders [] r) m refl (omega arith))

  back_clear : (w : List ℕ) → all (by_link up) (back w) ≡ all (by_link up) w
  back_clear [] = refl
  back_clear (a ∷ w) =
      all_append (λ b. up (b / 2)) (back w) (opposite a ∷ [])
      ∙ ap₂ (λ (x y : Bool). x && y) (back_clear w) (ap (λ (k : ℕ). up k && true) (opposite_half a) ∙ and_comm (up (a / 2)) true)
      ∙ and_comm (all (by_link up) w) (up (a / 2))

  -- out and back all links are up exactly if they are out
  pub there_and_back_clear : (w : List ℕ) → all (by_link up) (w ++ back w) ≡ all (by_link up) w
  there_and_back_clear w = all_append (by_link up) w (back w) ∙ ap (λ (b : Bool). all (by_link up) w && b) (back_clear w) ∙ and_self (all (by_link up) w)

  -- in a whole ring all links are up exactly if those of its order are
  pub ring_clear : (r : List ℕ) → all (by_link up) r ≡ all up (order r)
  ring_clear r =
      same_test (all (by_link up) r) (all up (order r))
      (λ e. at_all up (order r) (λ l h. let c = order_label r l h in ap up (sym c.2) ∙ all-at (by_link up) r e c.0 c.1))
      (λ e. at_all (by_link up) r (λ a h. all-at up (order r) e (a / 2) (label_order r a h)))

  -- so in a probe: all links of its labels are up exactly if the first m of the order are
  pub probe_clear : (r : List ℕ) (e m : ℕ) → length (order r) ≡ e → 1 ≤ m → m ≤ e → all (by_link up) (probe e m r) ≡ all up (take m (order r))
  unfolding probe
  probe_clear r e m q h i = go (bool? (eqb m e))
    where
      go : (eqb m e ≡ true) ⊎ (eqb m e ≡ false) → all (by_link up) (choose (eqb m e) r (outward m r ++ back (outward m r))) ≡ all up (take m (order r))
      go (inl t) = rw t (ring_clear r ∙ ap (all up) (sym (take_all m (order r) (omega (arith, eqb-true m e t)))))
      go (inr t) = rw t (there_and_back_clear (outward m r) ∙ outward_clear r m h (omega arith))

-- ---- the outward labels are the first of the ring

up_to-front : (l : ℕ) (w : List ℕ) → (v : List ℕ) × (up_to l w ++ v ≡ w)
up_to-front l [] = ([], refl)
up_to-front l (a ∷ w) = go (eqb (a / 2) l) (up_to-front l w)
  where
    go : (b : Bool) → (v : List ℕ) × (up_to l w ++ v ≡ w) → (v : List ℕ) × ((a ∷ choose b [] (up_to l w)) ++ v ≡ a ∷ w)
    go true r = (w, refl)
    go false r = (r.0, ap (λ (u : List ℕ). a ∷ u) r.1)

pub outward-front : (m : ℕ) (r : List ℕ) → (v : List ℕ) × (outward m r ++ v ≡ r)
unfolding outward
outward-front m r = up_to-front (nth (order r) m) r

-- ---- what holds of the labels of a ring, and of a label if it does of the opposite one, holds of a probe's labels

module _ (ok : ℕ → Type 0) (turn : (a : ℕ) → ok a → ok (opposite a)) where
  back-all : (w : List ℕ) → ((a : ℕ) → In a w → ok a) → (a : ℕ) → In a (back w) → ok a
  back-all [] f a h = absurd h
  back-all (b ∷ w) f a h =
      ⊎_elim (back-all w (λ c i. f c (inr i)) a) (λ i. ⊎_elim (λ e. subst ok (sym e) (turn b (f b (inl refl)))) (λ z. absurd z) i) (in_append a (back w) (opposite b ∷ []) h)

  pub probe-all : (e m : ℕ) (r : List ℕ) → ((a : ℕ) → In a r → ok a) → (a : ℕ) → In a (probe e m r) → ok a
  unfolding probe
  probe-all e m r f a h = go (bool? (eqb m e))
    where
      out : (b : ℕ) → In b (outward m r) → ok b
      out b i = let v = outward-front m r in f b (subst (λ (l : List ℕ). In b l) v.1 (in_append_left b (outward m r) v.0 i))

      go : (eqb m e ≡ true) ⊎ (eqb m e ≡ false) → ok a
      go (inl t) = f a (rw t at h)
      go (inr t) = ⊎_elim (out a) (back-all (outward m r) out a) (in_append a (outward m r) (back (outward m r)) (rw t at h))

-- ---- a probe is a closed walk

module _ (tl hd : ℕ → ℕ) (tl-opposite : (a : ℕ) → tl (opposite a) ≡ hd a) (hd-opposite : (a : ℕ) → hd (opposite a) ≡ tl a) where
  back-walk : (w : List ℕ) (x y : ℕ) → Walk tl hd w x y → Walk tl hd (back w) y x
  back-walk [] x y e = sym e
  back-walk (a ∷ w) x y q = walk-append tl hd (back w) (opposite a ∷ []) y (hd a) x (back-walk w (hd a) y q.1) (tl-opposite a, hd-opposite a ∙ q.0)

  pub probe-walk : (e m : ℕ) (r : List ℕ) (s : ℕ) → Walk tl hd r s s → Walk tl hd (probe e m r) s s
  unfolding probe
  probe-walk e m r s q = go (bool? (eqb m e))
    where
      v : (v : List ℕ) × (outward m r ++ v ≡ r)
      v = outward-front m r

      c : (z : ℕ) × Walk tl hd (outward m r) s z × Walk tl hd v.0 z s
      c = walk_split tl hd (outward m r) v.0 s s (subst (λ (l : List ℕ). Walk tl hd l s s) (sym v.1) q)

      go : (eqb m e ≡ true) ⊎ (eqb m e ≡ false) → Walk tl hd (choose (eqb m e) r (outward m r ++ back (outward m r))) s s
      go (inl t) = rw t q
      go (inr t) = rw t (walk-append tl hd (outward m r) (back (outward m r)) s c.0 s c.1 (back-walk (outward m r) s c.0 c.1))
