-- Laws of runs: what a run tells, a run over two stretches, what a run does not look at, and runs along a walk. Assumes nothing.
use mathlib.Core.Path.{◌≡◌, refl, sym, ap, ◌∙◌}
use mathlib.Core.Logic.{◌⊎◌, inl, inr, ◌↔◌}
use mathlib.Core.Bool.{Bool, true, false, ◌&&◌}
use mathlib.Core.List.{List, [], ◌∷◌, ◌++◌}
use Prim.Native.Nat.{ℕ, zero, suc, ◌+◌, ◌≤◌, ◌<◌}
use native.Mathlib.Omega.{arith}
use native.Mathlib.Nat.{add-zero, zero-add}
use lib.Dec.{T}
use lib.ListN.{length, get_or, take}
use borrow.Author.Tests.{eq-eqb}
use Rattle.lists.specs.Tests.{choose}
use Rattle.lists.proofs.Tests.{T_true, not_both, and_true, and_when, eq?}
use Rattle.lists.specs.Members.{In, all}
use Rattle.walks.specs.Walk.{Walk}
use Rattle.rings.specs.Packet.{End, leads_to, crosses, crossed, ends, run, run_on, rules_for}

module _ (rule : ℕ → ℕ → Bool) (up : ℕ → Bool) (hd : ℕ → ℕ) where
  -- ---- the packet rule of document 01, label by label

  pub run_none : (at n : ℕ) → run rule up hd at n [] ≡ record { ended = true; hops = n; last = at }
  unfolding run
  run_none at n = ap (λ (j : ℕ). record { ended = true; hops = j; last = at }) (add-zero n)

  pub run_label : (at n a : ℕ) (w : List ℕ)
      → run rule up hd at n (a ∷ w) ≡ choose (rule at a && up a) (run rule up hd (hd a) (suc n) w) (record { ended = false; hops = n; last = at })
  unfolding run
  run_label at n a w = go (rule at a && up a) (crossed rule up hd (hd a) w)
    where
      go : (b : Bool) (v : List ℕ) → ◌≡◌ {A = End}
          (record { ended = b && ends rule up hd (hd a) w; hops = n + length (choose b (a ∷ v) []); last = leads_to hd at (choose b (a ∷ v) []) })
          (choose b (record { ended = ends rule up hd (hd a) w; hops = suc n + length v; last = leads_to hd (hd a) v }) (record { ended = false; hops = n; last = at }))
      go true v = ap (λ (j : ℕ). record { ended = ends rule up hd (hd a) w; hops = j; last = leads_to hd (hd a) v }) (omega arith)
      go false v = ap (λ (j : ℕ). record { ended = false; hops = j; last = at }) (add-zero n)

  -- ---- the labels crossed. Below, b tells whether the first label is, and v are those crossed after it

  -- they are the first of those carried
  pub crossed-most : (w : List ℕ) (at : ℕ) → length (crossed rule up hd at w) ≤ length w
  crossed-most [] at = omega arith
  crossed-most (a ∷ w) at = go (rule at a && up a) (crossed rule up hd (hd a) w) (crossed-most w (hd a))
    where
      go : (b : Bool) (v : List ℕ) → length v ≤ length w → length (choose b (a ∷ v) []) ≤ suc (length w)
      go true v h = omega arith
      go false v h = omega arith

  pub crossed-first : (w : List ℕ) (at : ℕ) → crossed rule up hd at w ≡ take (length (crossed rule up hd at w)) w
  crossed-first [] at = refl
  crossed-first (a ∷ w) at = go (rule at a && up a) (crossed rule up hd (hd a) w) (crossed-first w (hd a))
    where
      go : (b : Bool) (v : List ℕ) → v ≡ take (length v) w → choose b (a ∷ v) [] ≡ take (length (choose b (a ∷ v) [])) (a ∷ w)
      go true v e = ap (λ (l : List ℕ). a ∷ l) e
      go false v e = refl

  -- each of them has a rule at the switch that those before it lead to, and is up
  pub crossed-before : (w : List ℕ) (at i : ℕ) → i < length (crossed rule up hd at w) → crosses rule up (leads_to hd at (take i w)) (get_or w i 0) ≡ true
  crossed-before [] at i h = absurd (omega arith)
  crossed-before (a ∷ w) at zero h = go (rule at a && up a) (crossed rule up hd (hd a) w) h
    where
      go : (b : Bool) (v : List ℕ) → 0 < length (choose b (a ∷ v) []) → b ≡ true
      go true v h = refl
      go false v h = absurd (omega arith)
  crossed-before (a ∷ w) at (suc i) h = crossed-before w (hd a) i (go (rule at a && up a) (crossed rule up hd (hd a) w) h)
    where
      go : (b : Bool) (v : List ℕ) → suc i < length (choose b (a ∷ v) []) → i < length v
      go true v h = omega arith
      go false v h = absurd (omega arith)

  -- the next, if there is one, has no rule there or is not up
  pub crossed-next : (w : List ℕ) (at : ℕ) → length (crossed rule up hd at w) < length w
      → crosses rule up (leads_to hd at (crossed rule up hd at w)) (get_or w (length (crossed rule up hd at w)) 0) ≡ false
  crossed-next [] at h = absurd (omega arith)
  crossed-next (a ∷ w) at h = go (rule at a && up a) refl (crossed rule up hd (hd a) w) (crossed-next w (hd a)) h
    where
      go : (b : Bool) → (rule at a && up a) ≡ b → (v : List ℕ) → (length v < length w → crosses rule up (leads_to hd (hd a) v) (get_or w (length v) 0) ≡ false)
          → length (choose b (a ∷ v) []) < suc (length w)
          → crosses rule up (leads_to hd at (choose b (a ∷ v) [])) (get_or (a ∷ w) (length (choose b (a ∷ v) [])) 0) ≡ false
      go true e v next h = next (omega arith)
      go false e v next h = e

  -- a packet ends exactly if it crosses all its labels
  pub ends-all : (w : List ℕ) (at : ℕ) → ends rule up hd at w ≡ true → crossed rule up hd at w ≡ w
  ends-all [] at e = refl
  ends-all (a ∷ w) at e = let k = and_true (rule at a && up a) (ends rule up hd (hd a) w) e in rw k.0 (ap (λ (l : List ℕ). a ∷ l) (ends-all w (hd a) k.1))

  pub all-ends : (w : List ℕ) (at : ℕ) → length (crossed rule up hd at w) ≡ length w → ends rule up hd at w ≡ true
  all-ends [] at e = refl
  all-ends (a ∷ w) at e = go (rule at a && up a) (crossed rule up hd (hd a) w) (all-ends w (hd a)) e
    where
      go : (b : Bool) (v : List ℕ) → (length v ≡ length w → ends rule up hd (hd a) w ≡ true) → length (choose b (a ∷ v) []) ≡ suc (length w)
          → b && ends rule up hd (hd a) w ≡ true
      go true v rest e = rest (omega arith)
      go false v rest e = absurd (omega arith)

  -- so exactly if its hops are as many as its labels, and else they are fewer
  pub ended-hops : (w : List ℕ) (at n : ℕ) → ((run rule up hd at n w).ended ≡ true) ↔ ((run rule up hd at n w).hops ≡ n + length w)
  unfolding run
  ended-hops w at n = (λ t. ap (λ (v : List ℕ). n + length v) (ends-all w at t), λ e. all-ends w at (omega arith))

  pub hops_made : (w : List ℕ) (at : ℕ) → (run rule up hd at 0 w).hops ≡ length (crossed rule up hd at w)
  unfolding run
  hops_made w at = zero-add (length (crossed rule up hd at w))

  pub hops-most : (w : List ℕ) (at n : ℕ) → (run rule up hd at n w).hops ≤ n + length w
  unfolding run
  hops-most w at n = omega (arith, crossed-most w at)

  pub lost-hops : (w : List ℕ) (at n : ℕ) → (run rule up hd at n w).ended ≡ false → (run rule up hd at n w).hops < n + length w
  lost-hops w at n f = go (eq? (run rule up hd at n w).hops (n + length w))
    where
      go : ((run rule up hd at n w).hops ≡ n + length w) ⊎ ((run rule up hd at n w).hops ≡ n + length w → ⊥) → (run rule up hd at n w).hops < n + length w
      go (inl e) = absurd (not_both (run rule up hd at n w).ended ((ended-hops w at n).1 e) f)
      go (inr k) = omega (arith, k, hops-most w at n)

  -- ---- two stretches, one after the other: the packet goes on from where it came to, and its hops count on

  pub run-append : (x y : List ℕ) (at n : ℕ) → run rule up hd at n (x ++ y) ≡ run_on rule up hd (run rule up hd at n x) y
  unfolding run_on
  run-append [] y at n = rw (run_none at n)
  run-append (a ∷ x) y at n = rw (run_label at n a (x ++ y), run_label at n a x) (go (rule at a && up a) (run-append x y (hd a) (suc n)))
    where
      go : (b : Bool) → run rule up hd (hd a) (suc n) (x ++ y) ≡ run_on rule up hd (run rule up hd (hd a) (suc n) x) y
          → choose b (run rule up hd (hd a) (suc n) (x ++ y)) (record { ended = false; hops = n; last = at })
          ≡ run_on rule up hd (choose b (run rule up hd (hd a) (suc n) x) (record { ended = false; hops = n; last = at })) y
      go true e = e
      go false e = refl

  -- a packet that has ended goes on from where its labels lead, after as many hops as they are
  pub run_on_lem : (x y : List ℕ) (at n : ℕ) → (run rule up hd at n x).ended ≡ true → run rule up hd at n (x ++ y) ≡ run rule up hd (leads_to hd at x) (n + length x) y
  unfolding run_on run
  run_on_lem x y at n t = run-append x y at n ∙ rw (t, ends-all x at t)

  pub run_on-append : (e : End) (x y : List ℕ) → run_on rule up hd e (x ++ y) ≡ run_on rule up hd (run_on rule up hd e x) y
  unfolding run_on
  run_on-append e x y = go e.ended refl
    where
      go : (b : Bool) → e.ended ≡ b
          → choose b (run rule up hd e.last e.hops (x ++ y)) e ≡ run_on rule up hd (choose b (run rule up hd e.last e.hops x) e) y
      go true q = run-append x y e.last e.hops
      go false q = rw q

-- ---- what a run does not look at

-- two runs are one if their rules agree on the labels carried, and the states agree on labels that have a rule
pub run-same : (rule rule' : ℕ → ℕ → Bool) (up up' : ℕ → Bool) (hd : ℕ → ℕ) (w : List ℕ) (at n : ℕ) → ((x a : ℕ) → In a w → rule x a ≡ rule' x a)
    → ((x a : ℕ) → In a w → rule x a ≡ true → up a ≡ up' a) → run rule up hd at n w ≡ run rule' up' hd at n w
run-same rule rule' up up' hd [] at n f g = run_none rule up hd at n ∙ sym (run_none rule' up' hd at n)
run-same rule rule' up up' hd (a ∷ w) at n f g =
    let e = and_when (rule at a) (g at a (inl refl)) ∙ ap (λ (b : Bool). b && up' a) (f at a (inl refl)) in
    rw (run_label rule up hd at n a w, run_label rule' up' hd at n a w, e, run-same rule rule' up up' hd w (hd a) (suc n) (λ x b h. f x b (inr h)) (λ x b h. g x b (inr h)))

-- ---- runs along a walk whose arcs have rules

module _ (tl hd : ℕ → ℕ) (kind up : ℕ → Bool) where
  rule_here : (a x : ℕ) → T (kind a) → tl a ≡ x → rules_for kind tl x a ≡ true
  unfolding rules_for
  rule_here a x t q = rw (T_true (kind a) t, eq-eqb (tl a) x q)

  -- the packet ends exactly if all its labels are up
  pub run-ended : (w : List ℕ) (x y n : ℕ) → Walk tl hd w x y → ((a : ℕ) → In a w → T (kind a)) → (run (rules_for kind tl) up hd x n w).ended ≡ all up w
  unfolding run
  run-ended [] x y n e f = refl
  run-ended (a ∷ w) x y n q f =
      rw (rule_here a x (f a (inl refl)) q.0) (ap (λ (b : Bool). up a && b) (run-ended w (hd a) y (suc n) q.1 (λ b h. f b (inr h))))

  -- then it is where the walk ends, and has crossed all its labels
  pub run_clear : (w : List ℕ) (x y n : ℕ) → Walk tl hd w x y → ((a : ℕ) → In a w → T (kind a)) → all up w ≡ true
      → run (rules_for kind tl) up hd x n w ≡ record { ended = true; hops = n + length w; last = y }
  run_clear [] x y n e f u = rw (run_none (rules_for kind tl) up hd x n, e, add-zero n)
  run_clear (a ∷ w) x y n q f u =
      let k = and_true (up a) (all up w) u in
      rw (run_label (rules_for kind tl) up hd x n a w, rule_here a x (f a (inl refl)) q.0, k.0)
      (run_clear w (hd a) y (suc n) q.1 (λ b h. f b (inr h)) k.1 ∙ ap (λ (j : ℕ). record { ended = true; hops = j; last = y }) (omega arith))

  -- each label has a rule at the switch that those before it lead to
  walk_rule : (w : List ℕ) (x y i : ℕ) → Walk tl hd w x y → ((a : ℕ) → In a w → T (kind a)) → i < length w
      → rules_for kind tl (leads_to hd x (take i w)) (get_or w i 0) ≡ true
  walk_rule [] x y i q f h = absurd (omega arith)
  walk_rule (a ∷ w) x y zero q f h = rule_here a x (f a (inl refl)) q.0
  walk_rule (a ∷ w) x y (suc i) q f h = walk_rule w (hd a) y i q.1 (λ b k. f b (inr k)) (omega arith)

  -- so those before the one that a packet is lost at are up, and that one is not
  pub lost_at : (w : List ℕ) (x y : ℕ) → Walk tl hd w x y → ((a : ℕ) → In a w → T (kind a)) → (run (rules_for kind tl) up hd x 0 w).ended ≡ false
      → ((i : ℕ) → i < (run (rules_for kind tl) up hd x 0 w).hops → up (get_or w i 0) ≡ true) × (up (get_or w (run (rules_for kind tl) up hd x 0 w).hops 0) ≡ false)
  lost_at w x y q f g = (
    λ i h. (and_true (rules_for kind tl (leads_to hd x (take i w)) (get_or w i 0)) (up (get_or w i 0)) (crossed-before (rules_for kind tl) up hd w x i (omega (arith, made)))).1,
    rw made (next (lost-hops (rules_for kind tl) up hd w x 0 g)),
  )
    where
      k : ℕ
      k = length (crossed (rules_for kind tl) up hd x w)

      made : (run (rules_for kind tl) up hd x 0 w).hops ≡ k
      made = hops_made (rules_for kind tl) up hd w x

      next : (run (rules_for kind tl) up hd x 0 w).hops < 0 + length w → up (get_or w k 0) ≡ false
      next h =
          let rule = ap (λ (v : List ℕ). rules_for kind tl (leads_to hd x v) (get_or w k 0)) (crossed-first (rules_for kind tl) up hd w x)
          ∙ walk_rule w x y k q f (omega (arith, made))
          in
          sym (ap (λ (b : Bool). b && up (get_or w k 0)) rule) ∙ crossed-next (rules_for kind tl) up hd w x (omega (arith, made))
