-- The leading arcs, one of each link that is reached: the entered one, and of a link that is not entered the one from the later to the earlier visited end. Assumes a valid plant
-- and a root that is a switch of it.
use mathlib.Core.Path.{◌≡◌, refl, sym, ap, subst}
use mathlib.Core.Logic.{◌⊎◌, inl, inr, ⊎_elim}
use mathlib.Core.Bool.{Bool, ◌&&◌}
use Prim.Native.Nat.{ℕ, ◌/◌, ◌<◌, ◌≤◌}
use native.Mathlib.Omega.{arith}
use lib.Dec.{T, ltb→lt, lt→ltb}
use Rattle.lists.specs.Tests.{choose}
use Rattle.lists.proofs.Tests.{T-or, below?, choose_true, choose_false, and_left, and_right, and_both}
use Rattle.lists.specs.Members.{In}
use Rattle.lists.proofs.Members.{memb→in, in→memb}
use Rattle.plant.specs.declared.Plant.{Plant}
use Rattle.plant.specs.Links.{live}
use Rattle.walks.specs.Visit.{rank}
use Rattle.walks.specs.Arcs.{opposite, tail, head, Arc, Valid}
use Rattle.walks.specs.Graph.{visited_from, reached_from, entered_from, earlier_from}
use Rattle.walks.specs.Inner.{taken_from, leading_from}
use Rattle.walks.proofs.Visit.{rank_inj}
use Rattle.walks.proofs.Labels.{crosses, crossed-is, crosses_arc, opposite_half, opposite_arc, tail-opposite, head-opposite, ends-apart}
use Rattle.walks.proofs.Visited.{visited_good, visited_keeps, entered_arc}

module _ (p : Plant) (r : ℕ) where
  -- the place of switch x in the order of the visit
  abbrev pub place : ℕ → ℕ
  place x = rank x (visited_from p r).ord

  -- arc a leads to a later visited switch, or to an earlier one; and what `taken_from` asks of it where no link is taken both ways
  abbrev onward : ℕ → Bool
  onward a = earlier_from p r (tail p a) (head p a)

  abbrev backward : ℕ → Bool
  backward a = earlier_from p r (head p a) (tail p a)

  abbrev chosen : ℕ → Bool
  chosen a = choose (entered_from p r (a / 2)) (onward a) (backward a)

  -- of an entered link the arc from earlier to later visited, of another link the arc from later to earlier
  abbrev pub Way : ℕ → Type 0
  Way a = (T (entered_from p r (a / 2)) × (place (tail p a) < place (head p a))) ⊎ ((T (entered_from p r (a / 2)) → ⊥) × (place (head p a) < place (tail p a)))

  -- what a leading arc is
  pub record Leads (a : ℕ) : Type 0 where
    pub from : In (tail p a) (visited_from p r).ord
    pub arc : Arc p a
    pub way : Way a

  -- the test is what it means
  pub leads : (a : ℕ) → T (leading_from p r a) → Leads a
  unfolding taken_from
  leads a t = record {
    from = memb→in (tail p a) (visited_from p r).ord (and_left (reached_from p r (tail p a)) (live p (a / 2) && chosen a) t);
    arc = and_left (live p (a / 2)) (chosen a) u;
    way = go (T-or (entered_from p r (a / 2)));
  }
    where
      u : T (live p (a / 2) && chosen a)
      u = and_right (reached_from p r (tail p a)) (live p (a / 2) && chosen a) t

      w : T (chosen a)
      w = and_right (live p (a / 2)) (chosen a) u

      go : T (entered_from p r (a / 2)) ⊎ (T (entered_from p r (a / 2)) → ⊥) → Way a
      go (inl e) = inl (e, ltb→lt (place (tail p a)) (place (head p a)) (subst T (choose_true (entered_from p r (a / 2)) (onward a) (backward a) e) w))
      go (inr n) = inr (n, ltb→lt (place (head p a)) (place (tail p a)) (subst T (choose_false (entered_from p r (a / 2)) (onward a) (backward a) n) w))

  pub leading : (a : ℕ) → Leads a → T (leading_from p r a)
  unfolding taken_from
  leading a l =
      and_both (reached_from p r (tail p a)) (live p (a / 2) && chosen a) (in→memb (tail p a) (visited_from p r).ord l.from) (and_both (live p (a / 2)) (chosen a) l.arc (go l.way))
    where
      go : Way a → T (chosen a)
      go (inl e) = subst T (sym (choose_true (entered_from p r (a / 2)) (onward a) (backward a) e.0)) (lt→ltb (place (tail p a)) (place (head p a)) e.1)
      go (inr n) = subst T (sym (choose_false (entered_from p r (a / 2)) (onward a) (backward a) n.0)) (lt→ltb (place (head p a)) (place (tail p a)) n.1)

  -- the link of an entered arc is entered, and of an entered link one arc is
  pub entered_link : (a : ℕ) → In a (visited_from p r).ent → T (entered_from p r (a / 2))
  entered_link a i = (crossed-is (a / 2) (visited_from p r).ent).1 (crosses a (a / 2) (visited_from p r).ent i refl)

  pub link_entered : (a : ℕ) → T (entered_from p r (a / 2)) → In a (visited_from p r).ent ⊎ In (opposite a) (visited_from p r).ent
  link_entered a t = crosses_arc a (visited_from p r).ent ((crossed-is (a / 2) (visited_from p r).ent).0 t)

  -- not both arcs of a link lead
  pub lead_apart : (a : ℕ) → T (leading_from p r a) → T (leading_from p r (opposite a)) → ⊥
  lead_apart a t u = go (leads a t).way (leads (opposite a) u).way
    where
      half : opposite a / 2 ≡ a / 2
      half = opposite_half a

      there : place (tail p (opposite a)) ≡ place (head p a)
      there = ap place (tail-opposite p a)

      back : place (head p (opposite a)) ≡ place (tail p a)
      back = ap place (head-opposite p a)

      go : Way a → Way (opposite a) → ⊥
      go (inl e) (inl f) = omega (arith, e.1, f.1, there, back)
      go (inl e) (inr f) = f.0 (subst (λ (l : ℕ). T (entered_from p r l)) (sym half) e.0)
      go (inr e) (inl f) = e.0 (subst (λ (l : ℕ). T (entered_from p r l)) half f.0)
      go (inr e) (inr f) = omega (arith, e.1, f.1, there, back)

module _ (p : Plant) (ok : Valid p) (r : ℕ) (r_in : r < p.switches) where
  pub lead_entered : (a : ℕ) → In a (visited_from p r).ent → T (leading_from p r a)
  lead_entered a i = leading p r a (record { from = (visited_good p ok r r_in).low a i; arc = entered_arc p ok r r_in a i; way = inl (entered_link p r a i, (visited_good p ok r r_in).up a i) })

  -- of an entered link the leading arc is the entered one
  pub entered_lead : (a : ℕ) → T (leading_from p r a) → T (entered_from p r (a / 2)) → In a (visited_from p r).ent
  entered_lead a t e = ⊎_elim (λ i. i) (λ i. absurd (lead_apart p r a t (lead_entered (opposite a) i))) (link_entered p r a e)

  pub lead_back : (a : ℕ) → Arc p a → In (tail p a) (visited_from p r).ord → (T (entered_from p r (a / 2)) → ⊥) → place p r (head p a) < place p r (tail p a) → T (leading_from p r a)
  lead_back a h i n l = leading p r a (record { from = i; arc = h; way = inr (n, l) })

  -- just one arc of each link that is reached leads
  pub leading_pair : (a : ℕ) → Arc p a → T (reached_from p r (tail p a))
      → (T (leading_from p r a) × (T (leading_from p r (opposite a)) → ⊥)) ⊎ ((T (leading_from p r a) → ⊥) × T (leading_from p r (opposite a)))
  leading_pair a h t = go (T-or (entered_from p r (a / 2)))
    where
      i : In (tail p a) (visited_from p r).ord
      i = memb→in (tail p a) (visited_from p r).ord t

      j : In (head p a) (visited_from p r).ord
      j = visited_keeps p ok r r_in a h i

      Pair : Type 0
      Pair = (T (leading_from p r a) × (T (leading_from p r (opposite a)) → ⊥)) ⊎ ((T (leading_from p r a) → ⊥) × T (leading_from p r (opposite a)))

      this : T (leading_from p r a) → Pair
      this l = inl (l, lead_apart p r a l)

      other : T (leading_from p r (opposite a)) → Pair
      other l = inr (λ m. lead_apart p r a m l, l)

      by_place : (T (entered_from p r (a / 2)) → ⊥) → (place p r (head p a) < place p r (tail p a)) ⊎ (place p r (tail p a) ≤ place p r (head p a)) → Pair
      by_place n (inl l) = this (lead_back a h i n l)
      by_place n (inr l) =
          other
          (lead_back (opposite a) (opposite_arc p a h) (subst (λ (x : ℕ). In x (visited_from p r).ord) (sym (tail-opposite p a)) j)
          (λ e. n (subst (λ (k : ℕ). T (entered_from p r k)) (opposite_half a) e))
          (omega (arith, ap (place p r) (tail-opposite p a), ap (place p r) (head-opposite p a), apart)))
        where
          apart : place p r (tail p a) ≡ place p r (head p a) → ⊥
          apart q = ends-apart p ok a h (rank_inj (tail p a) (head p a) (visited_from p r).ord i j q)

      go : T (entered_from p r (a / 2)) ⊎ (T (entered_from p r (a / 2)) → ⊥) → Pair
      go (inl e) = ⊎_elim (λ k. this (lead_entered a k)) (λ k. other (lead_entered (opposite a) k)) (link_entered p r a e)
      go (inr n) = by_place n (below? (place p r (head p a)) (place p r (tail p a)))

  -- a switch is entered by one leading arc
  pub leading_one : (a b : ℕ) → T (leading_from p r a) → T (leading_from p r b) → T (entered_from p r (a / 2)) → T (entered_from p r (b / 2)) → head p a ≡ head p b → a ≡ b
  leading_one a b s t e f q = (visited_good p ok r r_in).once a b (entered_lead a s e) (entered_lead b t f) q
