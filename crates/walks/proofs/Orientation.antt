-- Which arcs are in use from a root, and theorem A: over them every switch that is reached from the root reaches every other. Assumes a valid plant and a root
-- that is a switch of it.
use mathlib.Core.Path.{◌≡◌, refl, sym, subst}
use mathlib.Core.Logic.{◌⊎◌, inl, inr, ◌↔◌}
use mathlib.Core.List.{List}
use Prim.Native.Nat.{ℕ, ◌/◌, ◌<◌}
use native.Mathlib.Omega.{arith}
use lib.Dec.{T, lt→ltb}
use Rattle.lists.proofs.Tests.{T-or, choose_true, choose_false, and_left, and_right, and_both, or_left, or_right}
use Rattle.lists.specs.Members.{In}
use Rattle.lists.proofs.Members.{memb→in, in→memb}
use Rattle.plant.specs.declared.Plant.{Plant}
use Rattle.plant.specs.Links.{live}
use Rattle.walks.specs.Walk.{here}
use Rattle.walks.proofs.Walk.{trans, weaken, one, back}
use Rattle.walks.specs.Visit.{rank}
use Rattle.walks.proofs.Visit.{ext_refl, returns}
use Rattle.walks.specs.Arcs.{opposite, tail, head, Arc, Valid}
use Rattle.walks.specs.Graph.{To, arcs, visited_from, reached_from, entered_from, earlier_from, chosen_from, used_from, bridge}
use Rattle.walks.proofs.Labels.{crosses, crossed-is, crosses_arc, opposite_half, tail-opposite, head-opposite, opposite_arc, arcs-are}
use Rattle.walks.proofs.Visited.{visited_run, visited_good, entered_arc, visited_reach}
use Rattle.walks.proofs.Tests.{no_bridge_arc}

module _ (p : Plant) (r : ℕ) where
  -- the switches that the visit found, and the arcs that it entered
  abbrev found : List ℕ
  found = (visited_from p r).ord

  abbrev entries : List ℕ
  entries = (visited_from p r).ent

  -- ---- an arc in use

  abbrev pub Used : ℕ → Type 0
  Used a = T (used_from p r a)

  pub chosen_arc : (a : ℕ) → T (chosen_from p r a) → Arc p a
  chosen_arc a t = and_left (live p (a / 2)) _ t

  pub used-is : (a : ℕ) → Used a ↔ (In (tail p a) found × T (chosen_from p r a))
  unfolding used_from
  used-is a = (
    λ t. (memb→in (tail p a) found (and_left (reached_from p r (tail p a)) (chosen_from p r a) t), and_right (reached_from p r (tail p a)) (chosen_from p r a) t),
    λ h. and_both (reached_from p r (tail p a)) (chosen_from p r a) (in→memb (tail p a) found h.0) h.1,
  )

  pub from_arc : (a : ℕ) → Used a → Arc p a
  from_arc a t = chosen_arc a ((used-is a).0 t).1

  use_bridge : (a : ℕ) → Arc p a → In (tail p a) found → T (bridge p (a / 2)) → Used a
  use_bridge a h i t = (used-is a).1 (i, and_both (live p (a / 2)) _ h (or_left (bridge p (a / 2)) _ t))

  module _ (ok : Valid p) (r_in : r < p.switches) where
    -- an entered arc is in use
    pub use_entered : (a : ℕ) → In a entries → Used a
    use_entered a h =
        (used-is a).1 (
          (visited_good p ok r r_in).low a h,
          and_both (live p (a / 2)) _ (entered_arc p ok r r_in a h) (or_right (bridge p (a / 2)) _
              (rw (choose_true (entered_from p r (a / 2)) _ (earlier_from p r (head p a) (tail p a)) ((crossed-is (a / 2) entries).1 (crosses a (a / 2) entries h refl)))
              (lt→ltb (rank (tail p a) found) (rank (head p a) found) ((visited_good p ok r r_in).up a h)))),
        )

    -- so is an arc that leads back to a switch visited before, if its link has not been entered
    pub use_back : (a : ℕ) → In a (arcs p) → In (tail p a) found → rank (head p a) found < rank (tail p a) found → (In (opposite a) entries → ⊥) → Used a
    use_back a i j lt n =
        (used-is a).1 (
          j,
          and_both (live p (a / 2)) _ ((arcs-are p a).0 i) (or_right (bridge p (a / 2)) _
              (rw (choose_false (entered_from p r (a / 2)) (earlier_from p r (tail p a) (head p a)) _ (λ t. go (crosses_arc a entries ((crossed-is (a / 2) entries).0 t))))
              (lt→ltb (rank (head p a) found) (rank (tail p a) found) lt))),
        )
      where
        go : In a entries ⊎ In (opposite a) entries → ⊥
        go (inl h) = omega (arith, (visited_good p ok r r_in).up a h)
        go (inr h) = n h

    -- ---- theorem A

    -- an entered arc's head leads back to its tail over arcs in use: over the opposite arc if the link is a bridge, and else round by another link
    up : (a : ℕ) → In a entries → To p Used (head p a) (tail p a)
    up a h = go (T-or (bridge p (a / 2)))
      where
        arc : Arc p a
        arc = entered_arc p ok r r_in a h

        pick : ⊥ ⊎ (To p (λ c. In c (arcs p) × (c / 2 ≡ a / 2 → ⊥)) (head p a) (tail p a) → To p Used (head p a) (tail p a))
            → To p (λ c. In c (arcs p) × (c / 2 ≡ a / 2 → ⊥)) (head p a) (tail p a) → To p Used (head p a) (tail p a)
        pick (inl z) w = absurd z
        pick (inr f) w = f w

        go : T (bridge p (a / 2)) ⊎ (T (bridge p (a / 2)) → ⊥) → To p Used (head p a) (tail p a)
        go (inl t) =
            one (opposite a)
            (use_bridge (opposite a) (opposite_arc p a arc) (subst (λ (x : ℕ). In x found) (sym (tail-opposite p a)) ((visited_good p ok r r_in).high a h)) (rw opposite_half t))
            (tail-opposite p a) (head-opposite p a)
        go (inr n) =
            pick
            (returns (tail p) (head p) (arcs p) opposite (λ b. b / 2) (tail-opposite p) (head-opposite p) opposite_half
            (λ b i. (arcs-are p (opposite b)).1 (opposite_arc p b ((arcs-are p b).0 i))) (visited_from p r) (visited_good p ok r r_in) Used use_entered use_back
            (visited_run p ok r r_in) (λ b i e. inl i) (λ y i. elim i [ inl e ↦ inr (here e) | inr z ↦ absurd z ]) (inl refl) (ext_refl (visited_from p r)) a h)
            (weaken (λ b i. ((arcs-are p b).1 i.0, i.1)) (no_bridge_arc p ok a arc n))

    -- theorem A: between every two switches that are reached there is a walk over arcs in use
    pub strong : (x y : ℕ) → In x found → In y found → To p Used x y
    strong x y h i = trans (back up (visited_reach p ok r r_in x h)) (weaken use_entered (visited_reach p ok r r_in y i))
