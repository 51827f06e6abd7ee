-- Each test against its meaning: visited or not, all switches reached or not, a bridge or not, in terms of what is reached and of walks as lists of labels.
-- Assumes a valid plant.
use mathlib.Core.Path.{◌≡◌, sym, ◌∙◌}
use mathlib.Core.Logic.{◌⊎◌, inl, inr, ⊎_elim, ◌↔◌}
use mathlib.Core.Bool.{not}
use mathlib.Core.List.{List}
use Prim.Native.Nat.{ℕ, ◌+◌, ◌*◌, ◌/◌, ◌<◌}
use lib.Dec.{T, T_not, not_T}
use Rattle.lists.proofs.Tests.{T-or, and_left, and_right, and_both}
use Rattle.lists.specs.Members.{In, memb}
use Rattle.lists.specs.Numbers.{every}
use Rattle.lists.proofs.Numbers.{every-at, at_every}
use Rattle.plant.specs.declared.Plant.{Plant}
use Rattle.plant.specs.Links.{first, second, live}
use Rattle.walks.specs.Walk.{Walk}
use Rattle.walks.proofs.Walk.{weaken, one, back, walk→reach, reach→walk}
use Rattle.walks.specs.Arcs.{opposite, tail, head, Arc, Avoid, Valid}
use Rattle.walks.specs.Graph.{Crosses, To, AllFrom, Bridge, others, visit_from, reached_from, bridge}
use Rattle.walks.proofs.Labels.{even_half, odd_half, crosses, crosses?, tail_even, head_even, tail_odd, head_odd, tail-opposite, head-opposite, ends, even_arc, odd_arc, opposite_avoid, others-are}
use Rattle.walks.proofs.Visited.{finds, visited_finds}

-- ---- walks as lists

module _ (p : Plant) where
  -- reached by a walk over the arcs of a kind: there is such a list of labels
  pub to_walk : {kind : ℕ → Type 0} {x y : ℕ} → To p kind x y ↔ ((w : List ℕ) × Walk (tail p) (head p) w x y × ((a : ℕ) → In a w → kind a))
  to_walk {x = x} {y = y} = (reach→walk, λ r. walk→reach r.0 x y r.1 r.2)

  -- links are two-way: a walk whose opposite arcs are of its kind too can be walked back
  pub walk-back : {kind : ℕ → Type 0} {x y : ℕ} → ((a : ℕ) → kind a → kind (opposite a)) → To p kind x y → To p kind y x
  walk-back f r = back (λ a h. one (opposite a) (f a h) (tail-opposite p a) (head-opposite p a)) r

  -- a bridge is in service
  pub bridge-live : (l : ℕ) → T (bridge p l) → T (live p l)
  unfolding bridge
  bridge-live l t = and_left (live p l) (not (memb (second p l) (visit_from p (first p l) (others p l)).ord)) t

module _ (p : Plant) (ok : Valid p) where
  -- ---- every switch is reached

  pub all-is : (r : ℕ) → r < p.switches → T (every p.switches (reached_from p r)) ↔ AllFrom p r
  all-is r r_in = (
    λ t x h. (visited_finds p ok r r_in x).0 (every-at p.switches (reached_from p r) t x h),
    λ all. at_every p.switches (reached_from p r) (λ x h. (visited_finds p ok r r_in x).1 (all x h)),
  )

  -- ---- a bridge

  module _ (l : ℕ) (part : T (live p l)) where
    -- the switches that a visit from the first end finds without link l
    abbrev found : List ℕ
    found = (visit_from p (first p l) (others p l)).ord

    without : T (memb (second p l) found) ↔ To p (Avoid p l) (first p l) (second p l)
    without = (λ t. weaken (λ b h. (others-are p l b).0 h) (f.0 t), λ r. f.1 (weaken (λ b h. (others-are p l b).1 h) r))
      where
        f : T (memb (second p l) found) ↔ To p (λ b. In b (others p l)) (first p l) (second p l)
        f = finds p ok (others p l) (λ b h. ((others-are p l b).0 h).0) (first p l) (ok.first_in_is l part) (second p l)

    pub bridge-is : T (bridge p l) ↔ Bridge p l
    unfolding bridge
    bridge-is = (
      λ t r. T_not (memb (second p l) found) (and_right (live p l) (not (memb (second p l) found)) t) (without.1 r),
      λ f. and_both (live p l) (not (memb (second p l) found)) part (not_T (memb (second p l) found) (λ t. f (without.0 t))),
    )

    -- no bridge: its ends are joined without it
    pub no_bridge : (T (bridge p l) → ⊥) → To p (Avoid p l) (first p l) (second p l)
    no_bridge f = ⊎_elim (λ t. without.0 t) (λ n. absurd (f (bridge-is.1 (λ r. n (without.1 r))))) (T-or (memb (second p l) found))

    -- a bridge: every walk between its ends crosses it
    pub bridge_walks : T (bridge p l) ↔ ((w : List ℕ) → Walk (tail p) (head p) w (first p l) (second p l) → ((a : ℕ) → In a w → Arc p a) → Crosses l w)
    bridge_walks = (λ t w r real. cross t w r real (crosses? l w), λ f. bridge-is.1 (λ r. around f ((to_walk p).0 r)))
      where
        cross : T (bridge p l) → (w : List ℕ) → Walk (tail p) (head p) w (first p l) (second p l) → ((a : ℕ) → In a w → Arc p a) → Crosses l w ⊎ (Crosses l w → ⊥) → Crosses l w
        cross t w r real (inl c) = c
        cross t w r real (inr n) = absurd (bridge-is.0 t ((to_walk p).1 (w, r, λ a h. (real a h, λ e. n (crosses a l w h e)))))

        around : ((w : List ℕ) → Walk (tail p) (head p) w (first p l) (second p l) → ((a : ℕ) → In a w → Arc p a) → Crosses l w)
            → (w : List ℕ) × Walk (tail p) (head p) w (first p l) (second p l) × ((a : ℕ) → In a w → Avoid p l a) → ⊥
        around f r = ⊎_elim (λ h. (r.2 (2 * l) h).1 (even_half l)) (λ h. (r.2 (2 * l + 1) h).1 (odd_half l)) (f r.0 r.1 (λ a h. (r.2 a h).0))

    -- a link that has a parallel one is no bridge
    pub parallel : (k : ℕ) → T (live p k) → (k ≡ l → ⊥)
        → ((first p k ≡ first p l) × (second p k ≡ second p l)) ⊎ ((first p k ≡ second p l) × (second p k ≡ first p l)) → T (bridge p l) → ⊥
    parallel k h ne e t = bridge-is.0 t (go e)
      where
        go : ((first p k ≡ first p l) × (second p k ≡ second p l)) ⊎ ((first p k ≡ second p l) × (second p k ≡ first p l)) → To p (Avoid p l) (first p l) (second p l)
        go (inl q) = one (2 * k) (even_arc p k h, λ z. ne (sym (even_half k) ∙ z)) (tail_even p k ∙ q.0) (head_even p k ∙ q.1)
        go (inr q) = one (2 * k + 1) (odd_arc p k h, λ z. ne (sym (odd_half k) ∙ z)) (tail_odd p k ∙ q.1) (head_odd p k ∙ q.0)

  -- ---- the same from the head of an arc back to its tail

  module _ (a : ℕ) (arc : Arc p a) where
    -- between the two ends of the link of a, either way
    turn : To p (Avoid p (a / 2)) (first p (a / 2)) (second p (a / 2)) ↔ To p (Avoid p (a / 2)) (head p a) (tail p a)
    turn =
        ⊎_elim (λ e. (λ r. rw (e.0, e.1) (walk-back p (opposite_avoid p (a / 2)) r), λ r. walk-back p (opposite_avoid p (a / 2)) (rw (e.0, e.1) at r)))
        (λ e. (λ r. rw (e.0, e.1) r, λ r. rw (e.0, e.1) at r)) (ends p a)

    pub bridge_arc : T (bridge p (a / 2)) → To p (Avoid p (a / 2)) (head p a) (tail p a) → ⊥
    bridge_arc t r = (bridge-is (a / 2) arc).0 t (turn.1 r)

    pub no_bridge_arc : (T (bridge p (a / 2)) → ⊥) → To p (Avoid p (a / 2)) (head p a) (tail p a)
    no_bridge_arc f = turn.0 (no_bridge (a / 2) arc f)
