-- The place of a switch in the whole of what is lent: of the trails, or of the round trails, of all components, one after another, the first hop that leaves the switch is the first
-- that leaves it in its component's own. Assumes a sound plant and one of its switches.
use mathlib.Core.Path.{◌≡◌, sym, ap, ◌∙◌, subst}
use mathlib.Core.Logic.{⊎_elim}
use mathlib.Core.List.{List}
use Prim.Native.Nat.{ℕ, ◌+◌, ◌-◌, ◌<◌}
use native.Mathlib.Omega.{arith}
use lib.Dec.{T}
use lib.ListN.{length, get_or, take, drop}
use lib.Seq.{get_or-take, get_or-drop}
use Rattle.lists.specs.Members.{In}
use Rattle.lists.proofs.Members.{get_d_in}
use Rattle.lists.proofs.Chained.{chained, chained-before}
use Rattle.lists.proofs.Tests.{below?}
use Rattle.limits.specs.Sound.{Sound}
use Rattle.plant.specs.declared.Plant.{Plant}
use Rattle.walks.specs.Arcs.{tail, Valid}
use Rattle.walks.specs.Graph.{reached_from}
use Rattle.walks.specs.Components.{root_of, roots, component_of}
use Rattle.walks.specs.Round.{round_from}
use Rattle.walks.proofs.Valid.{sound_valid}
use Rattle.walks.proofs.Components.{component-is, component-part, component-within}
use Rattle.routes.specs.Plants.{trail_from}
use Rattle.rings.specs.Ring.{FirstHop}
use Rattle.plan.specs.Plan.{trails_of, trail_of, trail_with, trail_begin, rounds_of, round_of, round_with, round_begin_of}
use Rattle.plan.proofs.Trails.{trail-from}
use Rattle.plan.proofs.Rounds.{round-from}

module _ (p : Plant) (ok : Sound p) (x : ℕ) (x_in : x < p.switches) where
  abbrev valid : Valid p
  valid = sound_valid p ok

  -- lists of labels, one for each root, whose arcs leave switches of its component
  module _ (f : ℕ → List ℕ) (own : (r a : ℕ) → In r (roots p) → In a (f r) → T (reached_from p r (tail p a))) where
    abbrev all : List ℕ
    all = chained f (roots p)

    -- where the list of the component of x begins
    abbrev begin : ℕ
    begin = length (chained f (take (component_of p x) (roots p)))

    hop-at : (k : ℕ) → k < length (f (root_of p x)) → get_or all (begin + k) 0 ≡ get_or (f (root_of p x)) k 0
    hop-at k h =
        sym (get_or-take (length (f (root_of p x))) (drop begin all) k 0 h ∙ get_or-drop begin all k 0)
        ∙ ap (λ (w : List ℕ). get_or w k 0) (component-part p valid ok.start_in f x x_in)

    -- no hop of a list before it leaves x
    none_before : (i : ℕ) → i < begin → tail p (get_or all i 0) ≡ x → ⊥
    none_before i h e =
        let q = chained-before f (roots p) (component_of p x) i h in
        let r : ℕ = get_or (roots p) q.0 0 in
        let t = own r (get_or all i 0) (get_d_in (roots p) q.0 q.2) q.3 in
        omega (arith, q.1, (component-is p valid ok.start_in q.0 x q.2 x_in).0 (subst (λ (y : ℕ). T (reached_from p r y)) e t))

    first_of-all : (k : ℕ) → FirstHop (tail p) x (f (root_of p x)) k → FirstHop (tail p) x all (begin + k)
    first_of-all k h = record {
      inside = omega (arith, h.inside, component-within p valid ok.start_in f x x_in);
      leaves = ap (tail p) (hop-at k h.inside) ∙ h.leaves;
      before = λ i l e. ⊎_elim (λ b. none_before i b e) (λ b.
          let j : ℕ = i - begin in
          let is : i ≡ begin + j = omega arith in
          let j_in : j < k = omega arith in
          h.before j j_in (sym (ap (λ (n : ℕ). tail p (get_or all n 0)) is ∙ ap (tail p) (hop-at j (omega (arith, j_in, h.inside)))) ∙ e)) (below? i begin);
    }

  pub trail-place : (k : ℕ) → FirstHop (tail p) x (trail_with p x) k → FirstHop (tail p) x (trail_of p) (trail_begin p (component_of p x) + k)
  unfolding trails_of
  trail-place = first_of-all (trail_from p) (λ r a i j. (((trail-from p ok r i).exactly a).0 j).0)

  pub round-place : (k : ℕ) → FirstHop (tail p) x (round_with p x) k → FirstHop (tail p) x (round_of p) (round_begin_of p (component_of p x) + k)
  unfolding rounds_of
  round-place = first_of-all (round_from p) (λ r a i j. (((round-from p ok r i).each a).0 j).0)
