-- Where every switch is reached from the start there is one component, and the plan is that from the start: the arcs in use, the trail and the round trail, of the plant and
-- with each switch, where they begin, and the number of links. Assumes a sound connected plant.
use mathlib.Core.Path.{◌≡◌, sym, ap, ◌∙◌}
use mathlib.Core.List.{List, append-nil, flatten}
use Prim.Native.Nat.{ℕ, ◌<◌}
use Rattle.limits.specs.Sound.{Sound}
use Rattle.plant.specs.declared.Plant.{Plant}
use Rattle.walks.specs.Arcs.{Valid}
use Rattle.walks.specs.Graph.{live_links, used_from}
use Rattle.walks.specs.Components.{component_of, links_with, used}
use Rattle.walks.specs.Round.{round_from}
use Rattle.walks.proofs.Components as components
use Rattle.walks.proofs.Valid.{sound_valid}
use Rattle.routes.specs.Plants.{trail_from}
use Rattle.plan.specs.Plan.{Connected, trails_of, trail_of, trail_with, trail_begin, rounds_of, round_of, round_with, round_begin_of}

module _ (p : Plant) (ok : Sound p) (con : Connected p) where
  abbrev valid : Valid p
  valid = sound_valid p ok

  -- ---- the plant

  pub used-one : used p ≡ used_from p p.start
  used-one = λ i a. components.used-one p valid ok.start_in con a i

  pub trail-one : trail_of p ≡ trail_from p p.start
  unfolding trails_of flatten
  trail-one = ap (λ (rs : List ℕ). trails_of p rs) (components.roots-one p valid ok.start_in con) ∙ append-nil (trail_from p p.start)

  pub round-one : round_of p ≡ round_from p p.start
  unfolding rounds_of flatten
  round-one = ap (λ (rs : List ℕ). rounds_of p rs) (components.roots-one p valid ok.start_in con) ∙ append-nil (round_from p p.start)

  -- ---- a switch of it

  module _ (x : ℕ) (h : x < p.switches) where
    pub trail_with_is : trail_with p x ≡ trail_of p
    trail_with_is = ap (trail_from p) (components.root-one p valid ok.start_in con x h) ∙ sym trail-one

    pub round_with_is : round_with p x ≡ round_of p
    round_with_is = ap (round_from p) (components.root-one p valid ok.start_in con x h) ∙ sym round-one

    pub trail-begin : trail_begin p (component_of p x) ≡ 0
    unfolding trails_of flatten
    trail-begin = ap (trail_begin p) (components.component-one p valid ok.start_in con x h)

    pub round-begin : round_begin_of p (component_of p x) ≡ 0
    unfolding rounds_of flatten
    round-begin = ap (round_begin_of p) (components.component-one p valid ok.start_in con x h)

    pub links_with_lem : links_with p x ≡ live_links p
    links_with_lem = components.links-one p valid ok.start_in con x h
