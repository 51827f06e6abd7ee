-- The labels up to the first crossing of a link, by the number of that crossing.
use Rattle.std.proofs.Common.{◌≡◌, ◌++◌, List, ℕ, ◌∙◌, ap, ap₂, sym}
use Rattle.std.specs.List.{position}
use Rattle.rings.specs.Ring.{read_from}
use Rattle.rings.proofs.Parts.{read_length}
use Rattle.order.proofs.Rings.{crosses, crossed_at, crossed_nowhere}
use Rattle.order.proofs.out_to.Goals as goal
use Rattle.order.proofs.out_to.Goals.{After-crossing}

-- the labels are those read from the place
found : (c : After-crossing) → position (crosses c.args.l) (read_from c.args.k c.args.trail.now) ≡ c.crossing.result
unfolding read_from
found c = ap (position (crosses c.args.l)) (sym (ap₂ (λ (v w : List ℕ). v ++ w) c.split_at.ensures.back c.split_at.ensures.front)) ∙ sym c.crossing.ensures

pub returns-in-Some : goal.returns-in-Some
returns-in-Some c = let h = crossed_at c.args.l _ _ (found (goal.at.returns-in-Some c).After-crossing ∙ c.in-Some.is) in h.1

pub returns-in-None : goal.returns-in-None
returns-in-None c =
    sym (read_length c.args.k c.args.trail.now c.requires) ∙ crossed_nowhere c.args.l _ (found (goal.at.returns-in-None c).After-crossing ∙ c.in-None.is)
