-- Refusals 12 and 13, one after the other.
use Rattle.std.proofs.Common.{[], ◌∷◌}
use Rattle.answers.proofs.Results.{and_judges}
use Rattle.judging.specs.Conditions.{trail_differs, states_short}
use Rattle.judging.proofs.judge_lent.Goals as goal

pub returns : goal.returns
returns c =
    let p = c.args.plan.now.layout.chart.ends.plant in
    rw c.and.ensures
    (and_judges ((12, trail_differs p c.args.trail.now) ∷ []) ((13, states_short p.count c.args.states.now) ∷ []) _ _ (rw c.differs.ensures at c.judge-other.ensures)
    (rw c.too_few.ensures at c.judge-short.ensures))
