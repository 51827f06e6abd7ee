-- Refusal 12 is tried on the hops, and then on the length.
use Rattle.std.proofs.Common.{refl}
use Rattle.judging.proofs.Lent.{length_differs, hops_differ_lem}
use Rattle.judging.proofs.differs.Goals as goal

pub returns-in-Some : goal.returns-in-Some
returns-in-Some c = length_differs c.args.plan.now.layout.chart.ends.plant _ _ _ c.in-Some.ensures refl

pub returns-in-None : goal.returns-in-None
returns-in-None c = hops_differ_lem c.args.plan.now.layout.chart.ends.plant _ c.in-None.ensures
