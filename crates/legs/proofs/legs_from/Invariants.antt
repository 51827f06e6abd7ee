-- The legs found so far. The measure: how many more legs there is a place for.
use Rattle.std.proofs.Common.{◌-◌}
use Rattle.limits.specs.Limits.{max_rules}
use Rattle.legs.specs.Several.{SomePartsOf}
use Rattle.legs.proofs.Aims.{Found}
use Rattle.legs.proofs.legs_from.Given as goal

abbrev pub invariant-loop-a : goal.invariant-loop-a
invariant-loop-a l = (w : SomePartsOf l.network l.from) → Found w l.initial.aims l.low l.aims l.k l.hops l.u

abbrev pub decreases-loop-a : goal.decreases-loop-a
decreases-loop-a l = max_rules - l.k
