-- The row is by way of the switch up to place j.
use Rattle.distance.specs.Ways.{ByWay}
use Rattle.distance.proofs.by_way.Given as goal

abbrev pub invariant-loop-j : goal.invariant-loop-j
invariant-loop-j l = ByWay l.initial.r l.on l.d l.j l.r
