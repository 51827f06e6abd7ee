-- The switches that arcs in use below a leave are flagged.
use Rattle.lists.specs.Arrays.{flag, at}
use Rattle.distance.specs.Ways.{Left}
use Rattle.distance.proofs.left_by.Given as goal

abbrev pub invariant-loop-a : goal.invariant-loop-a
invariant-loop-a l = Left (at l.tails) (flag l.used) l.a l.r
