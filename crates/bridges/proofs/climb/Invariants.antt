-- From the ends of link k the climb has come to x and y. The sum of their numbers falls.
use Rattle.std.proofs.Common.{◌+◌}
use Rattle.lists.specs.Arrays.{at}
use Rattle.bridges.proofs.Cycles.{Climbing}
use Rattle.bridges.proofs.climb.Given as goal

abbrev pub invariant-loop-x : goal.invariant-loop-x
invariant-loop-x l = Climbing l.all.ends.now.plant l.fn.k l.c l.x l.y

abbrev pub decreases-loop-x : goal.decreases-loop-x
decreases-loop-x l = at l.all.visited.rank l.x + at l.all.visited.rank l.y
