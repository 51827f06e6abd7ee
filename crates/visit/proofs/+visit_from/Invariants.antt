-- What is left of the arcs leads where all of them lead. The measure of a call is how many switches are not visited.
use Rattle.std.proofs.Common.{◌-◌}
use Rattle.lists.specs.Arrays.{at}
use Rattle.visit.specs.Inner.{SomeArcs, unvisited}
use Rattle.visit.proofs.Goes.{Goes}
use Rattle.visit.proofs.+visit_from.Given as goal

abbrev pub decreases-visit_from : goal.decreases-visit_from
decreases-visit_from l = unvisited l.v0.seen

abbrev pub invariant-loop-a : goal.invariant-loop-a
invariant-loop-a l = (w : SomeArcs l.n l.heads l.chains.first l.chains.after) → Goes l.n w.tl (at l.heads) w.ok l.from l.a l.fn.v0 l.v

abbrev pub decreases-loop-a : goal.decreases-loop-a
decreases-loop-a l = l.n - l.a
