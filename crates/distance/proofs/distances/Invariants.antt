-- No hops are fewer than the distance, and of the switches below k none is left to be tried as a way.
use Rattle.lists.specs.Arrays.{flag, at}
use Rattle.distance.proofs.Between.{Between}
use Rattle.distance.proofs.distances.Given as goal

abbrev pub invariant-loop-k : goal.invariant-loop-k
invariant-loop-k l = Between l.net.switches l.net.labels (at l.tails) (at l.heads) (flag l.used) l.k l.t
