-- The switches below i are no hops from themselves.
use Rattle.distance.specs.Ways.{Zeroed}
use Rattle.distance.proofs.diagonal.Given as goal

abbrev pub invariant-loop-i : goal.invariant-loop-i
invariant-loop-i l = Zeroed l.initial.t l.i l.t
