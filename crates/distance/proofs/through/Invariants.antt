-- The rows below i are by way of switch k.
use Rattle.distance.specs.Ways.{Through}
use Rattle.distance.proofs.through.Given as goal

abbrev pub invariant-loop-i : goal.invariant-loop-i
invariant-loop-i l = Through l.k l.fn.t l.i l.t
