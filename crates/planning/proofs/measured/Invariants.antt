-- So many components are measured.
use Rattle.planning.proofs.Measuring.{Measuring}
use Rattle.planning.proofs.measured.Given as goal

abbrev pub invariant-loop-i : goal.invariant-loop-i
invariant-loop-i l = Measuring l.fn.ends.plant l.i l.components l.begin l.round
