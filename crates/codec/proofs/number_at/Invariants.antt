-- The loop goes from the high byte down: n is the number in the bytes from i on.
use Rattle.codec.proofs.FieldLaws.{From}
use Rattle.codec.proofs.number_at.Given as goal

abbrev pub invariant-loop-i : goal.invariant-loop-i
invariant-loop-i l = From l.s l.at l.width l.i l.n
