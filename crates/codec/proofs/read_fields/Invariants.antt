-- After each field, what is left gives what the whole gives.
use Rattle.codec.proofs.PartLaws.{Read}
use Rattle.codec.proofs.read_fields.Given as goal

abbrev pub invariant-loop-i : goal.invariant-loop-i
invariant-loop-i g l = Read l.fields.list l.s l.at l.map l.values l.next l.redundant l.rest l.i
