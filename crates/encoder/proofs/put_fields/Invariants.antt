-- The bytes of the fields from i on, laid into the buffer, give what all of them give.
use Rattle.codec.specs.Part.{body_of}
use Rattle.encoder.proofs.PutLaws.{body_from, Laid}
use Rattle.encoder.proofs.put_fields.Given as goal

abbrev pub invariant-loop-i : goal.invariant-loop-i
invariant-loop-i g l = Laid (body_of l.fields l.values) l.initial.buf l.from (body_from l.fields l.values l.i) l.buf l.at
