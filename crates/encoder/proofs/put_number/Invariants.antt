-- The last bytes, laid into the buffer, give what all of them give.
use Rattle.std.proofs.Common.{◌≡◌, ◌+◌, ◌-◌, length}
use lib.Seq.{sets}
use Rattle.codec.specs.Field.{bytes_of}
use Rattle.encoder.proofs.put_number.Given as goal

abbrev pub invariant-loop-i : goal.invariant-loop-i
invariant-loop-i l = record {
  same : length l.buf ≡ length l.initial.buf;
  laid : sets l.buf (l.at + l.i) (bytes_of (l.width - l.i) l.v) ≡ sets l.initial.buf l.at (bytes_of l.width l.value);
}
