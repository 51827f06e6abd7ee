-- What the fields from place i on take, and leave of the map, gives what all of them do.
use Rattle.std.proofs.Common.{◌≡◌, ◌+◌, ◌*◌, ◌≤◌, drop}
use Rattle.codec.specs.Part.{size, rest}
use Rattle.codec.proofs.measure.Given as goal

abbrev pub invariant-loop-f : goal.invariant-loop-f
invariant-loop-f g l = record {
  short : l.size ≤ 4 * l.f-index;
  takes : l.size + size l.rest (drop l.f-index l.fields.list) ≡ size l.map l.fields.list;
  leaves : rest l.rest (drop l.f-index l.fields.list) ≡ rest l.map l.fields.list;
}
