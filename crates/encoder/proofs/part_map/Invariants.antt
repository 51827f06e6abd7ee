-- The loop goes from the high bit down: m is the map of the fields from i on.
use Rattle.codec.proofs.LayoutLaws.{MapFrom}
use Rattle.encoder.proofs.part_map.Given as goal

abbrev pub invariant-loop-i : goal.invariant-loop-i
invariant-loop-i g l = MapFrom l.fields l.values l.i l.m
