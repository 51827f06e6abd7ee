use Rattle.std.proofs.Common.{arith}
use Rattle.codec.proofs.LayoutLaws.{map-room}
use Rattle.encoder.proofs.part_map.Goals as goal

pub overflow_mul-m : goal.overflow_mul-m
overflow_mul-m g c = let r = map-room _ _ _ _ c.loop-i.invariant c.loop-i-test.true (omega (arith, c.requires)) in omega arith

pub overflow_add-m : goal.overflow_add-m
overflow_add-m g c = let r = map-room _ _ _ _ c.loop-i.invariant c.loop-i-test.true (omega (arith, c.requires)) in omega (arith, c.field_bit.ensures.1)
