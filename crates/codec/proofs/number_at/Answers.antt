use Rattle.std.proofs.Common.{arith}
use Rattle.codec.proofs.FieldLaws.{from_next, from_room}
use Rattle.codec.proofs.number_at.Goals as goal

pub overflow_mul-n : goal.overflow_mul-n
overflow_mul-n c = let r = from_room _ _ _ _ _ c.requires.0 c.loop-i-test.true c.loop-i.invariant in omega arith

pub overflow_add-n : goal.overflow_add-n
overflow_add-n c = let r = from_room _ _ _ _ _ c.requires.0 c.loop-i-test.true c.loop-i.invariant in omega arith

pub loop-i-preserved : goal.loop-i-preserved
loop-i-preserved c = from_next _ _ _ _ _ _ c.loop-i-test.true c.loop-i.auto.i c.byte_at.ensures.0 c.byte_at.ensures.1 c.loop-i.invariant
