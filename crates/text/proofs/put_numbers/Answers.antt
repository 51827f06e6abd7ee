-- What is laid before a turn, and the number that the turn lays, are what is laid after it.
use Rattle.std.proofs.Common.{arith}
use Rattle.std.proofs.Math.Seq.{take-length}
use Rattle.text.proofs.PutLaws.{turns-room, turns_next}
use Rattle.text.proofs.put_numbers.Goals as goal

pub put_number-next-requires : goal.put_number-next-requires
put_number-next-requires c = rw c.from.ensures (turns-room c.loop-n.invariant 0 (omega arith) c.loop-n-test.true (rw (take-length c.args.ns.now) c.requires))

pub loop-n-preserved : goal.loop-n-preserved
loop-n-preserved c = turns_next c.loop-n.invariant 0 (omega arith) c.loop-n-test.true (rw c.from.ensures at c.put_number-next.ensures)
