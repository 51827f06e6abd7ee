-- What is laid before a turn, and the line that the turn lays, are what is laid after it.
use Rattle.std.proofs.Common.{arith}
use Rattle.std.proofs.Math.Seq.{take-length}
use Rattle.text.proofs.PutLaws.{turns-room, turns_next, turns-all}
use Rattle.planning.specs.Components.{zero_component}
use Rattle.printing.proofs.PageLaws.{trails-each}
use Rattle.printing.proofs.put_trails.Goals as goal

pub put_stretch-next-requires-clause-room : goal.put_stretch-next-requires-clause-room
put_stretch-next-requires-clause-room c =
    turns-room c.loop-c.invariant zero_component (omega arith) c.loop-c-test.true (rw (take-length c.args.list.now, trails-each c.args.labels.now c.args.list.now) c.requires.room)

pub loop-c-preserved : goal.loop-c-preserved
loop-c-preserved c = turns_next c.loop-c.invariant zero_component (omega arith) c.loop-c-test.true c.put_stretch-next.ensures

pub returns : goal.returns
returns c = rw (take-length c.args.list.now, trails-each c.args.labels.now c.args.list.now) at (turns-all c.loop-c.invariant c.loop-c-test.false)
