-- What is laid before a turn, and the line that the turn lays, are what is laid after it.
use Rattle.std.proofs.Common.{arith}
use Rattle.std.proofs.Math.Seq.{take-length}
use Rattle.table.specs.Rules.{zero_rule}
use Rattle.text.proofs.PutLaws.{turns-room, turns_next, turns-all}
use Rattle.printing.proofs.PageLaws.{rules-each}
use Rattle.printing.proofs.put_rules.Goals as goal

pub put_rule-next-requires : goal.put_rule-next-requires
put_rule-next-requires c = turns-room c.loop-r.invariant zero_rule (omega arith) c.loop-r-test.true (rw (take-length c.args.rules.now, rules-each c.args.rules.now) c.requires)

pub loop-r-preserved : goal.loop-r-preserved
loop-r-preserved c = turns_next c.loop-r.invariant zero_rule (omega arith) c.loop-r-test.true c.put_rule-next.ensures

pub returns : goal.returns
returns c = rw (take-length c.args.rules.now, rules-each c.args.rules.now) at (turns-all c.loop-r.invariant c.loop-r-test.false)
