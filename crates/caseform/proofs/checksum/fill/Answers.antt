use Rattle.std.proofs.Common.{rules, arith}
use Rattle.caseform.proofs.Filled.{filled_more}
use Rattle.caseform.specs.Checksum.{held_before}
use Rattle.caseform.proofs.checksum.fill.Goals as goal

pub loop-i-init : goal.loop-i-init
loop-i-init g c = λ k d h. absurd (omega arith)

pub loop-i-preserved : goal.loop-i-preserved
loop-i-preserved g c =
    filled_more (λ i x. g.T.From.from_gives (held_before i) x) c.loop-i.buffer c.loop-i.i c.from.result (search rules) (search rules) c.loop-i.invariant

pub returns : goal.returns
returns g c = λ k d h. c.loop-i.invariant k d (omega arith)
