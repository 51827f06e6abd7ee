-- The counts are those of the rules before the next, and the total is that of `none`.
use Rattle.std.proofs.Common.{◌≡◌, take}
use Rattle.senders.proofs.Senders.{CountsOf}
use Rattle.senders.proofs.by_switch.Given as goal

abbrev pub invariant-loop-rule : goal.invariant-loop-rule
invariant-loop-rule l = record { counts : CountsOf (take l.rule-index l.rule-items) l.b.counts; total : l.b.total ≡ 0 }
