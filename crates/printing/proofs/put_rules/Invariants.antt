-- Before each turn the lines of the rules before this one are laid.
use Rattle.std.proofs.Common.{length}
use Rattle.text.proofs.PutLaws.{Turns}
use Rattle.printing.proofs.PageLaws.{rule_bytes}
use Rattle.printing.proofs.put_rules.Given as goal

abbrev pub invariant-loop-r : goal.invariant-loop-r
invariant-loop-r l = Turns rule_bytes l.fn.buf l.fn.at l.rules (length l.rules) l.buf l.next l.r-index
