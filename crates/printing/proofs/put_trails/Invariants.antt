-- Before each turn the lines of the components before this one are laid.
use Rattle.std.proofs.Common.{length}
use Rattle.text.specs.Lines.{trail_line}
use Rattle.text.proofs.PutLaws.{Turns}
use Rattle.printing.specs.Stretches.{stretch_of}
use Rattle.printing.proofs.put_trails.Given as goal

abbrev pub invariant-loop-c : goal.invariant-loop-c
invariant-loop-c l = Turns (λ c. trail_line (stretch_of l.labels c)) l.fn.buf l.fn.at l.list (length l.list) l.buf l.next l.c-index
