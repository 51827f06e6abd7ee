-- Before each turn the numbers before this one are laid.
use Rattle.std.proofs.Common.{length}
use Rattle.text.specs.Lines.{spaced}
use Rattle.text.proofs.PutLaws.{Turns}
use Rattle.text.proofs.put_numbers.Given as goal

abbrev pub invariant-loop-n : goal.invariant-loop-n
invariant-loop-n l = Turns spaced l.fn.buf l.at l.ns (length l.ns) l.buf l.next l.n-index
