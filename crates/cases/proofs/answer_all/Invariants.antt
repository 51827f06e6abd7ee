-- What was written so far stays.
use Rattle.streams.specs.Streams.{Grows}
use Rattle.cases.proofs.answer_all.Given as goal

abbrev pub invariant-loop : goal.invariant-loop
invariant-loop g l = Grows (g.W.Write.contents l.fn.out) (g.W.Write.contents l.out)
