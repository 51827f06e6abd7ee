-- What is left to store makes what the whole round trail makes.
use Rattle.trail.proofs.Filled.{Stored}
use Rattle.round.specs.Round.{labels_of}
use Rattle.round.proofs.Follow.{rest, Left}
use Rattle.round.proofs.lay.Given as goal

abbrev pub invariant-loop : goal.invariant-loop
invariant-loop l = Left l.x l.counter l.a × Stored l.initial.buf l.from (labels_of l.x) l.buf l.at (rest l.x l.counter l.a)
