-- The list begins with what is left just where it begins with the whole round trail.
use Rattle.trail.proofs.Filled.{Met}
use Rattle.round.specs.Round.{labels_of}
use Rattle.round.proofs.Follow.{rest, Left}
use Rattle.round.proofs.compare.Given as goal

abbrev pub invariant-loop : goal.invariant-loop
invariant-loop l = Left l.x l.counter l.a × Met l.lent l.from (labels_of l.x) l.at (rest l.x l.counter l.a)
