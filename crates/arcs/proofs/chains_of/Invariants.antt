-- The flagged labels from a on are in their chains.
use Rattle.lists.specs.Arrays.{flag, at}
use Rattle.arcs.proofs.Chain.{ChainedFrom}
use Rattle.arcs.proofs.chains_of.Given as goal

abbrev pub invariant-loop-a : goal.invariant-loop-a
invariant-loop-a l = ChainedFrom l.n (at l.tails) (flag l.flags) l.a l.first l.after
