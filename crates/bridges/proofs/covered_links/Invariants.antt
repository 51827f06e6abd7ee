-- The links below k that close a cycle are climbed from.
use Rattle.bridges.specs.Inner.{Covered}
use Rattle.bridges.proofs.covered_links.Given as goal

abbrev pub invariant-loop-k : goal.invariant-loop-k
invariant-loop-k l = Covered l.all.ends.now.plant l.k l.c
