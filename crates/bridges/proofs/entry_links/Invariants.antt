-- The links below l are told.
use Rattle.bridges.specs.Inner.{EntryLinks}
use Rattle.bridges.proofs.entry_links.Given as goal

abbrev pub invariant-loop-l : goal.invariant-loop-l
invariant-loop-l l = EntryLinks l.all.ends.now.plant l.l l.up
