-- Of each component the links so far that are in service are counted.
use Rattle.planning.proofs.Counting.{Counted}
use Rattle.planning.proofs.links_by.Given as goal

abbrev pub invariant-loop-link : goal.invariant-loop-link
invariant-loop-link l = Counted l.fn.ends.plant l.link-index l.links
