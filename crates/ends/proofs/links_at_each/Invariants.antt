-- The counts are those of the links before the next.
use Rattle.ends.proofs.Ends.{CountsTo}
use Rattle.ends.proofs.links_at_each.Given as goal

abbrev pub invariant-loop-link : goal.invariant-loop-link
invariant-loop-link l = CountsTo l.p l.link-index l.counts
