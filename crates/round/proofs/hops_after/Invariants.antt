-- The hops after those below a are laid.
use Rattle.std.proofs.Common.{◌*◌}
use Rattle.lists.proofs.Laid.{Laid}
use Rattle.limits.specs.Limits.{max_links}
use Rattle.round.specs.Inner.{hop_after}
use Rattle.round.proofs.hops_after.Given as goal

abbrev pub invariant-loop-a : goal.invariant-loop-a
invariant-loop-a l = Laid 0 (2 * max_links) (hop_after l.t.labels l.t.heads l.t.leading l.t.entered l.t.chains.first l.t.chains.after l.up) l.a l.next
