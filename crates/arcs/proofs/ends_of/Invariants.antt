-- The ends of the labels below a are laid.
use Rattle.std.proofs.Common.{◌*◌}
use Rattle.lists.proofs.Laid.{Laid}
use Rattle.limits.specs.Limits.{max_links}
use Rattle.walks.specs.Arcs.{tail, head}
use Rattle.arcs.proofs.ends_of.Given as goal

abbrev pub invariant-loop-a : goal.invariant-loop-a
invariant-loop-a l = Laid 0 (2 * max_links) (tail l.fn.p) l.a l.tails × Laid 0 (2 * max_links) (head l.fn.p) l.a l.heads
