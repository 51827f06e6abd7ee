-- The hops after the labels are laid label by label.
use Rattle.std.proofs.Common.{◌*◌}
use Rattle.lists.proofs.Laid.{laid_none}
use Rattle.limits.specs.Limits.{max_links}
use Rattle.round.proofs.hops_after.Goals as goal

pub loop-a-init : goal.loop-a-init
loop-a-init c = laid_none 0 (2 * max_links) _
