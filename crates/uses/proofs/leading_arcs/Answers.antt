-- No link has two.
use Rattle.std.proofs.Common.{false, replicate}
use Rattle.lists.proofs.Members.{get_d_same}
use Rattle.limits.specs.Limits.{max_links}
use Rattle.uses.proofs.Uses.{leading}
use Rattle.uses.proofs.leading_arcs.Goals as goal

pub returns : goal.returns
returns c = leading c.args.ends.now.sound c.requires.visits (replicate max_links false) (λ l. get_d_same max_links l false) c.arcs_taken.ensures
