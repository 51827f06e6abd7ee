-- Of the links that are reached the bridges have two.
use Rattle.uses.proofs.Uses.{in_use}
use Rattle.uses.proofs.arcs_in_use.Goals as goal

pub returns : goal.returns
returns c = in_use c.args.all.now.ends.now.sound c.args.all.now.tells_all c.requires c.arcs_taken.ensures
