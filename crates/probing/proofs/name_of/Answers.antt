-- What is named by what a sound search says.
use Rattle.probing.proofs.Results.{named_link}
use Rattle.probing.proofs.name_of.Goals as goal

pub returns-in-Down : goal.returns-in-Down
returns-in-Down c = named_link c.args.ring.now.plant.now _ _ c.requires.own_value c.order_of-o.result _ _ c.order_of-o.ensures c.in-Down.is
