-- The order of links from the place of a switch.
use Rattle.std.proofs.Common.{ap, ◌∙◌}
use Rattle.rings.specs.Ring.{read_from, ring}
use Rattle.rings.specs.Order.{order}
use Rattle.rings.specs.Injection.{ring_of, order_of}
use Rattle.order.specs.Order.{listed}
use Rattle.order.proofs.order_of.Goals as goal

pub returns : goal.returns
unfolding order_of ring_of ring
returns c = c.order_from.ensures ∙ ap (λ k. listed (order (read_from k c.args.ring.now.trail.now))) c.place_of-k.ensures.place
