-- The bounds of a whole ring.
use Rattle.order.specs.Span.{ring_span}
use Rattle.order.proofs.ring_span.Goals as goal

pub returns : goal.returns
unfolding ring_span
returns c = rw c.place_of-k.ensures.place
