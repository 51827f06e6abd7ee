-- The bounds of the same labels, from a place on.
use Rattle.std.proofs.Common.{refl}
use Rattle.order.specs.Span.{shifted_by}
use Rattle.order.proofs.shifted.Goals as goal

pub returns : goal.returns
unfolding shifted_by
returns c = refl
