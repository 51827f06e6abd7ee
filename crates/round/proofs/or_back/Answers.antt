-- The test tells which of the two labels it is.
use Rattle.std.proofs.Common.{refl}
use borrow.Author.Tests.{lt-ltb, le-ltb}
use Rattle.round.specs.Inner.{or_back}
use Rattle.round.proofs.or_back.Goals as goal

pub returns-then-next-n : goal.returns-then-next-n
unfolding or_back
returns-then-next-n c = rw (lt-ltb _ _ c.if-next-n.true) refl

pub returns-else-next-n : goal.returns-else-next-n
unfolding or_back
returns-else-next-n c = rw (le-ltb _ _ c.if-next-n.false) refl
