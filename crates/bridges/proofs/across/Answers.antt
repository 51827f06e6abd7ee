-- The definition, by the cases of the code.
use Rattle.std.proofs.Common.{eq-eqb, ne_eqb}
use Rattle.bridges.specs.Inner.{across_of}
use Rattle.bridges.proofs.across.Goals as goal

pub returns-then-x-from : goal.returns-then-x-from
unfolding across_of
returns-then-x-from c = simp (eq-eqb _ _ c.if-x-from.true)

pub returns-else-x-from : goal.returns-else-x-from
unfolding across_of
returns-else-x-from c = simp (ne_eqb _ _ c.if-x-from.false)
