-- The even label or the odd one, by the definition.
use Rattle.std.proofs.Common.{arith}
use Rattle.walks.specs.Arcs.{opposite}
use Rattle.arcs.proofs.opposite.Goals as goal

pub returns-then-a-eq0 : goal.returns-then-a-eq0
unfolding opposite
returns-then-a-eq0 c = omega arith

pub returns-else-a-eq0 : goal.returns-else-a-eq0
unfolding opposite
returns-else-a-eq0 c = omega arith
