-- The sum of the lines before a turn, and the rules of its line, are the sum after it.
use Rattle.std.proofs.Common.{refl, arith}
use Rattle.lists.specs.Sum.{sum}
use Rattle.lists.proofs.Sum.{sum-next}
use Rattle.sheet.specs.Form.{rules_on}
use Rattle.readback.proofs.rules_sum.Goals as goal

pub loop-x-init : goal.loop-x-init
unfolding sum
loop-x-init c = (refl, omega arith)

pub loop-x-preserved : goal.loop-x-preserved
loop-x-preserved c = (
  omega (arith, c.loop-x.invariant.0, c.number_on-total.ensures.value, sum-next (rules_on c.args.page.now) c.loop-x.x),
  omega (arith, c.number_on-total.ensures.upper_bound, c.loop-x.invariant.1),
)
