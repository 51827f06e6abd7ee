-- Each turn joins one flag, which is still the old one.
use Rattle.std.proofs.Common.{Bool, ◌||◌, ap, arith}
use Rattle.lists.specs.Arrays.{flag}
use Rattle.components.proofs.Overlaid.{overlaid_put}
use Rattle.components.proofs.join.Goals as goal

pub loop-l-preserved : goal.loop-l-preserved
loop-l-preserved c =
    let k = c.loop-l in
    overlaid_put _ _ _ _ k.l k.into _ k.invariant c.loop-l-test.true (ap (λ (b : Bool). b || flag c.args.more.now k.l) (k.invariant.same k.l (omega arith)))
