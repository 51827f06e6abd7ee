-- Each turn renumbers one switch, whose number is still the old one.
use Rattle.std.proofs.Common.{◌≡◌, ◌∙◌, ap, arith}
use Rattle.lists.specs.Arrays.{flag, at}
use Rattle.lists.specs.Tests.{choose}
use Rattle.components.proofs.Overlaid.{overlaid_put}
use Rattle.components.proofs.renumber.Goals as goal

pub loop-x-preserved : goal.loop-x-preserved
loop-x-preserved c =
    let k = c.loop-x in
    let picked : c.pick.result ≡ choose (flag c.args.seen.now k.x) (at c.args.new.now k.x) (at k.rank k.x) = c.pick.ensures in
    overlaid_put _ _ _ _ k.x k.rank _ k.invariant c.loop-x-test.true (picked ∙ ap (choose (flag c.args.seen.now k.x) (at c.args.new.now k.x)) (k.invariant.same k.x (omega arith)))
