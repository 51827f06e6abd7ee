-- Each turn settles one switch, whose component is still the old one.
use Rattle.std.proofs.Common.{Some, None, ◌≡◌, ◌∙◌, ap, arith, get_or}
use Rattle.lists.specs.Arrays.{flag}
use Rattle.lists.specs.Tests.{choose}
use Rattle.components.proofs.Overlaid.{overlaid_put}
use Rattle.components.proofs.settle.Goals as goal

pub loop-x-preserved : goal.loop-x-preserved
loop-x-preserved c =
    let k = c.loop-x in
    let picked : c.pick.result ≡ choose (flag c.args.seen.now k.x) (Some c.args.k) (get_or k.home k.x None) = c.pick.ensures in
    overlaid_put _ _ _ _ k.x k.home _ k.invariant c.loop-x-test.true (picked ∙ ap (choose (flag c.args.seen.now k.x) (Some c.args.k)) (k.invariant.same k.x (omega arith)))
