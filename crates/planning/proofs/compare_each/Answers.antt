-- Each list is compared where the one before ended; where one differs, all of them together do.
use Rattle.std.proofs.Common.{◌<◌, length, refl, arith}
use Rattle.planning.proofs.OneAfterAnother.{tells-begin, tells-next, tells_away, tells_end}
use Rattle.planning.proofs.compare_each.Goals as goal

pub loop-i-init : goal.loop-i-init
loop-i-init g c w = tells-begin w.list w.numbers w.lent

pub returns-in_err-at : goal.returns-in_err-at
returns-in_err-at g c w =
    let h : c.loop-i.i < length w.numbers = omega (arith, w.count_is) in
    rw c.from_residual.ensures (tells_away _ _ _ _ _ (c.loop-i.invariant w) h _ refl _ (w.told _ _ _ h c.compare.ensures) _ refl c.in_err-at.was)

pub loop-i-preserved : goal.loop-i-preserved
loop-i-preserved g c w =
    let h : c.loop-i.i < length w.numbers = omega (arith, w.count_is) in
    tells-next w.list w.numbers w.lent _ _ (c.loop-i.invariant w) h _ refl _ (w.told _ _ _ h c.compare.ensures) _ c.in_ok-at.was

pub returns : goal.returns
returns g c w = tells_end w.list w.numbers w.lent _ _ (c.loop-i.invariant w) _ refl (omega (arith, w.count_is))
