-- Each list follows the one before, and there is room for all.
use Rattle.std.proofs.Common.{◌<◌, length, refl, arith}
use Rattle.planning.proofs.OneAfterAnother.{laid-begin, laid_next, laid-room, laid_end}
use Rattle.planning.proofs.lay_each.Goals as goal

pub loop-i-init : goal.loop-i-init
loop-i-init g c w = laid-begin w.list w.numbers _

pub lay-at-requires : goal.lay-at-requires
lay-at-requires g c =
    let w = c.requires in
    let h : c.loop-i.i < length w.numbers = omega (arith, w.count_is) in
    w.may_lay _ _ _ h (laid-room _ _ (c.loop-i.invariant w) _ refl w.fits h refl)

pub loop-i-preserved : goal.loop-i-preserved
loop-i-preserved g c w =
    let h : c.loop-i.i < length w.numbers = omega (arith, w.count_is) in
    laid_next w.list w.numbers (c.loop-i.invariant w) h refl (w.laid _ _ _ _ _ h c.lay-at.ensures)

pub returns : goal.returns
returns g c w = laid_end w.list w.numbers (c.loop-i.invariant w) _ refl w.fits (omega (arith, w.count_is))
