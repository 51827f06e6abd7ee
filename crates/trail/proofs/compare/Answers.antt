-- A lent trail compared, leg by leg.
use Rattle.std.proofs.Common.{refl, sym, ◌∙◌, arith}
use Rattle.std.specs.Prelude.{Some, None}
use Rattle.trail.proofs.Filled.{met-short, met_differs, met-one, met_other, met_list, met-last}
use Rattle.trail.proofs.Along.{leg, back}
use Rattle.trail.proofs.Ways.{way_of}
use Rattle.trail.proofs.compare.Goals as goal

pub bounds-network-x : goal.bounds-network-x
bounds-network-x c = let w = c.requires in omega (arith, (leg w _ _ (c.loop-aim.invariant w).0 c.loop-aim-test.true).label_low)

pub compare_way-requires : goal.compare_way-requires
compare_way-requires c = let w = c.requires in way_of w.parts (leg w _ _ (c.loop-aim.invariant w).0 c.loop-aim-test.true).joined

pub returns-in_err-i : goal.returns-in_err-i
returns-in_err-i c w =
    let l = leg w _ _ (c.loop-aim.invariant w).0 c.loop-aim-test.true in
    rw c.from_residual.ensures (met_other (c.loop-aim.invariant w).1 l.goes None (c.in_err-i.ensures (way_of w.parts l.joined)) refl)

pub returns-in_err-label : goal.returns-in_err-label
returns-in_err-label c w =
    let l = leg w _ _ (c.loop-aim.invariant w).0 c.loop-aim-test.true in
    let none = c.in_err-label.ensures.lookup in
    rw c.from_residual-in_err-label.ensures (met-short (met_list (c.loop-aim.invariant w).1 l.goes (Some c.in_ok-i.i) (c.in_ok-i.ensures (way_of w.parts l.joined)) refl) refl (omega (arith, none)))

pub returns-then-label-aim : goal.returns-then-label-aim
returns-then-label-aim c w =
    let l = leg w _ _ (c.loop-aim.invariant w).0 c.loop-aim-test.true in
    let got = c.in_ok-label.ensures.lookup.3 in
    met_differs (met_list (c.loop-aim.invariant w).1 l.goes (Some c.in_ok-i.i) (c.in_ok-i.ensures (way_of w.parts l.joined)) refl) refl got.0 (λ e. c.if-label-aim.true (got.1 0 ∙ e))

pub bounds-network-x-in-loop-aim : goal.bounds-network-x-in-loop-aim
bounds-network-x-in-loop-aim c = let w = c.requires in omega (arith, (leg w _ _ (c.loop-aim.invariant w).0 c.loop-aim-test.true).label_low)

pub loop-aim-preserved : goal.loop-aim-preserved
loop-aim-preserved c w =
    let l = leg w _ _ (c.loop-aim.invariant w).0 c.loop-aim-test.true in
    let got = c.in_ok-label.ensures.lookup.3 in
    (l.head_inside, met-one (met_list (c.loop-aim.invariant w).1 l.goes (Some c.in_ok-i.i) (c.in_ok-i.ensures (way_of w.parts l.joined)) refl) refl got.0 (sym (got.1 0) ∙ c.if-label-aim.false))

pub compare_way-requires-2 : goal.compare_way-requires-2
compare_way-requires-2 c = let w = c.requires in way_of w.parts (back w _ _ (c.loop-aim.invariant w).0 c.loop-aim-test.false).joined

pub returns : goal.returns
returns c w =
    let b = back w _ _ (c.loop-aim.invariant w).0 c.loop-aim-test.false in
    met-last (c.loop-aim.invariant w).1 b.goes c.compare_way-2.result (c.compare_way-2.ensures (way_of w.parts b.joined))
