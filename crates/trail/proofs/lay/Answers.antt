-- The trail into a buffer, leg by leg.
use Rattle.std.proofs.Common.{◌<◌, length, refl, arith}
use Rattle.arcs.proofs.Ways.{way_size}
use Rattle.trail.proofs.Filled.{stored_one, stored_room, stored_list, stored_all}
use Rattle.trail.proofs.Along.{leg, back}
use Rattle.trail.proofs.Ways.{way_of}
use Rattle.trail.proofs.lay.Goals as goal

pub returns : goal.returns
returns c w =
    let b = back w _ _ (c.loop-a.invariant w).0 c.loop-a-test.false in
    stored_all (stored_list (c.loop-a.invariant w).1 b.goes (c.lay_way.ensures (way_of w.parts b.joined))) refl

pub bounds-network-x : goal.bounds-network-x
bounds-network-x c = let w = c.requires.trailing in omega (arith, (leg w _ _ (c.loop-a.invariant w).0 c.loop-a-test.true).label_low)

pub lay_way-j-requires-clause-way : goal.lay_way-j-requires-clause-way
lay_way-j-requires-clause-way c = let w = c.requires.trailing in way_of w.parts (leg w _ _ (c.loop-a.invariant w).0 c.loop-a-test.true).joined

pub lay_way-j-requires-clause-to_in_bounds : goal.lay_way-j-requires-clause-to_in_bounds
lay_way-j-requires-clause-to_in_bounds c =
    let w = c.requires.trailing in
    let l = leg w _ _ (c.loop-a.invariant w).0 c.loop-a-test.true in
    omega (arith, stored_room (c.loop-a.invariant w).1 l.goes c.requires.fits, way_size w.parts l.joined)

pub bounds-buf-j : goal.bounds-buf-j
bounds-buf-j c =
    let w = c.requires.trailing in
    let l = leg w _ _ (c.loop-a.invariant w).0 c.loop-a-test.true in
    omega (arith, stored_list (c.loop-a.invariant w).1 l.goes (c.lay_way-j.ensures (way_of w.parts l.joined)), c.requires.fits)

pub offset_bounds-buf-j : goal.offset_bounds-buf-j
offset_bounds-buf-j c =
    let w = c.requires.trailing in
    let l = leg w _ _ (c.loop-a.invariant w).0 c.loop-a-test.true in
    let room : c.lay_way-j.result < length c.lay_way-j.new.buf = omega (arith, stored_list (c.loop-a.invariant w).1 l.goes (c.lay_way-j.ensures (way_of w.parts l.joined)), c.requires.fits) in
    omega (arith, room, stored_list (c.loop-a.invariant w).1 l.goes (c.lay_way-j.ensures (way_of w.parts l.joined)), c.well_formed)

pub overflow_add-j : goal.overflow_add-j
overflow_add-j c =
    let w = c.requires.trailing in
    let l = leg w _ _ (c.loop-a.invariant w).0 c.loop-a-test.true in
    let room : c.lay_way-j.result < length c.lay_way-j.new.buf = omega (arith, stored_list (c.loop-a.invariant w).1 l.goes (c.lay_way-j.ensures (way_of w.parts l.joined)), c.requires.fits) in
    omega (arith, room, stored_list (c.loop-a.invariant w).1 l.goes (c.lay_way-j.ensures (way_of w.parts l.joined)), c.well_formed)

pub bounds-network-x-in-loop-a : goal.bounds-network-x-in-loop-a
bounds-network-x-in-loop-a c = let w = c.requires.trailing in omega (arith, (leg w _ _ (c.loop-a.invariant w).0 c.loop-a-test.true).label_low)

pub loop-a-preserved : goal.loop-a-preserved
loop-a-preserved c w =
    let l = leg w _ _ (c.loop-a.invariant w).0 c.loop-a-test.true in
    (l.head_inside, stored_one (stored_list (c.loop-a.invariant w).1 l.goes (c.lay_way-j.ensures (way_of w.parts l.joined))) refl)

pub lay_way-requires-clause-way : goal.lay_way-requires-clause-way
lay_way-requires-clause-way c = let w = c.requires.trailing in way_of w.parts (back w _ _ (c.loop-a.invariant w).0 c.loop-a-test.false).joined

pub lay_way-requires-clause-to_in_bounds : goal.lay_way-requires-clause-to_in_bounds
lay_way-requires-clause-to_in_bounds c =
    let w = c.requires.trailing in
    let b = back w _ _ (c.loop-a.invariant w).0 c.loop-a-test.false in
    omega (arith, stored_room (c.loop-a.invariant w).1 b.goes c.requires.fits, way_size w.parts b.joined)
