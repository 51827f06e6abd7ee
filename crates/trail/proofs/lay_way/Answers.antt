-- A way into a buffer, hop by hop.
use Rattle.std.proofs.Common.{◌<◌, length, ap, arith}
use Rattle.arcs.proofs.Ways.{way_size}
use Rattle.trail.proofs.Filled.{stored_one, stored_all}
use Rattle.trail.proofs.Ways.{way_of, next, at_end}
use Rattle.trail.proofs.lay_way.Goals as goal

pub hop-requires : goal.hop-requires
hop-requires c = let w = c.requires.way in way_of w.parts (c.loop-a.invariant w).0

pub bounds-buf-at : goal.bounds-buf-at
bounds-buf-at c =
    let k = c.loop-a in
    let w = c.requires.way in
    omega (arith, c.requires.to_in_bounds, way_size w.parts w.joined, (k.invariant w).1, ap length (next w (k.invariant w).0 c.in-Some.a c.in-Some.ensures).goes)

pub offset_bounds-buf-at : goal.offset_bounds-buf-at
offset_bounds-buf-at c =
    let k = c.loop-a in
    let w = c.requires.way in
    let room : k.at < length k.buf = omega (arith, c.requires.to_in_bounds, way_size w.parts w.joined, (k.invariant w).1, ap length (next w (k.invariant w).0 c.in-Some.a c.in-Some.ensures).goes) in
    omega (arith, room, (k.invariant w).1, c.well_formed)

pub overflow_add-at : goal.overflow_add-at
overflow_add-at c =
    let k = c.loop-a in
    let w = c.requires.way in
    let room : k.at < length k.buf = omega (arith, c.requires.to_in_bounds, way_size w.parts w.joined, (k.invariant w).1, ap length (next w (k.invariant w).0 c.in-Some.a c.in-Some.ensures).goes) in
    omega (arith, room, (k.invariant w).1, c.well_formed)

pub bounds-network-a : goal.bounds-network-a
bounds-network-a c =
    let k = c.loop-a in
    let w = c.requires.way in
    omega (arith, (next w (k.invariant w).0 c.in-Some.a c.in-Some.ensures).label_low)

pub loop-a-smaller : goal.loop-a-smaller
loop-a-smaller c =
    let k = c.loop-a in
    let w = c.requires.way in
    omega (arith, (next w (k.invariant w).0 c.in-Some.a c.in-Some.ensures).shorter)

pub loop-a-preserved : goal.loop-a-preserved
loop-a-preserved c w =
    let k = c.loop-a in
    let o = next w (k.invariant w).0 c.in-Some.a c.in-Some.ensures in
    (o.joined, stored_one (k.invariant w).1 o.goes)

pub returns : goal.returns
returns c w = let k = c.loop-a in stored_all (k.invariant w).1 (at_end w (k.invariant w).0 c.in_default.ensures)
