-- The round trail into a buffer, hop by hop.
use Rattle.std.proofs.Common.{◌<◌, length, ap, arith}
use Rattle.trail.proofs.Filled.{stored_none, stored_one}
use Rattle.round.proofs.Follow.{left-all, left-length, left-begin, left_is, left_label, left-next}
use Rattle.round.proofs.lay.Goals as goal

pub loop-init : goal.loop-init
loop-init c = (left-begin _ c.requires.labels, stored_none (left-all _))

pub offset_bounds-buf-at : goal.offset_bounds-buf-at
offset_bounds-buf-at c =
    let k = c.loop in
    let room : k.at < length k.buf = omega (arith, c.requires.hops_in_bounds, k.invariant.1, left-length c.args.x, ap length (left_is _ k.counter k.a k.invariant.0 c.loop-test.true)) in
    omega (arith, room, k.invariant.1, c.well_formed)

pub bounds-buf-at : goal.bounds-buf-at
bounds-buf-at c =
    let k = c.loop in
    omega (arith, c.requires.hops_in_bounds, k.invariant.1, left-length c.args.x, ap length (left_is _ k.counter k.a k.invariant.0 c.loop-test.true))

pub overflow_add-at : goal.overflow_add-at
overflow_add-at c =
    let k = c.loop in
    let room : k.at < length k.buf = omega (arith, c.requires.hops_in_bounds, k.invariant.1, left-length c.args.x, ap length (left_is _ k.counter k.a k.invariant.0 c.loop-test.true)) in
    omega (arith, room, k.invariant.1, c.well_formed)

pub bounds-x-a : goal.bounds-x-a
bounds-x-a c = let k = c.loop in left_label _ k.counter k.a k.invariant.0 c.loop-test.true

pub loop-preserved : goal.loop-preserved
loop-preserved c =
    let k = c.loop in
    let h = c.loop-test.true in
    (left-next _ k.counter k.a k.invariant.0 h, stored_one k.invariant.1 (left_is _ k.counter k.a k.invariant.0 h))
