-- The hop towards a switch, along the chain of u.
use Rattle.std.proofs.Common.{arith}
use Rattle.trail.proofs.Tried.{tried-first, tried_next, tried_found, tried_all}
use Rattle.trail.proofs.Ways.{over}
use Rattle.trail.proofs.hop.Goals as goal

pub loop-a-init : goal.loop-a-init
loop-a-init c w = tried-first w.parts w.joined

pub returns-then-network-y : goal.returns-then-network-y
returns-then-network-y c w =
    let k = c.loop-a in
    (c.if-u-to.false, tried_found w.parts w.joined k.a (k.invariant w) c.loop-a-test.true c.if-network-y.true)

pub loop-a-smaller : goal.loop-a-smaller
loop-a-smaller c =
    let k = c.loop-a in
    let w = c.requires in
    omega (arith, c.loop-a-test.true, (tried_next w.parts w.joined k.a (k.invariant w) c.loop-a-test.true c.if-network-y.false).0)

pub loop-a-preserved : goal.loop-a-preserved
loop-a-preserved c w =
    let k = c.loop-a in
    (tried_next w.parts w.joined k.a (k.invariant w) c.loop-a-test.true c.if-network-y.false).1

pub returns : goal.returns
returns c w =
    let k = c.loop-a in
    let o = over w.parts c.args.u c.args.to k.a w.joined c.if-u-to.false (tried_all w.parts w.joined k.a (k.invariant w) c.loop-a-test.false) in
    absurd (omega (arith, c.loop-a-test.false, o.is_arc))
