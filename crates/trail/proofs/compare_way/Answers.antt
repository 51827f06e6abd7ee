-- A way compared, hop by hop.
use Rattle.std.proofs.Common.{sym, ◌∙◌, arith}
use Rattle.trail.proofs.Filled.{met-short, met_differs, met-one, met_all}
use Rattle.trail.proofs.Ways.{way_of, next, at_end}
use Rattle.trail.proofs.compare_way.Goals as goal

pub hop-requires : goal.hop-requires
hop-requires c = let w = c.requires in way_of w.parts (c.loop-a.invariant w).0

pub returns-in_err-label : goal.returns-in_err-label
returns-in_err-label c w =
    let k = c.loop-a in
    let none = c.in_err-label.ensures.lookup in
    rw c.from_residual.ensures (met-short (k.invariant w).1 (next w (k.invariant w).0 c.in-Some.a c.in-Some.ensures).goes (omega (arith, none)))

pub returns-then-other : goal.returns-then-other
returns-then-other c w =
    let k = c.loop-a in
    let got = c.in_ok-label.ensures.lookup.3 in
    met_differs (k.invariant w).1 (next w (k.invariant w).0 c.in-Some.a c.in-Some.ensures).goes got.0 (λ e. omega (arith, e, got.1 0, c.if-other.true))

pub bounds-network-a : goal.bounds-network-a
bounds-network-a c =
    let k = c.loop-a in
    let w = c.requires in
    omega (arith, (next w (k.invariant w).0 c.in-Some.a c.in-Some.ensures).label_low)

pub loop-a-smaller : goal.loop-a-smaller
loop-a-smaller c =
    let k = c.loop-a in
    let w = c.requires in
    omega (arith, (next w (k.invariant w).0 c.in-Some.a c.in-Some.ensures).shorter)

pub loop-a-preserved : goal.loop-a-preserved
loop-a-preserved c w =
    let k = c.loop-a in
    let got = c.in_ok-label.ensures.lookup.3 in
    let o = next w (k.invariant w).0 c.in-Some.a c.in-Some.ensures in
    (o.joined, met-one (k.invariant w).1 o.goes got.0 (sym (got.1 0) ∙ c.if-other.false))

pub returns : goal.returns
returns c w = let k = c.loop-a in met_all (k.invariant w).1 (at_end w (k.invariant w).0 c.in_default.ensures)
