-- A lent round trail compared, hop by hop.
use Rattle.std.proofs.Common.{sym, ◌∙◌, arith}
use Rattle.lists.specs.Arrays.{at}
use Rattle.trail.proofs.Filled.{met-none, met-short, met_differs, met-one, met_all}
use Rattle.round.proofs.Follow.{follow-none, left-all, left-begin, left_is, left_label, left-next}
use Rattle.round.proofs.compare.Goals as goal

pub loop-init : goal.loop-init
loop-init c = (left-begin _ c.requires, met-none (left-all _))

pub returns-in_err-label : goal.returns-in_err-label
returns-in_err-label c =
    let k = c.loop in
    let none = c.in_err-label.ensures.lookup in
    rw c.from_residual.ensures (met-short k.invariant.1 (left_is _ k.counter k.a k.invariant.0 c.loop-test.true) (omega (arith, none)))

pub returns-then-label-a : goal.returns-then-label-a
returns-then-label-a c =
    let k = c.loop in
    let got = c.in_ok-label.ensures.lookup.3 in
    met_differs k.invariant.1 (left_is _ k.counter k.a k.invariant.0 c.loop-test.true) got.0 (λ e. omega (arith, e, got.1 0, c.if-label-a.true))

pub bounds-x-a : goal.bounds-x-a
bounds-x-a c = let k = c.loop in left_label _ k.counter k.a k.invariant.0 c.loop-test.true

pub loop-preserved : goal.loop-preserved
loop-preserved c =
    let k = c.loop in
    let h = c.loop-test.true in
    let got = c.in_ok-label.ensures.lookup.3 in
    (left-next _ k.counter k.a k.invariant.0 h, met-one k.invariant.1 (left_is _ k.counter k.a k.invariant.0 h) got.0 (sym (got.1 0) ∙ c.if-label-a.false))

pub returns : goal.returns
returns c =
    let x = c.args.x in
    let k = c.loop in
    met_all k.invariant.1 (follow-none (at x.next) k.a x.hops k.counter c.loop-test.false)
