-- The first hop that leaves the switch is the place; where none does, it is past the trail.
use Rattle.std.proofs.Common.{sym, ◌∙◌, arith, below_more}
use Rattle.lists.proofs.Members.{get_d_in}
use Rattle.walks.specs.Arcs.{tail}
use Rattle.rings.proofs.Ring.{place_is, place_none}
use Rattle.order.proofs.Rings.{links_in}
use Rattle.order.proofs.place_of.Goals as goal

pub bounds-ring-a : goal.bounds-ring-a
bounds-ring-a c =
    let r = c.args.ring.now in
    let h = links_in r _ (get_d_in r.trail.now c.loop-i.i c.loop-i-test.true) in
    omega (arith, c.from-a.ensures, h)

pub returns-then-tail_of-ring-clause-place : goal.returns-then-tail_of-ring-clause-place
unfolding tail
returns-then-tail_of-ring-clause-place c =
    let r = c.args.ring.now in
    sym
    (place_is (tail r.plant.now) r.switch r.trail.now c.loop-i.i (record {
      inside = c.loop-i-test.true;
      leaves = sym (rw c.from-a.ensures at c.tail_of.ensures) ∙ c.if-tail_of-ring.true;
      before = c.loop-i.invariant;
    }))

pub loop-i-preserved : goal.loop-i-preserved
unfolding tail
loop-i-preserved c = below_more _ _ c.loop-i.invariant (λ e. c.if-tail_of-ring.false (rw c.from-a.ensures at c.tail_of.ensures ∙ e))

pub returns-clause-place : goal.returns-clause-place
returns-clause-place c = let r = c.args.ring.now in sym (place_none (tail r.plant.now) r.switch r.trail.now (λ j h. c.loop-i.invariant j (omega arith)))
