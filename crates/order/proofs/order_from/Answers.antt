-- Each label's link has a place, and there are no more links than places.
use Rattle.std.proofs.Common.{◌≡◌, ◌<◌, ◌∷◌, ◌/◌, refl, arith}
use Rattle.limits.specs.Limits.{max_links}
use Rattle.rings.specs.Ring.{read_from}
use Rattle.order.proofs.Chained.{left, left_on, left_some, left_none}
use Rattle.order.proofs.Rings.{links_in}
use Rattle.order.proofs.Gathering.{gathered_none, gathered_all, link_in, gathered_old, room, gathered_new}
use Rattle.order.proofs.order_from.Goals as goal
use Rattle.order.proofs.order_from.Goals.{In-Some}

pub loop-a-init : goal.loop-a-init
unfolding read_from
loop-a-init c =
    let e : left c.into_iter-a-iterator.result ≡ read_from c.args.k c.args.ring.now.trail.now = rw (c.into_iter-a-iterator.ensures.into_iter_gives, c.chain-a-items.ensures.first_done, c.chain-a-items.ensures.first, c.chain-a-items.ensures.second, c.iter.ensures.rest, c.iter-2.ensures.rest, c.split_at.ensures.back, c.split_at.ensures.front) refl in
    record {
      goes_on = rw c.into_iter-a-iterator.ensures.into_iter_gives c.chain-a-items.ensures.second_done;
      gathered = rw e (gathered_none _);
    }

-- label a comes next
next : (c : In-Some) → left c.loop-a.a-iterator ≡ c.in-Some.a.now ∷ left c.next.new.self
next c = left_some c.loop-a.a-iterator c.next.new.self c.loop-a.invariant.goes_on c.in-Some.a (rw c.in-Some.is at c.next.ensures.steps)

place : (c : In-Some) → c.in-Some.a.now / 2 < max_links
place c = link_in _ _ (links_in c.args.ring.now) c.loop-a.invariant.gathered (next c)

pub bounds-seen-from : goal.bounds-seen-from
bounds-seen-from c = let h = place (goal.at.bounds-seen-from c).In-Some in omega (arith, h, c.from.ensures)

pub bounds-seen-from-then-not-seen-from : goal.bounds-seen-from-then-not-seen-from
bounds-seen-from-then-not-seen-from c =
    let h = place (goal.at.bounds-seen-from-then-not-seen-from c).In-Some in
    omega (arith, h, c.from-then-not-seen-from.ensures)

pub bounds-links-from : goal.bounds-links-from
bounds-links-from c =
    let h = room _ _ (links_in c.args.ring.now) c.loop-a.invariant.gathered (next (goal.at.bounds-links-from c).In-Some) (rw c.from.ensures at c.if-not-seen-from.true) in
    omega (arith, h, c.from-then-not-seen-from-2.ensures)

pub overflow_add-count : goal.overflow_add-count
overflow_add-count c =
    let h = room _ _ (links_in c.args.ring.now) c.loop-a.invariant.gathered (next (goal.at.overflow_add-count c).In-Some) (rw c.from.ensures at c.if-not-seen-from.true) in
    omega (arith, h)

pub loop-a-preserved-then-not-seen-from : goal.loop-a-preserved-then-not-seen-from
loop-a-preserved-then-not-seen-from c = record {
  goes_on = left_on c.loop-a.a-iterator c.next.new.self c.loop-a.invariant.goes_on _ c.next.ensures.steps;
  gathered =
      rw (c.from-then-not-seen-from.ensures, c.from-then-not-seen-from-2.ensures) (
      gathered_new _ _ (links_in c.args.ring.now) c.loop-a.invariant.gathered (next (goal.at.loop-a-preserved-then-not-seen-from c).In-Some) (rw c.from.ensures at c.if-not-seen-from.true)
      );
}

pub loop-a-preserved : goal.loop-a-preserved
loop-a-preserved c = record {
  goes_on = left_on c.loop-a.a-iterator c.next.new.self c.loop-a.invariant.goes_on _ c.next.ensures.steps;
  gathered = gathered_old _ _ (links_in c.args.ring.now) c.loop-a.invariant.gathered (next (goal.at.loop-a-preserved c).In-Some) (rw c.from.ensures at c.if-not-seen-from.false);
}

pub returns : goal.returns
returns c =
    let k = c.loop-a in
    gathered_all _ _ (links_in c.args.ring.now) (left_none k.a-iterator c.next.new.self k.invariant.goes_on (rw c.in-None.is at c.next.ensures.steps)) k.invariant.gathered
