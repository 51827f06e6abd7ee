-- The links of a ring gathered label by label: what the labels passed have given.
use Rattle.std.proofs.Common.{◌≡◌, false}
use Rattle.rings.specs.Ring.{read_from}
use Rattle.order.proofs.Chained.{left}
use Rattle.order.proofs.Gathering.{Gathered}
use Rattle.order.proofs.order_from.Given as goal

abbrev pub invariant-loop-a : goal.invariant-loop-a
invariant-loop-a l = record {
  goes_on : l.a-iterator.b_done ≡ false;
  gathered : Gathered (read_from l.k l.ring.trail.now) (left l.a-iterator) l.links l.seen l.count;
}
