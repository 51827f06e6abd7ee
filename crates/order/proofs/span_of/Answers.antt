-- The bounds of the outward labels of a probe.
use Rattle.order.proofs.Spans.{span-found}
use Rattle.order.proofs.span_of.Goals as goal

pub returns : goal.returns
returns c =
    let r = c.args.ring.now in
    span-found r.plant.now r.trail.now r.switch c.args.m c.place_of-k.result _ _ c.place_of-k.ensures.place c.order_from-o.ensures c.out_to-n.ensures _ c.min-len.ensures
