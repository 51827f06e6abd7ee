-- The run of a probe: the full check, or out and back.
use Rattle.packet.proofs.Probes.{full_is, back_is}
use Rattle.packet.proofs.probe_run.Goals as goal

pub returns-then-m-links : goal.returns-then-m-links
returns-then-m-links c =
    full_is c.args.ring.now.plant.now c.args.table.now c.args.states.now c.args.ring.now.trail.now c.args.ring.now.switch c.args.links c.args.m _ c.if-m-links.true c.full_check.ensures

pub returns : goal.returns
returns c =
    back_is c.args.ring.now.plant.now c.all_arcs-all_rules.result c.args.states.now c.args.ring.now.trail.now c.args.ring.now.switch c.all_arcs-all_rules.ensures _ c.args.links c.args.m
    c.span_of-span.result _ _ _ c.if-m-links.false c.span_of-span.ensures c.stretch.ensures c.front.ensures c.there_and_back.ensures
