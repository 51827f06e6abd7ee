-- The round run: the run over the ring under all rules.
use Rattle.packet.proofs.Probes.{round_is}
use Rattle.packet.proofs.round_run.Goals as goal

pub returns : goal.returns
returns c = round_is c.args.ring.now.plant.now c.all_arcs-all.result c.args.states.now c.args.ring.now.trail.now c.args.ring.now.switch _ c.all_arcs-all.ensures c.run_ring.ensures
