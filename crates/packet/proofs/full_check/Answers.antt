-- The full check: the run over the ring, from the switch.
use Rattle.std.proofs.Common.{refl}
use Rattle.rings.specs.Injection.{ring_of}
use Rattle.packet.specs.Runs.{injected_at}
use Rattle.packet.proofs.Probes.{from_switch}
use Rattle.packet.proofs.full_check.Goals as goal

pub returns : goal.returns
returns c = from_switch c.args.ring.now.plant.now c.args.table.now c.args.states.now c.args.ring.now.switch (injected_at c.args.ring.now.switch) _ (ring_of c.args.ring.now.plant.now c.args.ring.now.trail.now c.args.ring.now.switch) refl c.run_ring.ensures
