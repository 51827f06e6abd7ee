-- The run over a ring: the stretch of the trail from the place of the switch, then the front.
use Rattle.std.proofs.Common.{length, ap, arith}
use lib.ListN.{length-drop}
use lib.Seq.{length-take-le}
use Rattle.packet.specs.Runs.{end_of}
use Rattle.packet.proofs.Hops.{after-hops}
use Rattle.packet.proofs.Probes.{injected_hops, ring-is}
use Rattle.packet.proofs.Course.run_ring.Goals as goal

pub run_out-requires : goal.run_out-requires
run_out-requires g c =
    omega (
      arith,
      injected_hops _ _ c.injected.ensures,
      after-hops g.row.N _ _ _ _ _ _ c.run_out-e.ensures,
      ap length c.split_at.ensures.front,
      ap length c.split_at.ensures.back,
      length-drop c.place_of-k.result c.args.trail.now,
      length-take-le c.place_of-k.result c.args.trail.now c.place_of-k.ensures.in_trail,
    )

pub returns : goal.returns
returns g c =
    let s = c.args.self.now in
    ring-is g.row.N s.plant.now s.rules.now s.states.now c.args.trail.now c.args.s c.place_of-k.result
    (end_of c.injected.result) (end_of c.run_out-e.result) _ c.place_of-k.ensures.place c.injected.ensures (rw c.split_at.ensures.back at c.run_out-e.ensures) (rw c.split_at.ensures.front at c.run_out.ensures)
