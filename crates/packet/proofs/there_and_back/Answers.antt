-- Out over two stretches and back over them: each run makes no more hops than it has labels.
use Rattle.std.proofs.Common.{arith}
use Rattle.packet.specs.Runs.{end_of}
use Rattle.packet.proofs.Ways.{back-length}
use Rattle.packet.proofs.Hops.{after-hops}
use Rattle.packet.proofs.Probes.{injected_hops, on_four}
use Rattle.packet.proofs.there_and_back.Goals as goal

pub run_on-f-requires-clause-labels_bound : goal.run_on-f-requires-clause-labels_bound
run_on-f-requires-clause-labels_bound c = omega (arith, injected_hops _ _ c.injected.ensures, after-hops 2 _ _ _ _ _ _ c.run_on-e.ensures)

pub run_back-g-requires : goal.run_back-g-requires
run_back-g-requires c =
    omega (arith, injected_hops _ _ c.injected.ensures, after-hops 2 _ _ _ _ _ _ c.run_on-e.ensures, after-hops 2 _ _ _ _ _ _ c.run_on-f.ensures)

pub run_back-requires : goal.run_back-requires
run_back-requires c =
    omega (
      arith,
      injected_hops _ _ c.injected.ensures,
      after-hops 2 _ _ _ _ _ _ c.run_on-e.ensures,
      after-hops 2 _ _ _ _ _ _ c.run_on-f.ensures,
      after-hops 2 _ _ _ _ _ _ c.run_back-g.ensures,
      back-length c.args.y.now,
    )

pub returns : goal.returns
returns c =
    let s = c.args.course.now in
    on_four 2 s.plant.now s.rules.now s.states.now c.args.s (end_of c.injected.result) (end_of c.run_on-e.result) (end_of c.run_on-f.result) (end_of c.run_back-g.result) _
    c.args.x.now c.args.y.now c.injected.ensures c.run_on-e.ensures c.run_on-f.ensures c.run_back-g.ensures c.run_back.ensures
