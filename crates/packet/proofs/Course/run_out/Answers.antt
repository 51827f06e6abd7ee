-- Each hop brings the packet one label further; one that is lost stays where it is, over the labels that are left.
use Rattle.std.proofs.Common.{◌≡◌, ◌+◌, take, drop, ap, ◌∙◌, arith}
use Rattle.std.proofs.lemmas.Bool.{not-true, not-false}
use lib.ListN.{take-append-drop}
use lib.Seq.{length-take-le}
use Rattle.lists.proofs.Arrays.{take_next}
use Rattle.packet.specs.Runs.{end_of, goes_by}
use Rattle.packet.proofs.Hops.{goes-lost, goes_none, on_two, stays, after-hops}
use Rattle.packet.proofs.Course.run_out.Goals as goal
use Rattle.packet.proofs.Course.run_out.Goals.{After-hop-at}

pub returns-then-not-e : goal.returns-then-not-e
returns-then-not-e g c = goes-lost g.row.N c.args.self.now.plant.now c.args.self.now.rules.now c.args.self.now.states.now (end_of c.args.e) _ (not-true _ c.if-not-e.true)

pub loop-a-init : goal.loop-a-init
loop-a-init g c = record {
  going = not-false _ c.if-not-e.false;
  came = goes_none g.row.N c.args.self.now.plant.now c.args.self.now.rules.now c.args.self.now.states.now (end_of c.args.e);
}

pub hop-at-requires : goal.hop-at-requires
hop-at-requires g c =
    let k = c.loop-a in
    let made = after-hops g.row.N c.args.self.now.plant.now c.args.self.now.rules.now c.args.self.now.states.now (end_of c.args.e) (end_of k.at) (take k.a-index c.args.labels.now) k.invariant.came in
    (omega arith, (k.invariant.going, omega (arith, made, length-take-le k.a-index c.args.labels.now (omega arith), c.loop-a-test.true, c.requires)))

-- with one label more
came : {g : _} (c : After-hop-at g) → end_of c.hop-at.result ≡ goes_by g.row.N c.args.self.now.plant.now c.args.self.now.rules.now c.args.self.now.states.now (end_of c.args.e) (take (c.loop-a.a-index + 1) c.args.labels.now)
came {g} c =
    let k = c.loop-a in
    rw (take_next 0 c.args.labels.now k.a-index c.loop-a-test.true)
    (on_two g.row.N c.args.self.now.plant.now c.args.self.now.rules.now c.args.self.now.states.now (end_of c.args.e) (end_of k.at) (end_of c.hop-at.result) _ _ k.invariant.came c.hop-at.ensures)

pub returns-then-not-at : goal.returns-then-not-at
returns-then-not-at g c =
    let w = c.args.labels.now in
    let i = c.loop-a.a-index + 1 in
    stays g.row.N c.args.self.now.plant.now c.args.self.now.rules.now c.args.self.now.states.now (end_of c.args.e) (end_of c.hop-at.result) (take i w) (drop i w) (came (goal.at.returns-then-not-at g c).After-hop-at) (not-true _ c.if-not-at.true)
    ∙ ap (goes_by g.row.N c.args.self.now.plant.now c.args.self.now.rules.now c.args.self.now.states.now (end_of c.args.e)) (take-append-drop i w)

pub loop-a-preserved : goal.loop-a-preserved
loop-a-preserved g c = record { going = not-false _ c.if-not-at.false; came = came (goal.at.loop-a-preserved g c).After-hop-at }
