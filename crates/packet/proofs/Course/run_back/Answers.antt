-- Each hop brings the packet one label further back; one that is lost stays where it is, over the way back that is left.
use Rattle.std.proofs.Common.{◌≡◌, ◌++◌, [], ◌∷◌, ℕ, List, length, sym, ap, ◌∙◌, append_assoc, append-nil, length-append, arith}
use Rattle.std.proofs.lemmas.Bool.{not-true, not-false}
use Rattle.rings.specs.Probe.{back}
use Rattle.rings.proofs.Parts.{back-append}
use Rattle.packet.specs.Runs.{end_of, goes_by}
use Rattle.packet.proofs.Hops.{goes-lost, goes_none, on_two, stays, after-hops}
use Rattle.packet.proofs.Ways.{back-length}
use Rattle.packet.proofs.Course.run_back.Goals as goal
use Rattle.packet.proofs.Course.run_back.Goals.{After-hop-at}

pub returns-then-not-e : goal.returns-then-not-e
returns-then-not-e g c = goes-lost g.row.N c.args.self.now.plant.now c.args.self.now.rules.now c.args.self.now.states.now (end_of c.args.e) _ (not-true _ c.if-not-e.true)

pub loop-a-init : goal.loop-a-init
loop-a-init g c = record {
  going = not-false _ c.if-not-e.false;
  passed = [];
  parts = rw (c.into_iter-a-iterator.ensures.into_iter_gives, c.rev-a-items.ensures.source, c.iter.ensures.rest) (append-nil c.args.labels.now);
  came = goes_none g.row.N c.args.self.now.plant.now c.args.self.now.rules.now c.args.self.now.states.now (end_of c.args.e);
}

pub hop-at-requires : goal.hop-at-requires
hop-at-requires g c =
    let k = c.loop-a in
    let made = after-hops g.row.N c.args.self.now.plant.now c.args.self.now.rules.now c.args.self.now.states.now (end_of c.args.e) (end_of k.at) (back k.invariant.passed) k.invariant.came in
    let left = length-append c.next.new.self.iter.rest.now (c.in-Some.a.now ∷ []) in
    let parts = length-append k.a-iterator.iter.rest.now k.invariant.passed in (
      omega arith,
      (k.invariant.going, omega (arith, made, back-length k.invariant.passed, ap length k.invariant.parts, parts, ap length c.in-Some.ensures.steps, left, c.requires)),
    )

-- with one label more
parts : {g : _} (c : After-hop-at g) → c.next.new.self.iter.rest.now ++ (c.in-Some.a.now ∷ c.loop-a.invariant.passed) ≡ c.args.labels.now
parts c =
    let passed = c.loop-a.invariant.passed in
    sym (append_assoc c.next.new.self.iter.rest.now (c.in-Some.a.now ∷ []) passed) ∙ ap (λ (v : List ℕ). v ++ passed) (sym c.in-Some.ensures.steps) ∙ c.loop-a.invariant.parts

came : {g : _} (c : After-hop-at g) → end_of c.hop-at.result ≡ goes_by g.row.N c.args.self.now.plant.now c.args.self.now.rules.now c.args.self.now.states.now (end_of c.args.e) (back (c.in-Some.a.now ∷ c.loop-a.invariant.passed))
came {g} c =
    let k = c.loop-a in
    on_two g.row.N c.args.self.now.plant.now c.args.self.now.rules.now c.args.self.now.states.now (end_of c.args.e) (end_of k.at) (end_of c.hop-at.result) (back k.invariant.passed) _ k.invariant.came (rw c.opposite.ensures at c.hop-at.ensures)

pub returns-then-not-at : goal.returns-then-not-at
returns-then-not-at g c =
    let h = (goal.at.returns-then-not-at g c).After-hop-at in
    let rest = c.next.new.self.iter.rest.now in
    let passed : List ℕ = c.in-Some.a.now ∷ c.loop-a.invariant.passed in
    stays g.row.N c.args.self.now.plant.now c.args.self.now.rules.now c.args.self.now.states.now (end_of c.args.e) (end_of c.hop-at.result) (back passed) (back rest) (came h) (not-true _ c.if-not-at.true)
    ∙ ap (goes_by g.row.N c.args.self.now.plant.now c.args.self.now.rules.now c.args.self.now.states.now (end_of c.args.e)) (sym (back-append rest passed) ∙ ap back (parts h))

pub loop-a-preserved : goal.loop-a-preserved
loop-a-preserved g c =
    let h = (goal.at.loop-a-preserved g c).After-hop-at in
    record { going = not-false _ c.if-not-at.false; passed = c.in-Some.a.now ∷ c.loop-a.invariant.passed; parts = parts h; came = came h }
