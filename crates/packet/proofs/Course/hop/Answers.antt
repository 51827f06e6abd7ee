-- A hop is the run over one label.
use Rattle.std.proofs.Common.{◌≤◌, ◌*◌, ap₂, ◌∙◌, arith}
use Rattle.walks.specs.Arcs.{head}
use Rattle.packet.specs.Runs.{end_of, after_label}
use Rattle.packet.proofs.Hops.{passes_past, passes_is, hop_is}
use Rattle.packet.proofs.Course.hop.Goals as goal

-- a label past those of the plant
pub returns-then-from-a : goal.returns-then-from-a
returns-then-from-a g c =
    let past : 2 * c.args.self.now.plant.now.count ≤ c.args.a = omega (arith, c.if-from-a.true, c.from.ensures, c.from-a.ensures) in
    let none = passes_past g.row.N c.args.self.now.plant.now c.args.self.now.rules.now c.args.self.now.states.now c.args.self.now.can_run.arcs c.args.e.last c.args.a past in
    hop_is g.row.N c.args.self.now.plant.now c.args.self.now.rules.now c.args.self.now.states.now (end_of c.args.e) (end_of c.after_label.result) c.args.a c.requires.going
    (c.after_label.ensures ∙ rw none)

pub returns : goal.returns
unfolding head
returns g c =
    let is = passes_is g.row.N c.args.self.now.plant.now c.args.self.now.rules.now c.args.self.now.states.now c.args.e.last c.args.a _ (rw c.from-a.ensures at c.crosses-c.ensures) in
    hop_is g.row.N c.args.self.now.plant.now c.args.self.now.rules.now c.args.self.now.states.now (end_of c.args.e) (end_of c.after_label-2.result) c.args.a c.requires.going
    (c.after_label-2.ensures ∙ ap₂ (after_label (end_of c.args.e)) is (rw c.from-a.ensures at c.head_of.ensures))
