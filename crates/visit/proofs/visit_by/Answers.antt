-- The state that the visit shows is the only one that the visit's relation leads to.
use Rattle.std.proofs.Common.{arith}
use Rattle.visit.proofs.Whole.{begin-at, tried, whole}
use Rattle.visit.proofs.visit_by.Goals as goal

pub visit_from-requires-clause-some_arcs : goal.visit_from-requires-clause-some_arcs
visit_from-requires-clause-some_arcs c = let all = c.args.all.now in tried _ all.sound all.heads.now all.heads_are all.all_chained

pub visit_from-requires-clause-at : goal.visit_from-requires-clause-at
visit_from-requires-clause-at c = rw c.begin.ensures (begin-at _ (omega (arith, c.args.all.now.sound.few_switches, c.requires)))

pub returns : goal.returns
returns c =
    let all = c.args.all.now in
    whole _ all.sound all.heads.now all.heads_are _ c.requires _ (rw c.begin.ensures at (c.visit_from.ensures (tried _ all.sound all.heads.now all.heads_are all.all_chained)))
