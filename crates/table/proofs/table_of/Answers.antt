-- A flagged label adds its rule, for which there is a place; any other adds none.
use Rattle.std.proofs.Common.{◌<◌, ◌∙◌, arith}
use Rattle.limits.specs.Limits.{max_rules}
use Rattle.table.proofs.Rules.{table_none, table-place, table_rule, table-skip}
use Rattle.table.proofs.table_of.Goals as goal
use Rattle.table.proofs.table_of.Goals.{After-from, then-in_use, else-in_use}

pub loop-label-init : goal.loop-label-init
loop-label-init c = c.empty-t.ensures ∙ table_none _ _ _

pub loop-label-preserved : goal.loop-label-preserved
loop-label-preserved c =
    let k = c.loop-label in
    elim c.if-in_use.branch [
      | then-in_use w ↦ w.t-is ∙ rw (w.from.ensures, c.from-a.ensures) (table_rule _ _ _ _ c.requires.used_bound k.label c.loop-label-test.true (rw c.from-a.ensures at w.if-in_use.true) k.t k.invariant)
      | else-in_use w ↦ w.t-is ∙ table-skip _ _ _ k.label k.t (rw c.from-a.ensures at w.if-in_use.false) k.invariant
    ]

-- there is a place for the rule
fits : (c : After-from) → c.loop-label.t.count < max_rules
fits c =
    let k = c.loop-label in
    table-place _ _ _ _ c.requires.used_bound k.label c.loop-label-test.true (rw c.from-a.ensures at c.if-in_use.true) k.t k.invariant

pub offset_bounds-t-from : goal.offset_bounds-t-from
offset_bounds-t-from c = let h = fits (goal.at.offset_bounds-t-from c).After-from in omega (arith, h, c.from.ensures)

pub bounds-t-from : goal.bounds-t-from
bounds-t-from c = let h = fits (goal.at.bounds-t-from c).After-from in omega (arith, h, c.from.ensures)

pub overflow_add-t : goal.overflow_add-t
overflow_add-t c = let h = fits (goal.at.overflow_add-t c).After-from in omega (arith, h)
