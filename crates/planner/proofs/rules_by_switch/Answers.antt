use mathlib.Core.Path.{◌≡◌, sym, ap, ◌∙◌, subst}
use mathlib.Core.List.{List}
use Prim.Native.Nat.{ℕ}
use Rattle.plant.specs.declared.Plant.{Plant}
use Rattle.answers.specs.Answers.{given}
use Rattle.answers.specs.Checks.{answer}
use Rattle.answers.proofs.Checks.{given-given}
use Rattle.senders.specs.declared.BySwitch.{BySwitch}
use Rattle.senders.specs.Senders.{by_switch}
use Rattle.senders.specs.Placed.{Placed}
use Rattle.plan.specs.Plan.{table_of}
use Rattle.plan.specs.Totals.{Totals}
use Rattle.plan.proofs.Totals.{placed, totals}
use Rattle.planning.specs.declared.Plan.{Plan}
use Rattle.listing.specs.Listing.{reading}
use Rattle.planner.specs.Calls.{tabling, counting}
use Rattle.planner.proofs.Planned.{plan_giving}
use Rattle.planner.proofs.rules_by_switch.Goals as goal

-- what is found of the plant that was planned adds up
adds_up : (s : List ℕ) (x : Plan) (b : BySwitch) → answer (reading s) ≡ given x.layout.chart.ends.plant → b ≡ by_switch (table_of x.layout.chart.ends.plant)
    → (p : Plant) → answer (reading s) ≡ given p → Totals p b
adds_up s x b e q p g =
    subst (λ (k : Plant). Totals k b) (given-given x.layout.chart.ends.plant p (sym e ∙ g)) (subst (Totals x.layout.chart.ends.plant) (sym q) (totals x.layout.chart.ends.plant x.layout.chart.ends.sound))

pub by_switch-rules-requires : goal.by_switch-rules-requires
by_switch-rules-requires c = subst Placed (sym c.table_of-table.ensures) (placed _ c.in_ok-planned.planned.layout.chart.ends.sound)

pub returns-clause-counts : goal.returns-clause-counts
unfolding tabling counting
returns-clause-counts c =
    plan_giving _ (λ p. by_switch (table_of p)) _ c.in_ok-planned.ensures.plant_value _ (c.by_switch-rules.ensures ∙ ap by_switch c.table_of-table.ensures)

pub returns-clause-adds_up : goal.returns-clause-adds_up
returns-clause-adds_up c =
    adds_up _ c.in_ok-planned.planned _ (sym c.in_ok-planned.ensures.plant_value) (c.by_switch-rules.ensures ∙ ap by_switch c.table_of-table.ensures)
