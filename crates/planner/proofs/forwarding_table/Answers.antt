use Rattle.plan.specs.Plan.{table_of}
use Rattle.planner.specs.Calls.{tabling}
use Rattle.planner.proofs.Planned.{plan_giving, plan_refusing}
use Rattle.planner.proofs.forwarding_table.Goals as goal

pub returns-in_err-plan : goal.returns-in_err-plan
unfolding tabling
returns-in_err-plan c = plan_refusing _ table_of _ c.in_err-plan.ensures.plant_value _ c.from_residual.ensures.1

pub returns : goal.returns
unfolding tabling
returns c = plan_giving _ table_of _ c.in_ok-plan.ensures.plant_value _ c.table_of.ensures
