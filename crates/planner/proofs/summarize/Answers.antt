use Rattle.planning.specs.Numbers.{numbers_of}
use Rattle.planner.specs.Calls.{summing}
use Rattle.planner.proofs.Planned.{plan_giving, plan_refusing}
use Rattle.planner.proofs.summarize.Goals as goal

pub returns-in_err-plan : goal.returns-in_err-plan
unfolding summing
returns-in_err-plan c = plan_refusing _ numbers_of _ c.in_err-plan.ensures.plant_value _ c.from_residual.ensures.1

pub returns : goal.returns
unfolding summing
returns c = plan_giving _ numbers_of _ c.in_ok-plan.ensures.plant_value _ c.numbers_of.ensures
