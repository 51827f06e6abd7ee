-- The refusals of the plant, then what is answered in it.
use Rattle.answers.proofs.Results.{try_given, try_refused}
use Rattle.planning.specs.Planning.{planning_at}
use Rattle.probing.specs.Calls.{round_in, round_running}
use Rattle.probing.proofs.Lent.{planned_in}
use Rattle.probing.proofs.round_run.Goals as goal

pub round_in-requires : goal.round_in-requires
round_in-requires c = planned_in _ _ _ c.in_ok-plan.ensures.plant_value

pub returns : goal.returns
unfolding round_running
returns c = try_given (planning_at _ _) (round_in _ _ _) _ _ c.in_ok-plan.ensures.plant_value c.round_in.ensures

pub returns-in_err-plan : goal.returns-in_err-plan
unfolding round_running
returns-in_err-plan c = try_refused (planning_at _ _) (round_in _ _ _) _ _ _ c.from_residual.ensures.1 c.in_err-plan.ensures.plant_value
