-- The refusals of the plant, then what is answered in it.
use Rattle.answers.proofs.Results.{try_given, try_refused}
use Rattle.planning.specs.Planning.{planning_at}
use Rattle.probing.specs.Calls.{run_in, running}
use Rattle.probing.proofs.run.Goals as goal

pub returns : goal.returns
unfolding running
returns c = try_given (planning_at _ _) (run_in _ _ _) _ _ c.in_ok-plan.ensures.plant_value c.run_in.ensures

pub returns-in_err-plan : goal.returns-in_err-plan
unfolding running
returns-in_err-plan c = try_refused (planning_at _ _) (run_in _ _ _) _ _ _ c.from_residual.ensures.1 c.in_err-plan.ensures.plant_value
