-- The refusals of the plant, then what is answered in it.
use Rattle.answers.proofs.Results.{try_given, try_refused}
use Rattle.planning.specs.Planning.{planning_at}
use Rattle.probing.specs.Calls.{probe_in, probing}
use Rattle.probing.proofs.Lent.{planned_in}
use Rattle.probing.proofs.run_probe.Goals as goal

pub probe_in-requires : goal.probe_in-requires
probe_in-requires c = planned_in _ _ _ c.in_ok-plan.ensures.plant_value

pub returns : goal.returns
unfolding probing
returns c = try_given (planning_at _ _) (probe_in _ _ _ _) _ _ c.in_ok-plan.ensures.plant_value c.probe_in.ensures

pub returns-in_err-plan : goal.returns-in_err-plan
unfolding probing
returns-in_err-plan c = try_refused (planning_at _ _) (probe_in _ _ _ _) _ _ _ c.from_residual.ensures.1 c.in_err-plan.ensures.plant_value
