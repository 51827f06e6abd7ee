-- The refusals of the plant, then what is answered in it.
use Rattle.answers.proofs.Results.{try_given, try_refused}
use Rattle.planning.specs.Planning.{planning_at}
use Rattle.probing.specs.Calls.{order_in, ordering}
use Rattle.probing.proofs.Lent.{planned_in}
use Rattle.probing.proofs.order_of_links.Goals as goal

pub order_in-requires : goal.order_in-requires
order_in-requires c = planned_in _ _ _ c.in_ok-plan.ensures.plant_value

pub returns : goal.returns
unfolding ordering
returns c = try_given (planning_at _ _) (order_in _ _) _ _ c.in_ok-plan.ensures.plant_value c.order_in.ensures

pub returns-in_err-plan : goal.returns-in_err-plan
unfolding ordering
returns-in_err-plan c = try_refused (planning_at _ _) (order_in _ _) _ _ _ c.from_residual.ensures.1 c.in_err-plan.ensures.plant_value
