-- The refusals of the plant, then what is answered in it.
use Rattle.answers.proofs.Results.{try_given, try_refused}
use Rattle.codec.proofs.FieldLaws.{bytes_known}
use Rattle.planning.specs.Planning.{planning_at}
use Rattle.probing.specs.Calls.{choice_in, choosing}
use Rattle.probing.proofs.Lent.{planned_in}
use Rattle.probing.proofs.Rounds.{chosen-hops}
use Rattle.probing.proofs.shorter_trail.Goals as goal

pub choose_in-requires : goal.choose_in-requires
choose_in-requires c = planned_in _ _ _ c.in_ok-plan.ensures.plant_value

pub returns : goal.returns
unfolding choosing
returns c =
    let r = try_given (planning_at _ _) (choice_in _ _ _) _ _ c.in_ok-plan.ensures.plant_value c.choose_in.ensures in
    record { result_value = r; chosen_hops = chosen-hops _ (bytes_known c.args.listing.now (λ i. (c.type_inv.listing i).fits)) _ _ _ _ r }

pub returns-in_err-plan : goal.returns-in_err-plan
unfolding choosing
returns-in_err-plan c =
    let r = try_refused (planning_at _ _) (choice_in _ _ _) _ _ _ c.from_residual.ensures.1 c.in_err-plan.ensures.plant_value in
    record { result_value = r; chosen_hops = chosen-hops _ (bytes_known c.args.listing.now (λ i. (c.type_inv.listing i).fits)) _ _ _ _ r }
