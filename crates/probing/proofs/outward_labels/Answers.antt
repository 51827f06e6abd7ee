-- The refusals of the plant, then what is answered in it.
use Rattle.answers.proofs.Results.{try_given, try_refused}
use Rattle.codec.proofs.FieldLaws.{bytes_known}
use Rattle.planning.specs.Planning.{planning_at}
use Rattle.probing.specs.Calls.{outward_in, outgoing}
use Rattle.probing.proofs.Lent.{planned_in}
use Rattle.probing.proofs.OutwardLabels.{outward-parts}
use Rattle.probing.proofs.outward_labels.Goals as goal

pub outward_in-requires : goal.outward_in-requires
outward_in-requires c = planned_in _ _ _ c.in_ok-plan.ensures.plant_value

pub returns : goal.returns
unfolding outgoing
returns c =
    let r = try_given (planning_at _ _) (outward_in _ _ _) _ _ c.in_ok-plan.ensures.plant_value c.outward_in.ensures in
    record { result_value = r; outward_parts = outward-parts _ (bytes_known c.args.listing.now (λ i. (c.type_inv.listing i).fits)) _ _ _ _ r }

pub returns-in_err-plan : goal.returns-in_err-plan
unfolding outgoing
returns-in_err-plan c =
    let r = try_refused (planning_at _ _) (outward_in _ _ _) _ _ _ c.from_residual.ensures.1 c.in_err-plan.ensures.plant_value in
    record { result_value = r; outward_parts = outward-parts _ (bytes_known c.args.listing.now (λ i. (c.type_inv.listing i).fits)) _ _ _ _ r }
