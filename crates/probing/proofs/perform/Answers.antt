-- The refusals of the plant, then what is answered in it, and what demand 3 says of that.
use Rattle.std.proofs.Common.{ℕ, ap, sym, ◌∙◌}
use Rattle.answers.proofs.Results.{exit, try_giving, try_no_giving}
use Rattle.search.specs.Calls.{perform, begun}
use Rattle.search.specs.Answers.{calls_in}
use Rattle.planning.specs.Planning.{planning_at}
use Rattle.probing.specs.Calls.{performed_in, performing}
use Rattle.probing.proofs.Searching.{performs, performs-none}
use Rattle.probing.proofs.perform.Goals as goal

pub returns : goal.returns
unfolding performing performed_in
returns c =
    let cs = calls_in c.args.calls.now in
    let plots = c.in_ok-plan.ensures.plant_value in
    let r =
    try_giving (planning_at _ _) (performed_in _ cs) _ _ plots
    (c.perform.ensures ∙ ap (λ (e : ℕ). perform (begun e) cs) c.links_with-links.ensures)
    in
    record { result_value = r; performs = performs _ _ cs _ (sym plots) c.in_ok-plan.plan.layout.chart.ends.sound _ r }

pub returns-in_err-plan : goal.returns-in_err-plan
unfolding performing performed_in
returns-in_err-plan c =
    let cs = calls_in c.args.calls.now in
    record {
      result_value = try_no_giving (planning_at _ _) (performed_in _ cs) _ _ _ c.from_residual.ensures.1 c.in_err-plan.ensures.plant_value;
      performs = performs-none _ _ _ _ _ (exit _ _ _ c.from_residual.ensures.1);
    }
