-- The refusals of the plant, then what is answered in it.
use Rattle.std.proofs.Common.{◌≡◌, ap, ◌∙◌}
use Rattle.answers.proofs.Results.{try_giving, try_no_giving}
use Rattle.walks.specs.Components.{links_with}
use Rattle.search.specs.Search.{new_search}
use Rattle.planning.specs.Planning.{planning_at}
use Rattle.probing.specs.Calls.{beginning}
use Rattle.probing.proofs.new_search.Goals as goal

pub returns : goal.returns
unfolding beginning
returns c =
    let begun : c.new.result ≡ new_search c.links_with-links.result = c.new.ensures in
    try_giving (planning_at _ _) (λ p. new_search (links_with p c.args.switch)) _ _ c.in_ok-plan.ensures.plant_value (begun ∙ ap new_search c.links_with-links.ensures)

pub returns-in_err-plan : goal.returns-in_err-plan
unfolding beginning
returns-in_err-plan c = try_no_giving (planning_at _ _) (λ p. new_search (links_with p c.args.switch)) _ _ _ c.from_residual.ensures.1 c.in_err-plan.ensures.plant_value
