-- Refusal 19, then those of the listing, or the switches of its plant and the links in service of the component of the switch. Assumes nothing.
use Rattle.std.proofs.Common.{ℕ, leb, ap, subst, ◌∙◌, [], ◌∷◌, Err}
use Rattle.std.specs.Result.{result_and}
use Rattle.answers.specs.Results.{Judges}
use Rattle.answers.proofs.Results.{exit}
use Rattle.plant.specs.declared.Plant.{Plant}
use Rattle.planning.specs.declared.Plan.{Plan}
use Rattle.consoles.specs.Answers.{sized}
use Rattle.consoles.specs.Calls.{console_out_of_range}
use Rattle.consoles.proofs.Sizing.{not_given, sized_on, sized_off}
use Rattle.consoles.proofs.size_of.Goals as goal

-- of what the listing comes to
abbrev plant_of : Plan → Plant
plant_of y = y.layout.chart.ends.plant

pub returns-in_err-judge : goal.returns-in_err-judge
unfolding console_out_of_range
returns-in_err-judge c =
    let known : Judges ((19, console_out_of_range c.args.console) ∷ []) c.judge.result = subst (λ (n : ℕ). Judges ((19, leb 4 n) ∷ []) c.judge.result) c.from-past.ensures c.judge.ensures in
    let z = Err c.in_err-judge.field-0.0 in
    exit sized _ _ c.from_residual.ensures.1
    ∙ sized_off c.args.console _ _ _ known plant_of z (λ u h. absurd (not_given _ _ c.in_err-judge.was u h)) _ (ap (λ v. result_and v z) c.in_err-judge.was)

pub returns-in_err-plan : goal.returns-in_err-plan
unfolding console_out_of_range
returns-in_err-plan c =
    let known : Judges ((19, console_out_of_range c.args.console) ∷ []) c.judge.result = subst (λ (n : ℕ). Judges ((19, leb 4 n) ∷ []) c.judge.result) c.from-past.ensures c.judge.ensures in
    exit sized _ _ c.from_residual-in_err-plan.ensures.1
    ∙ sized_off c.args.console _ _ _ known plant_of _ (λ u h. c.plan_of.ensures.plant_value) _ (ap (λ v. result_and v c.plan_of.result) c.in_ok-judge.was ∙ c.in_err-plan.was)

pub returns : goal.returns
unfolding console_out_of_range
returns c =
    let known : Judges ((19, console_out_of_range c.args.console) ∷ []) c.judge.result = subst (λ (n : ℕ). Judges ((19, leb 4 n) ∷ []) c.judge.result) c.from-past.ensures c.judge.ensures in
    sized_on c.args.console _ _ _ known plant_of _ (λ u h. c.plan_of.ensures.plant_value) _ (ap (λ v. result_and v c.plan_of.result) c.in_ok-judge.was ∙ c.in_ok-plan.was) _ c.links_with-links.ensures
