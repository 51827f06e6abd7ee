use mathlib.Core.Path.{◌∙◌, sym}
use Rattle.answers.proofs.Results.{exit}
use Rattle.planner.proofs.Buying.{page-given, page-left, page-refused, page-kept}
use Rattle.planner.proofs.write_buying_page.Goals as goal

pub returns-in_err-plan-clause-result_value : goal.returns-in_err-plan-clause-result_value
returns-in_err-plan-clause-result_value c = exit (λ n. n) _ _ c.from_residual.ensures.1 ∙ sym (page-refused _ _ _ _ (sym c.in_err-plan.ensures.plant_value))

pub returns-in_err-plan-clause-buffer_now : goal.returns-in_err-plan-clause-buffer_now
returns-in_err-plan-clause-buffer_now c = page-kept _ _ _ _ (sym c.in_err-plan.ensures.plant_value)

pub returns-clause-result_value : goal.returns-clause-result_value
returns-clause-result_value c = c.put_page.ensures.result_value ∙ page-given _ _ _ _ (sym c.in_ok-plan.ensures.plant_value)

pub returns-clause-buffer_now : goal.returns-clause-buffer_now
returns-clause-buffer_now c = c.put_page.ensures.buffer_now ∙ page-left _ _ _ _ (sym c.in_ok-plan.ensures.plant_value)
