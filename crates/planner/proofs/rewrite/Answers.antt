use mathlib.Core.Path.{◌∙◌, sym}
use Rattle.answers.proofs.Results.{exit}
use Rattle.codec.proofs.FieldLaws.{bytes_known}
use Rattle.planner.proofs.Again.{again_answer, again_buffer, again_refused, again_kept}
use Rattle.planner.proofs.rewrite.Goals as goal

pub returns-in_err-p-clause-result_value : goal.returns-in_err-p-clause-result_value
returns-in_err-p-clause-result_value c = exit (λ n. n) _ _ c.from_residual.ensures.1 ∙ sym (again_refused c.args.listing.now c.args.buffer.now _ (sym c.in_err-p.ensures))

pub returns-in_err-p-clause-buffer_now : goal.returns-in_err-p-clause-buffer_now
returns-in_err-p-clause-buffer_now c = again_kept c.args.listing.now c.args.buffer.now _ (sym c.in_err-p.ensures)

pub returns-clause-result_value : goal.returns-clause-result_value
returns-clause-result_value c =
    c.write.ensures.result_value ∙ again_answer c.args.listing.now c.args.buffer.now _ (bytes_known c.args.listing.now (λ i. (c.type_inv.listing i).fits)) (sym c.in_ok-p.ensures)

pub returns-clause-buffer_now : goal.returns-clause-buffer_now
returns-clause-buffer_now c =
    c.write.ensures.buffer_now ∙ again_buffer c.args.listing.now c.args.buffer.now _ (bytes_known c.args.listing.now (λ i. (c.type_inv.listing i).fits)) (sym c.in_ok-p.ensures)
