use Rattle.std.proofs.Common.{sym, ap, ◌∙◌}
use Rattle.answers.specs.Answers.{given}
use Rattle.answers.specs.Results.{Judges}
use Rattle.answers.proofs.Results.{exit}
use Rattle.listing.proofs.WriteLaws.{write_checks, judged_both, kept, write-refused, write-length, left-written}
use Rattle.writing.proofs.write.Goals as goal
use Rattle.writing.proofs.write.Goals.{After-and-fit}

judged : (c : After-and-fit) → Judges (write_checks c.args.p c.args.buffer.now) c.and-fit.result
judged c = judged_both c.args.p c.args.buffer.now _ _ _ _ c.judge_plant-sound.ensures c.listing_size-n.ensures c.judge_room-room.ensures c.and-fit.ensures

pub returns-in_err-fit : goal.returns-in_err-fit
returns-in_err-fit c =
    let e = write-refused _ _ _ (rw c.in_err-fit.was at (judged (goal.at.returns-in_err-fit c).After-and-fit)) in
    record { result_value = exit _ _ _ c.from_residual.ensures.1 ∙ sym e; buffer_now = sym (kept _ _ _ e) }

pub returns : goal.returns
returns c =
    let j = rw c.in_ok-fit.was at (judged (goal.at.returns c).After-and-fit) in
    record {
      result_value = ap given c.listing_size-n.ensures ∙ sym (write-length _ _ _ j);
      buffer_now = c.put_listing.ensures ∙ left-written _ _ _ j;
    }
