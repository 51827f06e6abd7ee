-- The spare first, then the room, and then the page.
use mathlib.Core.Logic.{inl, inr}
use Rattle.std.proofs.Common.{sym, ◌∙◌}
use Rattle.answers.proofs.Results.{exit}
use Rattle.quoting.proofs.Counts.{priced_shown}
use Rattle.quoting.proofs.Quotes.{priced, room-enough, quote_given, quote_left, quote_refused, quote_kept}
use Rattle.quoting.proofs.put_page.Goals as goal

pub returns-in_err-counts-clause-result_value : goal.returns-in_err-counts-clause-result_value
returns-in_err-counts-clause-result_value c =
    exit (λ n. n) _ _ c.from_residual.ensures.1 ∙ quote_refused c.args.x.now.ends.plant c.args.spare c.args.buffer.now _ c.price.ensures _ (inl c.in_err-counts.was)

pub returns-in_err-counts-clause-buffer_now : goal.returns-in_err-counts-clause-buffer_now
returns-in_err-counts-clause-buffer_now c = quote_kept c.args.x.now.ends.plant c.args.spare c.args.buffer.now _ c.price.ensures _ (inl c.in_err-counts.was)

pub returns-in_err-judge_room-clause-result_value : goal.returns-in_err-judge_room-clause-result_value
returns-in_err-judge_room-clause-result_value c =
    exit (λ n. n) _ _ c.from_residual-in_err-judge_room.ensures.1
    ∙ quote_refused c.args.x.now.ends.plant c.args.spare c.args.buffer.now _ c.price.ensures _
    (inr (_, c.in_ok-counts.was, _, c.page_length-n.ensures, _, c.judge_room.ensures, c.in_err-judge_room.was))

pub returns-in_err-judge_room-clause-buffer_now : goal.returns-in_err-judge_room-clause-buffer_now
returns-in_err-judge_room-clause-buffer_now c =
    quote_kept c.args.x.now.ends.plant c.args.spare c.args.buffer.now _ c.price.ensures _
    (inr (_, c.in_ok-counts.was, _, c.page_length-n.ensures, _, c.judge_room.ensures, c.in_err-judge_room.was))

pub invariant_of-put_page : goal.invariant_of-put_page
invariant_of-put_page c =
    let p = c.args.x.now.ends.plant in
    let w = priced_shown p c.args.x.now.ends.sound c.args.spare _ (priced p c.args.spare c.args.buffer.now _ c.price.ensures _ c.in_ok-counts.was) in
    record { few = w.few; three_digits = w.digits }

pub put_page-requires : goal.put_page-requires
put_page-requires c =
    let p = c.args.x.now.ends.plant in
    room-enough p c.args.spare c.args.buffer.now _ c.price.ensures _ c.in_ok-counts.was _ c.page_length-n.ensures _ c.judge_room.ensures _ c.in_ok-judge_room.was

pub returns-clause-result_value : goal.returns-clause-result_value
returns-clause-result_value c =
    let p = c.args.x.now.ends.plant in
    sym (quote_given p c.args.spare c.args.buffer.now _ c.price.ensures _ c.in_ok-counts.was _ c.page_length-n.ensures _ c.judge_room.ensures _ c.in_ok-judge_room.was)

pub returns-clause-buffer_now : goal.returns-clause-buffer_now
returns-clause-buffer_now c =
    let p = c.args.x.now.ends.plant in
    c.put_page.ensures
    ∙ quote_left p c.args.spare c.args.buffer.now _ c.price.ensures _ c.in_ok-counts.was _ c.page_length-n.ensures _ c.judge_room.ensures _ c.in_ok-judge_room.was
