-- An outcome: the refusals of its listing, or what the console does.
use Rattle.std.proofs.Common.{ℕ, ap, ◌∙◌}
use Rattle.answers.specs.Checks.{answer}
use Rattle.consoles.specs.Calls.{sizing, outcome}
use Rattle.consoles.proofs.Serving.{refused_value, refused_desk, served_value, served_desk}
use Rattle.consoles.proofs.give_outcome.Goals as goal

pub returns-in_err-size : goal.returns-in_err-size
returns-in_err-size c =
    let r = outcome c.args.o in
    let q = c.size_of.ensures ∙ ap (λ (x : ℕ). answer (sizing c.args.console c.args.listing.now x)) c.switch_of-at.ensures in
    record {
      result_value = refused_value _ _ _ r _ c.console_of-c.ensures _ q _ c.in_err-size.was _ c.from_residual.ensures.1;
      desk_after = refused_desk _ _ _ r _ c.console_of-c.ensures _ q _ c.in_err-size.was;
    }

pub returns : goal.returns
returns c =
    let r = outcome c.args.o in
    let q = c.size_of.ensures ∙ ap (λ (x : ℕ). answer (sizing c.args.console c.args.listing.now x)) c.switch_of-at.ensures in
    record {
      result_value = served_value _ _ _ r _ c.console_of-c.ensures _ q _ c.in_ok-size.was _ c.told.ensures _ c.kept.ensures.result_value;
      desk_after = served_desk _ _ _ r _ c.console_of-c.ensures _ q _ c.in_ok-size.was _ c.told.ensures _ c.kept.ensures.desk_after;
    }
