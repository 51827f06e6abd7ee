-- The round run in a plan: refusals 12 and 13, then the run over the round trail of the component.
use Rattle.std.proofs.Common.{List, ℕ, refl, sym, ap, ◌∙◌}
use Rattle.answers.specs.Answers.{given}
use Rattle.answers.proofs.Results.{exit, passed, turned_down}
use Rattle.rings.specs.Round.{round_run}
use Rattle.probing.specs.Calls.{round_in}
use Rattle.probing.proofs.Lent.{round-enough, round-arcs}
use Rattle.probing.proofs.round_in.Goals as goal

pub invariant_of-ring : goal.invariant_of-ring
invariant_of-ring c = record { sound = c.args.layout.now.chart.ends.sound; over_arcs = round-arcs c.args.layout.now.chart.ends.plant c.args.layout.now.chart.ends.sound c.args.switch c.requires _ c.own_round-own.ensures }

pub round_run-requires : goal.round_run-requires
round_run-requires c = round-enough _ _ _ _ c.in_ok-judge_round.ensures

pub returns : goal.returns
unfolding round_in
returns c =
    ap given (c.round_run.ensures ∙ ap (λ (w : List ℕ). round_run c.args.layout.now.chart.ends.plant w c.args.switch c.args.states.now) c.own_round-own.ensures)
    ∙ sym (passed _ _ c.in_ok-judge_round.ensures _ _ refl)

pub returns-in_err-judge_round : goal.returns-in_err-judge_round
unfolding round_in
returns-in_err-judge_round c = exit _ _ _ c.from_residual.ensures.1 ∙ sym (turned_down _ _ c.in_err-judge_round.ensures _ _ refl)
