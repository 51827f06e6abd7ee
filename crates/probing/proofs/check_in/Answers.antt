-- The full check: refusals 12 and 13, then the run of the ring.
use Rattle.std.proofs.Common.{sym, refl, ◌∙◌}
use Rattle.answers.proofs.Results.{exit, passed, turned_down}
use Rattle.planning.proofs.Counted.{flags_same}
use Rattle.rings.specs.Rules.{up_by_link}
use Rattle.packet.specs.Runs.{end_of}
use Rattle.probing.specs.Calls.{check_in}
use Rattle.probing.proofs.Lent.{lent_same, lent_enough, can_run, own-arcs}
use Rattle.probing.proofs.Results.{checked}
use Rattle.probing.proofs.check_in.Goals as goal

pub own_trail-own-requires-clause-trail_value : goal.own_trail-own-requires-clause-trail_value
own_trail-own-requires-clause-trail_value c = lent_same _ _ _ _ c.in_ok-judge_lent.ensures

pub invariant_of-ring : goal.invariant_of-ring
invariant_of-ring c = record { sound = c.args.plan.now.layout.chart.ends.sound; over_arcs = own-arcs c.args.plan.now.layout.chart.ends.plant c.args.plan.now.layout.chart.ends.sound c.args.switch c.requires _ c.own_trail-own.ensures }

pub full_check-requires : goal.full_check-requires
full_check-requires c = can_run c.args.plan.now.layout.chart.ends.plant _ _ c.args.plan.now.layout.chart.charted.used_are (lent_enough _ _ _ _ c.in_ok-judge_lent.ensures)

pub returns : goal.returns
unfolding check_in
returns c =
    checked c.args.plan.now.layout.chart.ends.plant _ c.args.switch c.own_trail-own.ensures (flags_same c.args.plan.now.layout.chart.charted.used_are) (up_by_link c.args.states.now) (end_of c.full_check.result)
    c.full_check.ensures
    ∙ sym (passed _ _ c.in_ok-judge_lent.ensures _ _ refl)

pub returns-in_err-judge_lent : goal.returns-in_err-judge_lent
unfolding check_in
returns-in_err-judge_lent c = exit _ _ _ c.from_residual.ensures.1 ∙ sym (turned_down _ _ c.in_err-judge_lent.ensures _ _ refl)
