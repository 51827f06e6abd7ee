-- The run of the probe wanted: refusals 12 and 13, then 14 and 15 or the probe wanted.
use Rattle.std.proofs.Common.{sym, refl, ◌∙◌, arith}
use Rattle.answers.proofs.Results.{exit, passed, turned_down}
use Rattle.probing.specs.Calls.{probe_in}
use Rattle.probing.proofs.Injection.{links-few}
use Rattle.probing.proofs.Lent.{lent_same, lent_enough, can_run, own-arcs}
use Rattle.probing.proofs.probe_in.Goals as goal

pub own_trail-own-requires-clause-trail_value : goal.own_trail-own-requires-clause-trail_value
own_trail-own-requires-clause-trail_value c = lent_same _ _ _ _ c.in_ok-judge_lent.ensures

pub invariant_of-ring : goal.invariant_of-ring
invariant_of-ring c = record { sound = c.args.plan.now.layout.chart.ends.sound; over_arcs = own-arcs c.args.plan.now.layout.chart.ends.plant c.args.plan.now.layout.chart.ends.sound c.args.switch c.requires _ c.own_trail-own.ensures }

pub probe_over-requires-clause-can_run : goal.probe_over-requires-clause-can_run
probe_over-requires-clause-can_run c =
    can_run c.args.plan.now.layout.chart.ends.plant _ _ c.args.plan.now.layout.chart.charted.used_are (lent_enough _ _ _ _ c.in_ok-judge_lent.ensures)

pub probe_over-requires-clause-links_le_max_links : goal.probe_over-requires-clause-links_le_max_links
probe_over-requires-clause-links_le_max_links c =
    omega (arith, c.links_with-links.ensures, links-few c.args.plan.now.layout.chart.ends.plant c.args.plan.now.layout.chart.ends.sound c.args.switch c.requires)

pub returns : goal.returns
unfolding probe_in
returns c = c.probe_over.ensures ∙ sym (passed _ _ c.in_ok-judge_lent.ensures _ _ refl)

pub returns-in_err-judge_lent : goal.returns-in_err-judge_lent
unfolding probe_in
returns-in_err-judge_lent c = exit _ _ _ c.from_residual.ensures.1 ∙ sym (turned_down _ _ c.in_err-judge_lent.ensures _ _ refl)
