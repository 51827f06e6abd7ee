-- A run under the forwarding table: refusal 13, then the run.
use Rattle.std.proofs.Common.{sym, ◌∙◌}
use Rattle.answers.proofs.Checks.{holds, fails}
use Rattle.planning.proofs.Counted.{flags_same}
use Rattle.packet.specs.Runs.{end_of}
use Rattle.judging.proofs.Lent.{states-enough}
use Rattle.probing.specs.Calls.{run_in}
use Rattle.probing.proofs.Lent.{can_run}
use Rattle.probing.proofs.Results.{ran_as}
use Rattle.probing.proofs.run_in.Goals as goal

pub returns-then-too_few : goal.returns-then-too_few
unfolding run_in
returns-then-too_few c = holds 13 _ _ (sym c.too_few.ensures ∙ c.if-too_few.true)

pub run_on-requires-clause-can_run : goal.run_on-requires-clause-can_run
run_on-requires-clause-can_run c =
    can_run c.args.chart.now.ends.plant _ _ c.args.chart.now.charted.used_are (states-enough _ _ (sym c.too_few.ensures ∙ c.if-too_few.false))

pub returns : goal.returns
unfolding run_in
returns c =
    fails 13 _ _ _ (sym c.too_few.ensures ∙ c.if-too_few.false)
    (ran_as _ _ _ _ _ (flags_same c.args.chart.now.charted.used_are) (end_of c.injected.result) (end_of c.run_on.result) c.injected.ensures c.run_on.ensures)
