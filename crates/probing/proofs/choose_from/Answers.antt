-- The choice by the hops of the component, and refusal 12 of a lent round trail.
use Rattle.std.proofs.Common.{◌≡◌, ap, ◌∙◌}
use Rattle.answers.specs.Answers.{given}
use Rattle.answers.proofs.Checks.{holds, fails}
use Rattle.choosing.specs.Choice.{choice_of}
use Rattle.judging.proofs.Lent.{hops_other, hops-same}
use Rattle.probing.proofs.Rounds.{chosen_at}
use Rattle.probing.proofs.choose_from.Goals as goal

pub returns : goal.returns
returns c =
    let d = c.component_with-c.result in
    let chosen : c.fewer.result ≡ choice_of d.begin d.hops d.round_begin d.round_hops = c.fewer.ensures in
    fails 12 _ _ _ (hops-same _ _ _ c.in-Some.ensures)
    (ap given (chosen ∙ chosen_at c.args.layout.now.chart.ends.plant c.args.layout.now.chart.ends.sound c.args.switch c.requires d c.component_with-c.ensures))

pub returns-in_default : goal.returns-in_default
returns-in_default c = holds 12 _ _ (hops_other _ _ c.in_default.ensures)
