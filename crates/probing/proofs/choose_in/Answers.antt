-- The choice in a plan: refusal 12 of a lent trail, then that of a lent round trail.
use Rattle.answers.proofs.Checks.{holds, fails}
use Rattle.judging.proofs.Lent.{hops_other, hops-same}
use Rattle.probing.specs.Calls.{choice_in}
use Rattle.probing.proofs.choose_in.Goals as goal

pub returns : goal.returns
unfolding choice_in
returns c = fails 12 _ _ _ (hops-same _ _ _ c.in-Some.ensures) c.choose_from.ensures

pub returns-in_default : goal.returns-in_default
unfolding choice_in
returns-in_default c = holds 12 _ _ (hops_other _ _ c.in_default.ensures)
