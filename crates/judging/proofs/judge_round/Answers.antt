-- Refusals 12, by the hops alone, and 13 of the round run.
use Rattle.answers.proofs.Checks.{holds, fails}
use Rattle.judging.proofs.Lent.{hops_other, hops-same}
use Rattle.judging.proofs.judge_round.Goals as goal

pub returns-in-None : goal.returns-in-None
returns-in-None c = record { first = holds 12 _ _ (hops_other _ _ c.in-None.ensures) }

pub returns-in-Some : goal.returns-in-Some
returns-in-Some c = record { first = fails 12 _ _ _ (hops-same _ _ _ c.in-Some.ensures) (rw c.too_few.ensures at c.judge.ensures.first) }
