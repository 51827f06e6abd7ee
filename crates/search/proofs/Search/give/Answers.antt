-- The state after a judged search, or the refusal of its conditions.
use Rattle.answers.specs.Checks.{check}
use Rattle.answers.proofs.Results.{try_giving, try_no_giving}
use Rattle.search.specs.Search.{next, call_checks, give}
use Rattle.search.proofs.Search.give.Goals as goal

pub returns-in_err-judge : goal.returns-in_err-judge
unfolding give
returns-in_err-judge c = try_no_giving (check (call_checks c.args.self) c.args.self) (λ s. next s c.args.o) (λ s. s) _ _ c.from_residual.ensures.1 c.in_err-judge.ensures

pub returns : goal.returns
unfolding give
returns c = try_giving (check (call_checks c.args.self) c.args.self) (λ s. next s c.args.o) _ _ c.in_ok-judge.ensures c.next.ensures
