-- The probe that a judged search wants, or the refusal of its conditions.
use Rattle.answers.specs.Checks.{check}
use Rattle.answers.proofs.Results.{try_giving, try_no_giving}
use Rattle.search.specs.Search.{wanted, call_checks, ask}
use Rattle.search.proofs.Search.ask.Goals as goal

pub returns-in_err-judge : goal.returns-in_err-judge
unfolding ask
returns-in_err-judge c = try_no_giving (check (call_checks c.args.self) c.args.self) wanted (λ m. m) _ _ c.from_residual.ensures.1 c.in_err-judge.ensures

pub returns : goal.returns
unfolding ask
returns c = try_giving (check (call_checks c.args.self) c.args.self) wanted _ _ c.in_ok-judge.ensures c.wanted.ensures
