use Rattle.std.proofs.Common.{rules}
use Rattle.std.proofs.KnownBytes.{Appends-nil}
use Rattle.streams.proofs.Growing.{grows_none, grows_twice}
use Rattle.caseform.proofs.Texts.{number_fails, space_fails, spaced_more}
use Rattle.caseform.proofs.show.spaced.Goals as goal

pub loop-n-init : goal.loop-n-init
loop-n-init g c = (Appends-nil _, grows_none _)

pub returns-in_err-word-clause-err : goal.returns-in_err-word-clause-err
returns-in_err-word-clause-err g c =
    let part = space_fails _ _ _ c.args.numbers.now c.loop-n.n-index (search rules) c.loop-n.invariant.0 c.in_err-word.ensures.err in
    search rules

pub returns-in_err-word-clause-grows : goal.returns-in_err-word-clause-grows
returns-in_err-word-clause-grows g c = search (rules, grows_twice)

pub returns-in_err-number-clause-err : goal.returns-in_err-number-clause-err
returns-in_err-number-clause-err g c =
    let part = number_fails _ _ _ _ c.args.numbers.now c.loop-n.n-index (search rules) c.loop-n.invariant.0 c.in_ok-word.ensures.ok c.in_err-number.ensures.err in
    search rules

pub returns-in_err-number-clause-grows : goal.returns-in_err-number-clause-grows
returns-in_err-number-clause-grows g c = search (rules, grows_twice)

pub loop-n-preserved : goal.loop-n-preserved
loop-n-preserved g c = (
  spaced_more _ _ _ _ c.args.numbers.now c.loop-n.n-index (search rules) c.loop-n.invariant.0 c.in_ok-word.ensures.ok c.in_ok-number.ensures.ok,
  search (rules, grows_twice),
)
