use Rattle.std.proofs.Common.{rules}
use Rattle.streams.proofs.Growing.{grows_none, grows_twice}
use Rattle.casedesks.proofs.answer.Goals as goal

pub returns-in_default : goal.returns-in_default
returns-in_default g c = grows_none _

pub returns-in_err-word : goal.returns-in_err-word
returns-in_err-word g c = search (rules, grows_twice)

pub returns : goal.returns
returns g c = search (rules, grows_twice)
