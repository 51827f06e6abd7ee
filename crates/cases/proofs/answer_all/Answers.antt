use Rattle.std.proofs.Common.{rules}
use Rattle.streams.proofs.Growing.{grows_none, grows_twice}
use Rattle.cases.proofs.answer_all.Goals as goal

pub loop-init : goal.loop-init
loop-init g c = grows_none _

pub returns-in_err-answer : goal.returns-in_err-answer
returns-in_err-answer g c = search (rules, grows_twice)

pub loop-preserved : goal.loop-preserved
loop-preserved g c = search (rules, grows_twice)

pub returns-in_err-word : goal.returns-in_err-word
returns-in_err-word g c = search (rules, grows_twice)
