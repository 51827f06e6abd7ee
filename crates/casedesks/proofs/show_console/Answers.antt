use Rattle.std.proofs.Common.{rules}
use Rattle.streams.proofs.Growing.{grows_twice}
use Rattle.casedesks.proofs.show_console.Goals as goal

pub returns-in-None : goal.returns-in-None
returns-in-None g c = search (rules, grows_twice)

pub returns-in_err-word-in-Some : goal.returns-in_err-word-in-Some
returns-in_err-word-in-Some g c = search (rules, grows_twice)

pub returns-in_err-spaced-in-Some : goal.returns-in_err-spaced-in-Some
returns-in_err-spaced-in-Some g c = search (rules, grows_twice)

pub returns-in_err-word-in-Some-2 : goal.returns-in_err-word-in-Some-2
returns-in_err-word-in-Some-2 g c = search (rules, grows_twice)

pub returns-in_ok-word-in-Some-2 : goal.returns-in_ok-word-in-Some-2
returns-in_ok-word-in-Some-2 g c = search (rules, grows_twice)
