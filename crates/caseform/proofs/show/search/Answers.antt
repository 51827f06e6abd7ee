use Rattle.std.proofs.Common.{rules}
use Rattle.streams.proofs.Growing.{grows_twice}
use Rattle.caseform.proofs.show.search.Goals as goal

pub returns-in_ok-word-in-Checking : goal.returns-in_ok-word-in-Checking
returns-in_ok-word-in-Checking g c = search (rules, grows_twice)

pub returns-in_ok-word-in-Halving : goal.returns-in_ok-word-in-Halving
returns-in_ok-word-in-Halving g c = search (rules, grows_twice)

pub returns-in_ok-word-in-Down : goal.returns-in_ok-word-in-Down
returns-in_ok-word-in-Down g c = search (rules, grows_twice)
