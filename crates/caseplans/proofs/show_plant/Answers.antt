use Rattle.std.proofs.Common.{rules}
use Rattle.streams.proofs.Growing.{grows_twice}
use Rattle.caseplans.proofs.show_plant.Goals as goal

pub returns-in_err-spaced : goal.returns-in_err-spaced
returns-in_err-spaced g c = search (rules, grows_twice)

pub returns-in_err-word : goal.returns-in_err-word
returns-in_err-word g c = search (rules, grows_twice)

pub returns : goal.returns
returns g c = search (rules, grows_twice)
