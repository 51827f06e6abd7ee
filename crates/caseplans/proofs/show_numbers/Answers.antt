use Rattle.std.proofs.Common.{rules}
use Rattle.streams.proofs.Growing.{grows_twice}
use Rattle.caseplans.proofs.show_numbers.Goals as goal

pub returns : goal.returns
returns g c = search (rules, grows_twice)
