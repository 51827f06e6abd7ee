use Rattle.std.proofs.Common.{rules}
use Rattle.streams.proofs.Growing.{grows_twice}
use Rattle.cases.proofs.searches.show_progress.Goals as goal

pub returns : goal.returns
returns g c = search (rules, grows_twice)
