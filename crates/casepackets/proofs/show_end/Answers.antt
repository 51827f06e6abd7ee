use Rattle.std.proofs.Common.{rules}
use Rattle.streams.proofs.Growing.{grows_twice}
use Rattle.casepackets.proofs.show_end.Goals as goal

pub returns : goal.returns
returns g c = search (rules, grows_twice)
