use Rattle.std.proofs.Common.{rules}
use Rattle.streams.proofs.Growing.{grows_twice}
use Rattle.casepackets.proofs.show_named.Goals as goal

pub returns-in_ok-word-in-Link : goal.returns-in_ok-word-in-Link
returns-in_ok-word-in-Link g c = search (rules, grows_twice)
