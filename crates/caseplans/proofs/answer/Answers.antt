use Rattle.streams.proofs.Growing.{grows_none}
use Rattle.caseplans.proofs.answer.Goals as goal

pub returns-in_default : goal.returns-in_default
returns-in_default g c = grows_none _
