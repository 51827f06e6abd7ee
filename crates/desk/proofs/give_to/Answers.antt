-- Refusal 14 by the listing, and then what the search's own call answers.
use Rattle.std.proofs.Common.{sym, ◌∙◌}
use Rattle.desk.proofs.Feeding.{given-sound}
use Rattle.desk.proofs.give_to.Goals as goal

pub returns : goal.returns
returns c = c.give.ensures ∙ given-sound c.args.links c.args.q c.args.o (sym c.sound_for.ensures ∙ c.if-not-sound_for.false)
