-- The probe wanted: 14 with the listing, then what the call for a probe answers.
use Rattle.std.proofs.Common.{sym, ◌∙◌}
use Rattle.judging.proofs.Searching.{wanted_unsound, wanted-sound}
use Rattle.judging.proofs.probe_wanted.Goals as goal

pub returns-then-unsound : goal.returns-then-unsound
returns-then-unsound c = wanted_unsound _ _ (sym c.unsound.ensures ∙ c.if-unsound.true)

pub returns : goal.returns
returns c = c.ask.ensures ∙ wanted-sound _ _ (sym c.unsound.ensures ∙ c.if-unsound.false)
