use Rattle.std.proofs.Common.{refl, sym, ◌∙◌}
use Rattle.answers.proofs.Results.{exit, passed, turned_down}
use Rattle.listing.proofs.ReadLaws.{end-tries}
use Rattle.listing.proofs.read_end.Goals as goal

pub returns-in_err-judge : goal.returns-in_err-judge
returns-in_err-judge c = exit _ _ _ c.from_residual.ensures.1 ∙ sym (end-tries _ _ _ ∙ turned_down _ _ c.in_err-judge.ensures _ _ refl)

pub returns : goal.returns
returns c = sym (end-tries _ _ _ ∙ passed _ _ c.in_ok-judge.ensures _ _ refl)
