use Rattle.std.proofs.Common.{arith, sym, ◌∙◌}
use Rattle.plant.specs.Links.{plant_with}
use Rattle.answers.proofs.Results.{exit}
use Rattle.listing.proofs.ReadLaws.{none, read_none, read_refused, read_one, read_all}
use Rattle.listing.proofs.read_links.Goals as goal

pub loop-i-init : goal.loop-i-init
loop-i-init c = rw c.zero-before.ensures (read_none _ _ _ _ (c.with-plant.ensures ∙ none _ _ _))

pub returns-in_err-l : goal.returns-in_err-l
unfolding plant_with
returns-in_err-l c = exit _ _ _ c.from_residual.ensures.1 ∙ read_refused _ _ _ _ _ _ _ c.loop-i.invariant (omega arith) _ c.in_err-l.ensures

pub loop-i-preserved : goal.loop-i-preserved
unfolding plant_with
loop-i-preserved c = read_one _ _ _ _ _ _ _ c.loop-i.invariant (omega arith) _ _ c.args.h.few c.in_ok-l.ensures

pub returns : goal.returns
unfolding plant_with
returns c = sym (read_all _ _ _ _ _ _ _ c.loop-i.invariant (omega arith))
