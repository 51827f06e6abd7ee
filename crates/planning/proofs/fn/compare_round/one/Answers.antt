-- By the round trail of component i.
use Rattle.std.proofs.Common.{ℕ, List, subst}
use Rattle.trail.specs.Ways.{TellsFrom}
use Rattle.planning.proofs.OneAfterAnother.{round-labels}
use Rattle.planning.proofs.fn.compare_round.one.Goals as goal

pub compare-requires : goal.compare-requires
compare-requires c = round-labels c.captures.x.now.ends.sound c.requires _ c.round_at.ensures

pub returns : goal.returns
returns c = subst (λ (w : List ℕ). TellsFrom c.args.from c.captures.lent.now w c.compare.result) c.round_at.ensures c.compare.ensures
