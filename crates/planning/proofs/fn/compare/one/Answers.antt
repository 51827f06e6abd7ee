-- By the network of component i and its legs.
use Rattle.std.proofs.Common.{ℕ, List, subst}
use Rattle.trail.specs.Ways.{TellsFrom}
use Rattle.planning.proofs.OneAfterAnother.{trailing, trail_is}
use Rattle.planning.proofs.fn.compare.one.Goals as goal

pub compare-requires : goal.compare-requires
compare-requires c = trailing c.captures.x.now c.requires c.network_at.ensures c.legs_at.ensures

pub returns : goal.returns
returns c =
    let own = c.network_at.ensures in
    let along = c.legs_at.ensures in
    subst (λ (w : List ℕ). TellsFrom c.args.from c.captures.lent.now w c.compare.result) (trail_is c.captures.x.now c.requires own along)
    (c.compare.ensures (trailing c.captures.x.now c.requires own along))
