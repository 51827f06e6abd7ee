-- By the network of component i and its legs.
use Rattle.std.proofs.Common.{List, ℕ, ap, length, subst, arith}
use Rattle.trail.specs.Ways.{Laid}
use Rattle.planning.proofs.OneAfterAnother.{trailing, trail_is}
use Rattle.planning.proofs.fn.lay.one.Goals as goal

pub lay-requires : goal.lay-requires
lay-requires c =
    let own = c.network_at.ensures in
    let along = c.legs_at.ensures in
    record { trailing = trailing c.captures.x.now c.requires.0 own along; fits = omega (arith, ap length (trail_is c.captures.x.now c.requires.0 own along)) }

pub returns : goal.returns
returns c =
    let own = c.network_at.ensures in
    let along = c.legs_at.ensures in
    subst (λ (w : List ℕ). Laid w c.args.b.now c.args.from c.lay.new.buf c.lay.result) (trail_is c.captures.x.now c.requires.0 own along)
    (c.lay.ensures (trailing c.captures.x.now c.requires.0 own along))
