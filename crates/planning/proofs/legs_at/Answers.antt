-- The legs of component i stand among those of all.
use Rattle.std.proofs.Common.{get_or, sym}
use Rattle.lists.proofs.Parts.{drop-take}
use Rattle.arcs.specs.Legs.{no_legs}
use Rattle.planning.proofs.OneAfterAnother.{legs_at}
use Rattle.planning.proofs.legs_at.Goals as goal

pub returns : goal.returns
returns c =
    let own = get_or c.args.x.now.legs.list c.args.i no_legs in
    legs_at c.args.x.now c.requires (rw (c.from.ensures, c.from-2.ensures) (sym (drop-take own.from own.to c.args.x.now.legs.aims)))
