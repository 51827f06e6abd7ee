-- The switch has a home, and the component there is its own.
use Rattle.std.proofs.Common.{arith}
use Rattle.planning.proofs.Charts.{home-place, component-told}
use Rattle.planning.proofs.component_with.Goals as goal

pub bounds-x-i : goal.bounds-x-i
bounds-x-i c = let x = c.args.x.now.chart in omega (arith, home-place _ x.ends.sound _ x.charted.homes c.from.result (omega arith))

pub returns : goal.returns
returns c = rw (c.from-i.ensures, c.from.ensures) (component-told c.args.x.now _ c.requires)
