-- The numbers of the lines stand at their places, and zeros past them.
use Rattle.std.proofs.Common.{◌≡◌, sym, arith}
use Rattle.lists.proofs.Laid.{laid_none}
use Rattle.sheet.proofs.RoundTrip.{column_are}
use Rattle.readback.proofs.column.Goals as goal

pub loop-x-init : goal.loop-x-init
loop-x-init c = laid_none _ _ _

pub returns : goal.returns
returns c =
    let e : c.loop-x.x ≡ c.args.n = omega arith in
    let d = rw e at c.loop-x.invariant in
    sym (column_are c.args.n _ c.loop-x.numbers d.places d.tells d.clear)
