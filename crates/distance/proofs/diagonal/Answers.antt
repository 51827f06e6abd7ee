-- The place of switch i in its own row is laid.
use Rattle.std.proofs.Common.{refl, arith}
use Rattle.distance.proofs.Turns.{turned_put}
use Rattle.distance.proofs.diagonal.Goals as goal

pub loop-i-preserved : goal.loop-i-preserved
loop-i-preserved c =
    let k = c.loop-i in
    turned_put _ _ _ k.i _ k.t (omega (arith, c.well_formed, c.loop-i-test.true)) k.invariant refl
