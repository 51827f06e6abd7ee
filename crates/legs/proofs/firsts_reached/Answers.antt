-- Switch y gets its first arc, or none.
use Rattle.std.proofs.Common.{refl, ◌∙◌, arith}
use borrow.Author.Tests.{lt-ltb, le-ltb}
use Rattle.legs.specs.Firsts.{first_of}
use Rattle.legs.proofs.Firsts.{firsts_put}
use Rattle.legs.proofs.firsts_reached.Goals as goal
use Rattle.legs.proofs.firsts_reached.Goals.{then-reached, else-reached}

pub loop-y-preserved : goal.loop-y-preserved
unfolding first_of
loop-y-preserved c =
    let k = c.loop-y in
    firsts_put _ _ _ _ _ k.y _ k.low k.invariant (omega arith) (elim c.if-reached.branch [
      | then-reached w ↦ w.low-is ∙ rw (lt-ltb _ _ w.if-reached.true) refl
      | else-reached w ↦ w.low-is ∙ rw (le-ltb _ _ w.if-reached.false) refl
    ])
