-- No arc of u before label a lessens the distance.
use Rattle.std.proofs.Common.{◌-◌}
use Rattle.trail.specs.Ways.{WayOf}
use Rattle.trail.proofs.Tried.{Tried}
use Rattle.trail.proofs.hop.Given as goal

abbrev pub invariant-loop-a : goal.invariant-loop-a
invariant-loop-a l = (w : WayOf l.network l.u l.to) → Tried l.network.net.labels w.tails l.network.heads.now w.used l.network.hops.now l.u l.to l.a

abbrev pub decreases-loop-a : goal.decreases-loop-a
decreases-loop-a l = l.network.net.labels - l.a
