-- The switches below y have their first arcs.
use Rattle.legs.specs.Firsts.{Firsts}
use Rattle.legs.proofs.firsts_reached.Given as goal

abbrev pub invariant-loop-y : goal.invariant-loop-y
invariant-loop-y l = Firsts l.network.net.switches l.network.net.labels l.network.net.root l.network.chains.now.first l.network.hops.now l.y l.low
