-- What is left to store makes what the whole way makes. The measure is the hops left, by the table.
use Rattle.arcs.specs.Table.{cell}
use Rattle.arcs.specs.Legs.{route_in, Joined}
use Rattle.trail.specs.Ways.{WayOf, route_by}
use Rattle.trail.proofs.Filled.{Stored}
use Rattle.trail.proofs.lay_way.Given as goal

abbrev pub invariant-loop-a : goal.invariant-loop-a
invariant-loop-a l =
    (w : WayOf l.network l.u l.to)
    → Joined l.network.net w.tails l.network.heads.now w.used w.parts.part l.x l.to × Stored l.initial.buf l.from (route_by w) l.buf l.at (route_in l.network.net w.tails l.network.heads.now w.used l.x l.to)

abbrev pub decreases-loop-a : goal.decreases-loop-a
decreases-loop-a l = cell l.network.hops.now l.x l.to
