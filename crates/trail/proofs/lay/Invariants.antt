-- What is left to store makes what the whole trail makes.
use Rattle.std.proofs.Common.{T}
use Rattle.trail.specs.Ways.{TrailingOf, trail_by}
use Rattle.trail.proofs.Filled.{Stored}
use Rattle.trail.proofs.Along.{left_of}
use Rattle.trail.proofs.lay.Given as goal

abbrev pub invariant-loop-a : goal.invariant-loop-a
invariant-loop-a l =
    (w : TrailingOf l.network l.legs)
    → T (w.parts.part l.u) × Stored l.initial.buf l.from (trail_by w) l.buf l.j (left_of w l.a-index l.u)
