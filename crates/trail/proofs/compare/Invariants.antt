-- The list begins with what is left just where it begins with the whole trail.
use Rattle.std.proofs.Common.{T}
use Rattle.trail.specs.Ways.{TrailingOf, trail_by}
use Rattle.trail.proofs.Filled.{Met}
use Rattle.trail.proofs.Along.{left_of}
use Rattle.trail.proofs.compare.Given as goal

abbrev pub invariant-loop-aim : goal.invariant-loop-aim
invariant-loop-aim l =
    (w : TrailingOf l.network l.legs)
    → T (w.parts.part l.u) × Met l.lent l.from (trail_by w) l.i (left_of w l.aim-index l.u)
