-- The lists before i are laid.
use Rattle.std.proofs.Common.{length}
use Rattle.trail.specs.Ways.{Laid}
use Rattle.planning.specs.OneAfterAnother.{LaysEach}
use Rattle.planning.proofs.OneAfterAnother.{first_of}
use Rattle.planning.proofs.lay_each.Given as goal

abbrev pub invariant-loop-i : goal.invariant-loop-i
invariant-loop-i g l =
    (w : LaysEach (goal.F-pre g l.lay) (goal.F-post g l.lay) l.count (length l.initial.buf)) → Laid (first_of w.list w.numbers l.i) l.initial.buf 0 l.buf l.at
