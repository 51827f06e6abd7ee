-- The lent list begins with the lists before i.
use Rattle.std.specs.Prelude.{Some}
use Rattle.trail.specs.Ways.{TellsFrom}
use Rattle.planning.specs.OneAfterAnother.{TellsEach}
use Rattle.planning.proofs.OneAfterAnother.{first_of}
use Rattle.planning.proofs.compare_each.Given as goal

abbrev pub invariant-loop-i : goal.invariant-loop-i
invariant-loop-i g l = (w : TellsEach (goal.F-post g l.compare) l.count) → TellsFrom 0 w.lent (first_of w.list w.numbers l.i) (Some l.at)
