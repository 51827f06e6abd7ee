-- The numbers before this one are written.
use Rattle.std.proofs.Common.{take}
use Rattle.std.specs.Io.KnownBytes.{Appends}
use Rattle.streams.specs.Streams.{Grows}
use Rattle.caseform.specs.Shown.{spaced}
use Rattle.caseform.proofs.show.spaced.Given as goal

abbrev pub invariant-loop-n : goal.invariant-loop-n
invariant-loop-n g l = Appends (g.W.Write.contents l.fn.out) (g.W.Write.contents l.out) (spaced (take l.n-index l.numbers))
    × Grows (g.W.Write.contents l.fn.out) (g.W.Write.contents l.out)
