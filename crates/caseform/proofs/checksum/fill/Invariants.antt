use Rattle.std.proofs.Common.{ℕ, ◌<◌, slice_index_or}
use Rattle.caseform.specs.Checksum.{held_before}
use Rattle.caseform.proofs.checksum.fill.Given as goal

abbrev pub invariant-loop-i : goal.invariant-loop-i
invariant-loop-i g l = (k : ℕ) (d : g.row.T.Denot) → k < l.i → g.T.From.from_gives (held_before k) (slice_index_or l.buffer k d)
