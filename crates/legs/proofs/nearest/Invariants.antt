-- The best of the arcs that leave switches below y, whatever is crossed that `low` tells.
use Rattle.std.proofs.Common.{Bool, ℕ}
use Rattle.lists.specs.Arrays.{at}
use Rattle.legs.specs.Nearest.{Lows, Tabled}
use Rattle.legs.proofs.Best.{Best}
use Rattle.legs.proofs.nearest.Given as goal

abbrev pub invariant-loop-y : goal.invariant-loop-y
invariant-loop-y l =
    (w : Tabled l.m l.n l.network.hops.now l.low l.u) (crossed : ℕ → Bool) → Lows l.m l.n w.tl w.ok (at l.low) crossed → Best l.m l.n w.tl w.hd w.ok (at l.low) l.u crossed l.y l.best l.least
