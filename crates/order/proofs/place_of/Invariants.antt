-- The place of a switch: no hop passed leaves the switch.
use Rattle.std.proofs.Common.{◌≡◌, ℕ, ◌<◌, get_or}
use Rattle.walks.specs.Arcs.{tail}
use Rattle.order.proofs.place_of.Given as goal

abbrev pub invariant-loop-i : goal.invariant-loop-i
invariant-loop-i l = (j : ℕ) → j < l.i → tail l.ring.plant.now (get_or l.ring.trail.now j 0) ≡ l.ring.switch → ⊥
