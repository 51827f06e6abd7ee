-- The arcs in use below a are laid into the table.
use Rattle.lists.specs.Arrays.{flag, at}
use Rattle.distance.specs.Ways.{Near}
use Rattle.distance.proofs.adjacent.Given as goal

abbrev pub invariant-loop-a : goal.invariant-loop-a
invariant-loop-a l = Near l.fn.net.switches l.fn.net.labels (at l.tails) (at l.heads) (flag l.used) l.a l.t
