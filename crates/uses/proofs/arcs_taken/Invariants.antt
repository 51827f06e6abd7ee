-- The flags below 2 l are laid.
use Rattle.std.proofs.Common.{false, ◌*◌}
use Rattle.lists.specs.Arrays.{flag}
use Rattle.lists.proofs.Laid.{Laid}
use Rattle.limits.specs.Limits.{max_links}
use Rattle.uses.specs.Inner.{taken_by}
use Rattle.uses.proofs.arcs_taken.Given as goal

abbrev pub invariant-loop-l : goal.invariant-loop-l
invariant-loop-l l = Laid false (2 * max_links) (taken_by l.ends.plant l.fn.v (flag l.fn.two)) (2 * l.l) l.u
