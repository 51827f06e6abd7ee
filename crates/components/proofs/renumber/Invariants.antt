-- The switches below x are renumbered.
use Rattle.lists.specs.Arrays.{flag, at}
use Rattle.lists.specs.Tests.{choose}
use Rattle.limits.specs.Limits.{max_switches}
use Rattle.components.proofs.Overlaid.{Overlaid}
use Rattle.components.proofs.renumber.Given as goal

abbrev pub invariant-loop-x : goal.invariant-loop-x
invariant-loop-x l = Overlaid 0 max_switches (λ i. choose (flag l.seen i) (at l.new i) (at l.initial.rank i)) l.initial.rank l.x l.rank
