-- The switches below x are settled.
use Rattle.std.proofs.Common.{Some, None, get_or}
use Rattle.lists.specs.Arrays.{flag}
use Rattle.lists.specs.Tests.{choose}
use Rattle.limits.specs.Limits.{max_switches}
use Rattle.components.proofs.Overlaid.{Overlaid}
use Rattle.components.proofs.settle.Given as goal

abbrev pub invariant-loop-x : goal.invariant-loop-x
invariant-loop-x l = Overlaid None max_switches (λ i. choose (flag l.seen i) (Some l.k) (get_or l.initial.home i None)) l.initial.home l.x l.home
