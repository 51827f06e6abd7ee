-- n flags are set below the place reached.
use Rattle.std.proofs.Common.{◌≡◌}
use Rattle.lists.specs.Arrays.{flag}
use Rattle.lists.specs.Count.{count}
use Rattle.uses.proofs.count_set.Given as goal

abbrev pub invariant-loop-f : goal.invariant-loop-f
invariant-loop-f l = l.n ≡ count l.f-index (flag l.flags)
