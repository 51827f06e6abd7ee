-- The flags below l are joined.
use Rattle.std.proofs.Common.{false, ◌||◌}
use Rattle.lists.specs.Arrays.{flag}
use Rattle.limits.specs.Limits.{max_links}
use Rattle.components.proofs.Overlaid.{Overlaid}
use Rattle.components.proofs.join.Given as goal

abbrev pub invariant-loop-l : goal.invariant-loop-l
invariant-loop-l l = Overlaid false max_links (λ i. flag l.initial.into i || flag l.more i) l.initial.into l.l l.into
