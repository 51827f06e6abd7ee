-- The table holds the rules for the flagged labels before the next.
use Rattle.std.proofs.Common.{◌≡◌}
use Rattle.lists.specs.Arrays.{flag, at}
use Rattle.table.specs.Rules.{table_in}
use Rattle.table.proofs.table_of.Given as goal

abbrev pub invariant-loop-label : goal.invariant-loop-label
invariant-loop-label l = l.t ≡ table_in l.label (at l.tails) (at l.heads) (flag l.used)
