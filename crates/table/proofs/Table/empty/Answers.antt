-- A table without rules, by its definition.
use Rattle.std.proofs.Common.{refl}
use Rattle.table.specs.Rules.{table_with}
use Rattle.table.proofs.Table.empty.Goals as goal

pub returns : goal.returns
unfolding table_with
returns c = refl
