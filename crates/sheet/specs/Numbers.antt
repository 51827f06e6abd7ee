-- Inner: the two numbers of a line and what comes after them, as the writer lays them. Assumes nothing.
use Rattle.std.specs.Prelude.{List, [], ◌∷◌, ◌++◌, ℕ, ◌-◌}
use Rattle.text.specs.Decimal.{decimal}
use Rattle.text.specs.Lines.{newline}
use Rattle.columns.specs.Fields.{spaces, right_in}
use Rattle.sheet.specs.Columns.{rules_columns, links_columns, links_end, last_column}

-- what follows the first field of a line
unfoldable pub numbers_of : ℕ → ℕ → List ℕ
numbers_of rules links = right_in rules_columns (decimal rules) ++ (right_in links_columns (decimal links) ++ (spaces (last_column - links_end) ++ (newline ∷ [])))
