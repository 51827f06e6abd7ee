-- The columns of the buying page's lines (document 02, order 3), as numbers. The width of each field stands in one place: a constant in
-- crates/columns/src/lib.rt.
use Rattle.std.specs.Prelude.{List, ℕ, ◌+◌, ◌-◌, take, drop}
use Rattle.columns.specs.declared.TheConstants.{SWITCH, RULES, LINKS, LINE}

-- ---- how many there are

-- "Columns 1 to 6 hold the switch"
abbrev pub switch_columns : ℕ
switch_columns = SWITCH

-- "7 to 14 its rules"
abbrev pub rules_columns : ℕ
rules_columns = RULES

-- "15 to 22 the links at it"
abbrev pub links_columns : ℕ
links_columns = LINKS

-- "Each line is 32 bytes"
abbrev pub line_columns : ℕ
line_columns = LINE

-- ---- how many come before the end of each field, and before the last column

abbrev pub switch_end : ℕ
switch_end = switch_columns

abbrev pub rules_end : ℕ
rules_end = switch_end + rules_columns

abbrev pub links_end : ℕ
links_end = rules_end + links_columns

abbrev pub last_column : ℕ
last_column = line_columns - 1

-- the bytes of a line that come after the first f and are among the first t
abbrev pub columns_of : ℕ → ℕ → List ℕ → List ℕ
columns_of f t line = take (t - f) (drop f line)
