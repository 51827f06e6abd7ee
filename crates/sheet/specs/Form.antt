-- The form of a buying page, which its reader wants (document 02, order 3), and the counts in it.
use Rattle.std.specs.Prelude.{Bool, not, ◌&&◌, List, [], ◌∷◌, map, ℕ, ◌+◌, ◌-◌, ◌*◌, ◌/◌, ◌%◌, eqb, leb, ltb, length, take, drop}
use Rattle.lists.specs.Arrays.{at}
use Rattle.lists.specs.Members.{all}
use Rattle.lists.specs.Numbers.{range, every}
use Rattle.lists.specs.Sum.{sum}
use Rattle.lists.specs.Tests.{choose}
use Rattle.answers.specs.Checks.{Checked, check}
use Rattle.limits.specs.Limits.{max_switches}
use Rattle.text.specs.Lines.{space, newline}
use Rattle.columns.specs.Fields.{left_in, is_number, number_in}
use Rattle.sheet.specs.Columns.{switch_columns, line_columns, switch_end, rules_end, links_end, last_column, columns_of}
use Rattle.sheet.specs.Page.{total_word}
use Rattle.sheet.specs.declared.Sheet.{Sheet}

-- ---- a line

module _ (line : List ℕ) where
  abbrev pub switch_field : List ℕ
  switch_field = columns_of 0 switch_end line

  abbrev pub rules_field : List ℕ
  rules_field = columns_of switch_end rules_end line

  abbrev pub links_field : List ℕ
  links_field = columns_of rules_end links_end line

  -- "numbers of one to three digits with no leading zero", right-aligned in their columns
  unfoldable pub numbers_held : Bool
  numbers_held = is_number rules_field && is_number links_field

  -- "all else spaces", "the last a newline"
  unfoldable pub spaces_else : Bool
  spaces_else = all (eqb space) (columns_of links_end last_column line) && eqb (at line last_column) newline

  -- the first field holds switch x
  unfoldable pub of_switch : ℕ → Bool
  of_switch x = is_number switch_field && eqb (number_in switch_field) x

  -- the first field has `total` at its left
  unfoldable pub of_total : Bool
  of_total = every switch_columns (λ i. eqb (at line i) (at (left_in switch_columns total_word) i))

-- ---- a page

-- the numbers of a column, at the places of the n switches, and zeros past them
unfoldable pub column_of : ℕ → (ℕ → ℕ) → List ℕ
column_of n on = map (λ x. choose (ltb x n) (on x) 0) (range 0 max_switches)

module _ (b : List ℕ) where
  -- how many lines there are, and the line of a place
  abbrev pub lines_in : ℕ
  lines_in = length b / line_columns

  abbrev pub line_at : ℕ → List ℕ
  line_at x = take line_columns (drop (line_columns * x) b)

  -- all but the last are of a switch
  abbrev pub switches_in : ℕ
  switches_in = lines_in - 1

  -- the numbers in a line
  abbrev pub rules_on : ℕ → ℕ
  rules_on x = number_in (rules_field (line_at x))

  abbrev pub links_on : ℕ → ℕ
  links_on x = number_in (links_field (line_at x))

  -- "2 to 65 such lines and nothing more": one for each switch that a plant can have, and the last
  unfoldable pub whole_lines : Bool
  whole_lines = eqb (length b % line_columns) 0 && leb 2 lines_in && leb lines_in (max_switches + 1)

  -- "such lines"
  unfoldable pub plain_lines : Bool
  plain_lines = every lines_in (λ x. numbers_held (line_at x) && spaces_else (line_at x))

  -- "switches rising from 0"
  unfoldable pub rising : Bool
  rising = every switches_in (λ x. of_switch (line_at x) x)

  -- "A last line has `total`"
  unfoldable pub total_last : Bool
  total_last = of_total (line_at switches_in)

  -- "rules that add up to the total"
  unfoldable pub rules_add_up : Bool
  rules_add_up = eqb (sum switches_in rules_on) (rules_on switches_in)

  unfoldable pub formed : Bool
  formed = whole_lines && plain_lines && rising && total_last && rules_add_up

  -- ---- the counts in it

  unfoldable pub counts_in : Sheet
  counts_in = record {
    switches = switches_in;
    rules = column_of switches_in rules_on;
    links = column_of switches_in links_on;
    total = rules_on switches_in;
    quantity = links_on switches_in;
  }

  -- 18, "not of this form", or the counts
  unfoldable pub reading_page : Checked Sheet
  reading_page = check ((18, not formed) ∷ []) counts_in
