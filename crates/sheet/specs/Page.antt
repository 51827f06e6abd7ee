-- The buying page (document 02, order 3): a line from its fields, and a page from its lines.
use Rattle.std.specs.Prelude.{Bool, List, [], ◌∷◌, ◌++◌, ℕ, ◌+◌, ◌*◌, ltb, length, drop}
use Rattle.lists.specs.Arrays.{at}
use Rattle.lists.specs.Numbers.{range}
use Rattle.answers.specs.Answers.{Answer}
use Rattle.answers.specs.Checks.{Checked, check, leaves}
use Rattle.text.specs.Ascii.{ascii}
use Rattle.text.specs.Decimal.{decimal}
use Rattle.text.specs.Lines.{newline, each}
use Rattle.columns.specs.Fields.{right_in, left_in}
use Rattle.sheet.specs.Columns.{switch_columns, rules_columns, links_columns, line_columns, last_column}
use Rattle.sheet.specs.declared.Sheet.{Sheet}

abbrev pub total_word : List ℕ
total_word = ascii "total"

-- a line: its first field, and two numbers, "right-aligned decimal, all else spaces", "the last a newline"
unfoldable pub line_of : List ℕ → ℕ → ℕ → List ℕ
line_of field rules links =
    left_in last_column (field ++ right_in rules_columns (decimal rules) ++ right_in links_columns (decimal links)) ++ (newline ∷ [])

-- 18: "the lent page is too short", for S + 1 lines
abbrev pub page_short : ℕ → List ℕ → Bool
page_short switches b = ltb (length b) (line_columns * (switches + 1))

module _ (s : Sheet) where
  -- the line of a switch: the switch, its rules, the links at it
  abbrev pub switch_line : ℕ → List ℕ
  switch_line x = line_of (right_in switch_columns (decimal x)) (at s.rules x) (at s.links x)

  -- "A last line has `total` left-aligned in the first field, then all rules and the order quantity"
  abbrev pub total_line : List ℕ
  total_line = line_of (left_in switch_columns total_word) s.total s.quantity

  -- "One line a switch, rising", and the last line
  unfoldable pub buying_page : List ℕ
  buying_page = each switch_line (range 0 s.switches) ++ total_line

  -- "The page is S + 1 lines"
  abbrev pub page_length : ℕ
  page_length = line_columns * (s.switches + 1)

  -- ---- into a lent buffer

  -- the length of the page
  unfoldable pub writing_page : List ℕ → Checked ℕ
  writing_page b = check ((18, page_short s.switches b) ∷ []) page_length

  -- the page, "and bytes after it stay untouched"; at a refusal the buffer as it was
  abbrev pub page_left : List ℕ → Answer ℕ → List ℕ
  page_left b = leaves (λ n. buying_page ++ drop n b) b
