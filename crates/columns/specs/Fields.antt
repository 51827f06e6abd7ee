-- Fields of so many columns: a text at the right or at the left of one, with spaces in the other columns, and the number in one (document
-- 02, order 3). Assumes nothing.
use Rattle.std.specs.Prelude.{Bool, ◌&&◌, List, [], ◌∷◌, ◌++◌, ℕ, suc, ◌-◌, eqb, leb, length, drop, replicate}
use Rattle.lists.specs.Tests.{choose}
use Rattle.text.specs.Decimal.{read_decimal, is_decimal}
use Rattle.text.specs.Lines.{space}

-- "numbers of one to three digits": the most digits of a number on the page
abbrev pub most_digits : ℕ
most_digits = 3

abbrev pub spaces : ℕ → List ℕ
spaces n = replicate n space

-- "right-aligned": the text ends with the columns
abbrev pub right_in : ℕ → List ℕ → List ℕ
right_in columns text = spaces (columns - length text) ++ text

-- "left-aligned": the text begins with them
abbrev pub left_in : ℕ → List ℕ → List ℕ
left_in columns text = text ++ spaces (columns - length text)

-- ---- read back

-- how many spaces come before the first other byte
unfoldable pub spaces_before : List ℕ → ℕ
spaces_before [] = 0
spaces_before (b ∷ bs) = choose (eqb b space) (suc (spaces_before bs)) 0

-- what comes after them
abbrev pub after_spaces : List ℕ → List ℕ
after_spaces field = drop (spaces_before field) field

-- "numbers of one to three digits with no leading zero"
unfoldable pub is_short : List ℕ → Bool
is_short bytes = is_decimal bytes && leb (length bytes) most_digits

-- the field has such a number at its right, and spaces before it
unfoldable pub is_number : List ℕ → Bool
is_number field = is_short (after_spaces field)

-- the number in such a field
unfoldable pub number_in : List ℕ → ℕ
number_in field = read_decimal (after_spaces field)
