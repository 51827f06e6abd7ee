-- Inner: what the functions that read a line or a page ask of its bytes. Assumes nothing.
use Rattle.std.specs.Prelude.{◌≡◌, true, List, ℕ, ◌*◌, ◌≤◌, ◌<◌, length}
use Rattle.columns.specs.Fields.{is_number}
use Rattle.sheet.specs.Columns.{line_columns, columns_of}
use Rattle.sheet.specs.Form.{line_at}

-- these bytes are as many as a line has
abbrev pub Line : List ℕ → Type 0
Line line = length line ≡ line_columns

-- there are n lines at least
abbrev pub Lines : List ℕ → ℕ → Type 0
Lines b n = line_columns * n ≤ length b

-- the columns past the first f and among the first t of line x hold a number
pub record Held (b : List ℕ) (f t x : ℕ) : Type 0 where
  pub within : t ≤ line_columns
  pub rises : f ≤ t
  pub number : is_number (columns_of f t (line_at b x)) ≡ true

-- so do those of each of n lines
abbrev pub AllHeld : List ℕ → ℕ → ℕ → ℕ → Type 0
AllHeld b f t n = (x : ℕ) → x < n → Held b f t x
