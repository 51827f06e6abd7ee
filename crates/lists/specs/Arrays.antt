-- Arrays as functions of a place: flags as a test, numbers as a function that is 0 past the end.
use Rattle.std.specs.Prelude.{Bool, false, List, ℕ, get_or}

-- flags as a test of places
abbrev pub flag : List Bool → ℕ → Bool
flag m a = get_or m a false

-- the number at a place
abbrev pub at : List ℕ → ℕ → ℕ
at l a = get_or l a 0
