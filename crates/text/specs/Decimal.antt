-- A number in decimal: its digits as bytes, and the number that such bytes make. Assumes nothing.
use Rattle.std.specs.Prelude.{Bool, true, false, not, ◌&&◌, List, [], ◌∷◌, ◌++◌, ℕ, zero, suc, ◌+◌, ◌-◌, ◌*◌, ◌/◌, ◌%◌, eqb, leb, ltb}
use Rattle.lists.specs.Members.{all}

-- the byte of a digit below ten
abbrev pub digit : ℕ → ℕ
digit d = 48 + d

-- the digits of n, the highest first: those of a tenth of n, rounded down, and then the last one. The first argument bounds the steps
unfoldable pub digits : ℕ → ℕ → List ℕ
digits zero n = []
digits (suc k) n = elim (ltb n 10) [ true ↦ digit n ∷ [] | false ↦ digits k (n / 10) ++ (digit (n % 10) ∷ []) ]

-- n in decimal, with no leading zero
unfoldable pub decimal : ℕ → List ℕ
decimal n = digits (suc n) n

-- ---- read back

-- the number that digits make, after a number that was read before them
abbrev pub read_after : ℕ → List ℕ → ℕ
read_after n [] = n
read_after n (b ∷ bs) = read_after (n * 10 + (b - digit 0)) bs

-- the number that digits make, the highest first
abbrev pub read_decimal : List ℕ → ℕ
read_decimal bs = read_after 0 bs

abbrev pub is_digit : ℕ → Bool
is_digit b = leb (digit 0) b && leb b (digit 9)

-- at least one byte, and the first of several is not the digit zero
abbrev pub leads : List ℕ → Bool
leads [] = false
leads (b ∷ []) = true
leads (b ∷ c ∷ bs) = not (eqb b (digit 0))

-- the bytes of some number in decimal
unfoldable pub is_decimal : List ℕ → Bool
is_decimal bs = all is_digit bs && leads bs
