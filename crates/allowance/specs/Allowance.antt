-- The allowance of document 01, "Search": ⌈log2 n⌉, the least k with 2 ^ k at least n.
use Rattle.std.specs.Prelude.{Bool, ℕ, ◌^◌, leb}
use Rattle.lists.specs.Least.{least}

-- are 2 ^ k at least n?
abbrev pub enough : ℕ → ℕ → Bool
enough n k = leb n (2 ^ k)

unfoldable pub allowance : ℕ → ℕ
allowance n = least n (enough n)
