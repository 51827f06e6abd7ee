-- The order quantity of document 01: the rules and a spare of so many percent of them, rounded up.
use Rattle.std.specs.Prelude.{Bool, [], ◌∷◌, ℕ, ◌+◌, ◌*◌, ◌/◌, ltb}
use Rattle.answers.specs.Checks.{Checked, check}

-- the largest spare, in percent
abbrev pub max_spare : ℕ
max_spare = 100

-- the spare for a rules: ⌈a × p ÷ 100⌉
abbrev pub spare : ℕ → ℕ → ℕ
spare a p = (a * p + 99) / 100

-- a rules with their spare: a + ⌈a × p ÷ 100⌉
abbrev pub with_spare : ℕ → ℕ → ℕ
with_spare a p = a + spare a p

-- 17: the spare is above 100
unfoldable pub spare_above : ℕ → Bool
spare_above p = ltb max_spare p

unfoldable pub order_quantity : ℕ → ℕ → Checked ℕ
order_quantity a p = check ((17, spare_above p) ∷ []) (with_spare a p)
