-- The two numbers that document 01 rounds up: the allowance of a search (document 02's order 5 keeps its meaning) and the order quantity.
use Rattle.std.specs.Prelude.{◌≡◌, ◌≤◌, ◌+◌, ◌*◌}
use Rattle.demands.specs.Vocabulary.{ℕ, given, answer, order_quantity, allowance, CeilLog}

-- q is ⌈a × p ÷ 100⌉: the least number of which the hundredfold is a × p at least
pub record CeilPercent (a p q : ℕ) : Type 0 where
  pub enough : a * p ≤ 100 * q
  pub least : (j : ℕ) → a * p ≤ 100 * j → q ≤ j

pub record Ceilings : Type 0 where
  -- "the allowance ⌈log2 E⌉, the least k with 2^k ≥ E", of every number that is handed in
  pub allowance_is : (n : ℕ) → CeilLog n (allowance n)
  -- "for A rules … and a spare of p percent, 0 to 100: A + ⌈A × p ÷ 100⌉"
  pub quantity_is : (a p : ℕ) → p ≤ 100 → (q : ℕ) × CeilPercent a p q × (answer (order_quantity a p) ≡ given (a + q))
