-- The least number that passes a test. The laws are in proofs/.
use Rattle.std.specs.Prelude.{Bool, true, false, ℕ, zero, suc, ltb}

-- of the f numbers from k on, the first that passes the test; k + f if none does
unfoldable pub least_from : ℕ → ℕ → (ℕ → Bool) → ℕ
least_from zero k p = k
least_from (suc f) k p = elim (p k) [ true ↦ k | false ↦ least_from f (suc k) p ]

-- the least number below n that passes the test; n if none does
abbrev pub least : ℕ → (ℕ → Bool) → ℕ
least n p = least_from n 0 p

-- does some number below n pass the test?
abbrev pub some : ℕ → (ℕ → Bool) → Bool
some n p = ltb (least n p) n
