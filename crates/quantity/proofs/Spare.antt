-- What determines the spare: a hundred times it is enough, and a hundred times a smaller number is not. Laid on a sum it is at most the sum of the spares laid on each of
-- its terms. Assumes nothing.
use Prim.Native.Nat.{ℕ, zero, suc, ◌+◌, ◌*◌, ◌≤◌}
use native.Mathlib.Omega.{arith}
use native.Mathlib.Nat.{mul-le-mul_left, add-mul}
use Rattle.lists.specs.Sum.{sum}
use Rattle.lists.proofs.Sum.{sum_plus}
use Rattle.quantity.specs.Quantity.{max_spare, spare, with_spare}

module _ (a p : ℕ) where
  pub spare-enough : a * p ≤ 100 * spare a p
  spare-enough = omega arith

  pub spare-least : (q : ℕ) → a * p ≤ 100 * q → spare a p ≤ q
  spare-least q h = omega arith

  -- so the spare is at most all the rules again
  pub product_most : p ≤ max_spare → a * p ≤ 100 * a
  product_most h = omega (arith, mul-le-mul_left a h)

-- ---- on a sum

spare-two : (a b p : ℕ) → spare (a + b) p ≤ spare a p + spare b p
spare-two a b p = spare-least (a + b) p (spare a p + spare b p) (omega (arith, add-mul a b p, spare-enough a p, spare-enough b p))

pub spare-sum : (n : ℕ) (f : ℕ → ℕ) (p : ℕ) → spare (sum n f) p ≤ sum n (λ k. spare (f k) p)
unfolding sum
spare-sum zero f p = omega arith
spare-sum (suc n) f p = omega (arith, spare-two (f n) (sum n f) p, spare-sum n f p)

-- so are the rules with their spare
pub quantity-sum : (n : ℕ) (f : ℕ → ℕ) (p : ℕ) → with_spare (sum n f) p ≤ sum n (λ k. with_spare (f k) p)
quantity-sum n f p = omega (arith, spare-sum n f p, sum_plus n f (λ k. spare (f k) p))
