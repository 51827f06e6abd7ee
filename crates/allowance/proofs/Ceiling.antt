-- What determines the allowance, and what halving does to it. Assumes nothing.
use mathlib.Core.Path.{◌≡◌, sym, ◌∙◌, subst}
use mathlib.Core.Logic.{◌⊎◌, inl, inr}
use Prim.Native.Nat.{ℕ, zero, suc, ◌+◌, ◌*◌, ◌^◌, ◌≤◌, ◌<◌}
use native.Mathlib.Omega.{arith}
use native.Mathlib.Nat.{lt_of_not-le, pow-zero, pow-suc}
use lib.Dec.{leb→le, le→leb}
use lib.Pow.{pow_mono}
use Rattle.lists.proofs.Tests.{eq?}
use Rattle.lists.specs.Least.{least}
use Rattle.lists.proofs.Least.{least-top, least_passes, least_le}
use Rattle.allowance.specs.Allowance.{enough, allowance}

-- ---- what determines it

two_pow : (k : ℕ) → 2 ^ suc k ≡ 2 ^ k + 2 ^ k
two_pow k = pow-suc 2 k ∙ omega arith

below_pow : (n : ℕ) → n < 2 ^ n
below_pow zero = omega (arith, pow-zero 2)
below_pow (suc n) = omega (arith, two_pow n, below_pow n)

-- 2 to the allowance is enough
pub allowance-enough : (n : ℕ) → n ≤ 2 ^ allowance n
unfolding allowance
allowance-enough n = go (eq? (least n (enough n)) n)
  where
    go : (least n (enough n) ≡ n) ⊎ (least n (enough n) ≡ n → ⊥) → n ≤ 2 ^ least n (enough n)
    go (inl e) = subst (λ (k : ℕ). n ≤ 2 ^ k) (sym e) (omega (arith, below_pow n))
    go (inr f) = leb→le n (2 ^ least n (enough n)) (least_passes n (enough n) (omega (arith, f, least-top n (enough n))))

-- and no smaller power of 2 is
pub allowance-least : (n k : ℕ) → n ≤ 2 ^ k → allowance n ≤ k
unfolding allowance
allowance-least n k h = least_le n (enough n) k (le→leb n (2 ^ k) h)

-- the exponent of a power of 2 that is not enough is smaller
pub allowance-above : (n k : ℕ) → 2 ^ k < n → k < allowance n
allowance-above n k h = lt_of_not-le (λ g. omega (arith, h, allowance-enough n, pow_mono g))

-- ---- halving: of two places or more, the larger half has a smaller allowance

pub allowance_half : (n m : ℕ) → 2 ≤ n → 2 * m ≤ n + 1 → allowance m < allowance n
allowance_half n m h i = go (allowance n) (allowance-enough n)
  where
    go : (k : ℕ) → n ≤ 2 ^ k → allowance m < k
    go zero e = absurd (omega (arith, pow-zero 2))
    go (suc k) e = omega (arith, allowance-least m k (omega (arith, two_pow k)))
