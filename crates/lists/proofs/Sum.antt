-- Laws of sums: one number more, term by term, and of the test for one number. Assumes nothing.
use mathlib.Core.Path.{◌≡◌, refl}
use mathlib.Core.Logic.{◌⊎◌, inl, inr}
use Prim.Native.Nat.{ℕ, zero, suc, ◌+◌, ◌≤◌, ◌<◌}
use native.Mathlib.Numerals.{add-one}
use native.Mathlib.Omega.{arith}
use borrow.Author.Tests.{eq-eqb, ne_eqb}
use lib.Dec.{eqb}
use Rattle.lists.specs.Count.{bit}
use Rattle.lists.specs.Sum.{sum}
use Rattle.lists.proofs.Tests.{eq?}

-- one number more
pub sum-next : (f : ℕ → ℕ) (n : ℕ) → sum (n + 1) f ≡ sum n f + f n
unfolding sum
sum-next f n = rw (add-one n) (omega arith)

-- ---- term by term

pub sum_same : (n : ℕ) (f g : ℕ → ℕ) → ((k : ℕ) → k < n → f k ≡ g k) → sum n f ≡ sum n g
unfolding sum
sum_same zero f g h = refl
sum_same (suc n) f g h = omega (arith, h n (omega arith), sum_same n f g (λ k l. h k (omega arith)))

pub sum_plus : (n : ℕ) (f g : ℕ → ℕ) → sum n (λ k. f k + g k) ≡ sum n f + sum n g
unfolding sum
sum_plus zero f g = refl
sum_plus (suc n) f g = omega (arith, sum_plus n f g)

pub sum-none : (n : ℕ) (f : ℕ → ℕ) → ((k : ℕ) → k < n → f k ≡ 0) → sum n f ≡ 0
unfolding sum
sum-none zero f h = refl
sum-none (suc n) f h = omega (arith, h n (omega arith), sum-none n f (λ k l. h k (omega arith)))

-- a front has at most the sum of the whole
pub sum_more : (f : ℕ → ℕ) (n m : ℕ) → n ≤ m → sum n f ≤ sum m f
unfolding sum
sum_more f n zero h = let e : n ≡ 0 = omega arith in rw e (omega arith)
sum_more f n (suc m) h = go (eq? n (suc m)) (sum_more f n m)
  where
    go : (n ≡ suc m) ⊎ (n ≡ suc m → ⊥) → (n ≤ m → sum n f ≤ sum m f) → sum n f ≤ f m + sum m f
    go (inl e) more = rw e (omega arith)
    go (inr d) more = omega (arith, more (omega (arith, d)))

-- ---- the test for one number

-- the number x is one of those below n
pub sum_one : (x n : ℕ) → x < n → sum n (λ k. bit (eqb x k)) ≡ 1
unfolding sum
sum_one x zero h = absurd (omega arith)
sum_one x (suc n) h = go (eq? x n) (sum_one x n)
  where
    go : (x ≡ n) ⊎ (x ≡ n → ⊥) → (x < n → sum n (λ k. bit (eqb x k)) ≡ 1) → bit (eqb x n) + sum n (λ k. bit (eqb x k)) ≡ 1
    go (inl e) one = rw (eq-eqb x n e) (omega (arith, sum-none n (λ k. bit (eqb x k)) (λ k l. rw (ne_eqb x k (omega arith)))))
    go (inr d) one = rw (ne_eqb x n d) (omega (arith, one (omega (arith, d))))
