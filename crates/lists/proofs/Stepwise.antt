-- One number more: what holds of all numbers below i + 1, a test at each of them, how many pass, and the first that passes. Assumes nothing.
use mathlib.Core.Path.{◌≡◌, refl, sym, ap, ◌∙◌}
use mathlib.Core.Logic.{◌⊎◌, inl, inr}
use mathlib.Core.Bool.{Bool, true, false}
use Prim.Native.Nat.{ℕ, zero, suc, ◌+◌, ◌≤◌, ◌<◌}
use native.Mathlib.Numerals.{add-one}
use native.Mathlib.Omega.{arith}
use lib.Dec.{T}
use borrow.Author.Count.{below_more}
use Rattle.lists.specs.Tests.{choose}
use Rattle.lists.proofs.Tests.{choose_true, choose_false, if_true, if_false, T-or, T_true, true_T, false_T, not_true_false}
use Rattle.lists.specs.Count.{bit, count}
use Rattle.lists.specs.Numbers.{every}
use Rattle.lists.proofs.Numbers.{every-at, at_every}
use Rattle.lists.specs.Least.{least_from}

-- what holds below i and at i holds below i + 1
pub upto : {P : ℕ → Type 0} {i : ℕ} → ((k : ℕ) → k < i → P k) → P i → (k : ℕ) → k < i + 1 → P k
upto {P} {i} f h = below_more P i f h

pub every_true : (n : ℕ) (f : ℕ → Bool) → ((k : ℕ) → k < n → f k ≡ true) → every n f ≡ true
every_true n f h = T_true (every n f) (at_every n f (λ k l. true_T (f k) (h k l)))

pub every_false : (n : ℕ) (f : ℕ → Bool) (k : ℕ) → k < n → f k ≡ false → every n f ≡ false
every_false n f k l e = not_true_false (every n f) (λ q. false_T (f k) e (every-at n f (true_T (every n f) q) k l))

-- ---- counting

module _ (f : ℕ → Bool) where
  pub count_next : (i : ℕ) → count (i + 1) f ≡ bit (f i) + count i f
  unfolding count
  count_next i = rw (add-one i) refl

  pub count_yes : (i : ℕ) → f i ≡ true → count (i + 1) f ≡ count i f + 1
  unfolding count
  count_yes i e = rw (add-one i, e) (omega arith)

  pub count_no : (i : ℕ) → f i ≡ false → count (i + 1) f ≡ count i f
  unfolding count
  count_no i e = rw (add-one i, e) (omega arith)

  -- none is counted from n on
  pub count_past : (n k : ℕ) → ((i : ℕ) → n ≤ i → f i ≡ false) → count (n + k) f ≡ count n f
  count_past n zero h = ap (λ (m : ℕ). count m f) (omega arith)
  count_past n (suc k) h =
      let e : n + suc k ≡ n + k + 1 = omega arith in
      ap (λ (m : ℕ). count m f) e ∙ count_no (n + k) (h (n + k) (omega arith)) ∙ count_past n k h

-- ---- the first that passes

-- of f + 1 numbers from k on, the first that passes: k, or the first of those after it
pub first_step : (f k : ℕ) (q : ℕ → Bool) → least_from (suc f) k q ≡ choose (q k) k (least_from f (suc k) q)
unfolding least_from
first_step f k q = go (T-or (q k))
  where
    go : T (q k) ⊎ (T (q k) → ⊥) → least_from (suc f) k q ≡ choose (q k) k (least_from f (suc k) q)
    go (inl t) = if_true (q k) k (least_from f (suc k) q) t ∙ sym (choose_true (q k) k (least_from f (suc k) q) t)
    go (inr n) = if_false (q k) k (least_from f (suc k) q) n ∙ sym (choose_false (q k) k (least_from f (suc k) q) n)
