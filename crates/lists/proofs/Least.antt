-- Laws of the least number that passes a test. Assumes nothing.
use mathlib.Core.Path.{◌≡◌, subst}
use mathlib.Core.Logic.{◌⊎◌, inl, inr}
use mathlib.Core.Bool.{Bool, true, false}
use Prim.Native.Nat.{ℕ, zero, suc, ◌+◌, ◌≤◌, ◌<◌}
use native.Mathlib.Omega.{arith}
use lib.Dec.{T}
use Rattle.lists.proofs.Tests.{eq?, below?}
use Rattle.lists.specs.Least.{least_from, least}

-- r is the first of the numbers k .. e - 1 that passes, or e
pub record First (k e : ℕ) (p : ℕ → Bool) (r : ℕ) : Type 0 where
  pub top : r ≤ e
  pub bottom : k ≤ r
  pub passes : r < e → T (p r)
  pub others : (j : ℕ) → k ≤ j → j < r → T (p j) → ⊥

pub firsts : (f k : ℕ) (p : ℕ → Bool) → First k (k + f) p (least_from f k p)
unfolding least_from
firsts zero k p = record {
  top = omega arith;
  bottom = omega arith;
  passes = λ h. absurd (omega arith);
  others = λ j h i t. omega arith;
}
firsts (suc f) k p = go (p k) (λ t. t) (λ g t. g t) (firsts f (suc k) p)
  where
    go : (b : Bool) → (T b → T (p k)) → ((T b → ⊥) → T (p k) → ⊥) → First (suc k) (suc k + f) p (least_from f (suc k) p)
        → First k (k + suc f) p (elim b as (λ _. ℕ) [ true ↦ k | false ↦ least_from f (suc k) p ])
    go true y n r = record {
      top = omega arith;
      bottom = omega arith;
      passes = λ h. y tt;
      others = λ j h i t. omega arith;
    }
    go false y n r = record {
      top = omega (arith, r.top);
      bottom = omega (arith, r.bottom);
      passes = λ h. r.passes (omega (arith, h));
      others = λ j h i t. other j h i t (eq? j k);
    }
      where
        other : (j : ℕ) → k ≤ j → j < least_from f (suc k) p → T (p j) → (j ≡ k) ⊎ (j ≡ k → ⊥) → ⊥
        other j h i t (inl e) = n (λ z. z) (subst (λ (m : ℕ). T (p m)) e t)
        other j h i t (inr e) = r.others j (omega (arith, e)) i t

module _ (n : ℕ) (p : ℕ → Bool) where
  pub least-top : least n p ≤ n
  least-top = omega (arith, (firsts n 0 p).top)

  pub least_passes : least n p < n → T (p (least n p))
  least_passes h = (firsts n 0 p).passes (omega (arith, h))

  pub least_first : (j : ℕ) → j < least n p → T (p j) → ⊥
  least_first j h t = (firsts n 0 p).others j (omega arith) h t

  -- a number that passes is no less than the least
  pub least_le : (j : ℕ) → T (p j) → least n p ≤ j
  least_le j t = go (below? j (least n p))
    where
      go : (j < least n p) ⊎ (least n p ≤ j) → least n p ≤ j
      go (inl h) = absurd (least_first j h t)
      go (inr h) = h

  -- the only number below n that passes and has none before it
  pub least-is : (r : ℕ) → r < n → T (p r) → ((j : ℕ) → j < r → T (p j) → ⊥) → least n p ≡ r
  least-is r h t f = go (below? (least n p) r)
    where
      go : (least n p < r) ⊎ (r ≤ least n p) → least n p ≡ r
      go (inl u) = absurd (f (least n p) u (least_passes (omega arith)))
      go (inr u) = omega (arith, least_le r t)

  -- none passes
  pub least-none : ((j : ℕ) → j < n → T (p j) → ⊥) → least n p ≡ n
  least-none f = go (below? (least n p) n)
    where
      go : (least n p < n) ⊎ (n ≤ least n p) → least n p ≡ n
      go (inl u) = absurd (f (least n p) u (least_passes u))
      go (inr u) = omega (arith, least-top)

  -- some number passes, or none
  pub some? : ((r : ℕ) × (r < n) × T (p r)) ⊎ ((j : ℕ) → j < n → T (p j) → ⊥)
  some? = go (below? (least n p) n)
    where
      go : (least n p < n) ⊎ (n ≤ least n p) → ((r : ℕ) × (r < n) × T (p r)) ⊎ ((j : ℕ) → j < n → T (p j) → ⊥)
      go (inl u) = inl (least n p, u, least_passes u)
      go (inr u) = inr (λ j h t. omega (arith, least_le j t))
