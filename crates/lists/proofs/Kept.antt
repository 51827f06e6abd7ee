-- The numbers below n that pass a test, as a list by rising number: one number more, and how many there are. Assumes nothing.
use mathlib.Core.Path.{◌≡◌, refl, sym, ap, ◌∙◌}
use mathlib.Core.Logic.{◌⊎◌, inl, inr}
use mathlib.Core.Bool.{Bool}
use mathlib.Core.List.{List, [], ◌∷◌, ◌++◌, append-nil}
use Prim.Native.Nat.{ℕ, zero, suc, ◌+◌, ◌-◌, ◌≤◌, ◌<◌}
use native.Mathlib.Omega.{arith}
use lib.Dec.{T}
use lib.ListN.{length, length-append}
use Rattle.lists.proofs.Tests.{T-or}
use Rattle.lists.specs.Count.{count}
use Rattle.lists.proofs.Count.{bit_true, bit_false}
use Rattle.lists.specs.Numbers.{range, keep}
use Rattle.lists.proofs.Numbers.{keep_yes, keep_no}

range_more : (k n : ℕ) → range k (n + 1) ≡ range k n ++ ((k + n) ∷ [])
range_more k zero = let e : k + 0 ≡ k = omega arith in ap (λ (x : ℕ). x ∷ []) (sym e)
range_more k (suc n) =
    let e : suc n + 1 ≡ suc (n + 1) = omega arith in
    let d : suc k + n ≡ k + suc n = omega arith in
    ap (range k) e ∙ ap (λ (l : List ℕ). k ∷ l) (range_more (suc k) n ∙ ap (λ (x : ℕ). range (suc k) n ++ (x ∷ [])) d)

keep_append : (p : ℕ → Bool) (xs ys : List ℕ) → keep p (xs ++ ys) ≡ keep p xs ++ keep p ys
keep_append p [] ys = refl
keep_append p (x ∷ xs) ys = go (T-or (p x)) (keep_append p xs ys)
  where
    go : T (p x) ⊎ (T (p x) → ⊥) → keep p (xs ++ ys) ≡ keep p xs ++ keep p ys → keep p (x ∷ (xs ++ ys)) ≡ keep p (x ∷ xs) ++ keep p ys
    go (inl t) e = keep_yes p x (xs ++ ys) t ∙ ap (λ (l : List ℕ). x ∷ l) e ∙ ap (λ (l : List ℕ). l ++ keep p ys) (sym (keep_yes p x xs t))
    go (inr f) e = keep_no p x (xs ++ ys) f ∙ e ∙ ap (λ (l : List ℕ). l ++ keep p ys) (sym (keep_no p x xs f))

module _ (p : ℕ → Bool) where
  -- the numbers below n that pass
  abbrev pub kept : ℕ → List ℕ
  kept n = keep p (range 0 n)

  more : (n : ℕ) → kept (n + 1) ≡ kept n ++ keep p (n ∷ [])
  more n = let e : 0 + n ≡ n = omega arith in ap (keep p) (range_more 0 n) ∙ keep_append p (range 0 n) ((0 + n) ∷ []) ∙ ap (λ (x : ℕ). kept n ++ keep p (x ∷ [])) e

  pub kept_yes : (n : ℕ) → T (p n) → kept (n + 1) ≡ kept n ++ (n ∷ [])
  kept_yes n t = more n ∙ ap (λ (l : List ℕ). kept n ++ l) (keep_yes p n [] t)

  pub kept_no : (n : ℕ) → (T (p n) → ⊥) → kept (n + 1) ≡ kept n
  kept_no n f = more n ∙ ap (λ (l : List ℕ). kept n ++ l) (keep_no p n [] f) ∙ append-nil (kept n)

  -- they are as many as are counted
  pub kept-length : (n : ℕ) → length (kept n) ≡ count n p
  unfolding count
  kept-length zero = refl
  kept-length (suc n) = go (T-or (p n)) (kept-length n)
    where
      s : suc n ≡ n + 1
      s = omega arith

      go : T (p n) ⊎ (T (p n) → ⊥) → length (kept n) ≡ count n p → length (kept (suc n)) ≡ count (suc n) p
      go (inl t) e = omega (arith, ap (λ (k : ℕ). length (kept k)) s, ap length (kept_yes n t) ∙ length-append (kept n) (n ∷ []), bit_true (p n) t)
      go (inr f) e = omega (arith, ap (λ (k : ℕ). length (kept k)) s, ap length (kept_no n f), bit_false (p n) f)

  pub count_more : (n k : ℕ) → count n p ≤ count (n + k) p
  unfolding count
  count_more n zero = let e : n + 0 ≡ n = omega arith in rw e (omega arith)
  count_more n (suc k) = let e : n + suc k ≡ suc (n + k) = omega arith in rw e (omega (arith, count_more n k))

  -- a number that passes has fewer before it than there are below any greater number
  pub kept-room : (a n : ℕ) → a < n → T (p a) → length (kept a) < count n p
  kept-room a n h t =
      let d : a + 1 + (n - (a + 1)) ≡ n = omega arith in
      omega (arith, kept-length a, kept-length (a + 1), ap length (kept_yes a t) ∙ length-append (kept a) (a ∷ []), count_more (a + 1) (n - (a + 1)), ap (λ (k : ℕ). count k p) d)
