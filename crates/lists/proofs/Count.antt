-- Laws of counting, also for the numbers below 2 n by pairs. Assumes nothing.
use mathlib.Core.Path.{◌≡◌, refl, sym, ap, ◌∙◌, subst}
use mathlib.Core.Logic.{◌⊎◌, inl, inr, ◌↔◌}
use mathlib.Core.Bool.{Bool, true, false}
use mathlib.Core.List.{List, [], ◌∷◌}
use Prim.Native.Nat.{ℕ, zero, suc, ◌+◌, ◌*◌, ◌≤◌, ◌<◌}
use native.Mathlib.Omega.{arith}
use lib.Dec.{T, ltb}
use borrow.Author.Tests.{lt-ltb, le-ltb}
use lib.ListN.{length}
use Rattle.lists.proofs.Tests.{eq?, below?}
use Rattle.lists.specs.Members.{In, memb, Distinct}
use Rattle.lists.proofs.Members.{memb→in, in→memb}
use Rattle.lists.specs.Count.{bit, count}

pub bit_true : (b : Bool) → T b → bit b ≡ 1
bit_true true t = refl
bit_true false t = absurd t

pub bit_false : (b : Bool) → (T b → ⊥) → bit b ≡ 0
bit_false true f = absurd (f tt)
bit_false false f = refl

pub bit_le : (a b : Bool) → (T a → T b) → bit a ≤ bit b
bit_le true true f = omega arith
bit_le true false f = absurd (f tt)
bit_le false b f = omega arith

pub bit_le_one : (a : Bool) → bit a ≤ 1
bit_le_one true = omega arith
bit_le_one false = omega arith

pub bit-one : (a b : Bool) → 1 ≤ bit a + bit b → T a ⊎ T b
bit-one true b h = inl tt
bit-one false true h = inr tt
bit-one false false h = absurd (omega arith)

-- of two different numbers just one is below the other
pub bit_ltb : (m n : ℕ) → (m ≡ n → ⊥) → bit (ltb m n) + bit (ltb n m) ≡ 1
bit_ltb m n e = go (below? m n)
  where
    go : (m < n) ⊎ (n ≤ m) → bit (ltb m n) + bit (ltb n m) ≡ 1
    go (inl h) = rw (lt-ltb m n h, le-ltb n m (omega arith))
    go (inr h) = rw (le-ltb m n h, lt-ltb n m (omega (arith, e)))

pub count_le : (n : ℕ) (p q : ℕ → Bool) → ((k : ℕ) → k < n → T (p k) → T (q k)) → count n p ≤ count n q
unfolding count
count_le zero p q f = omega arith
count_le (suc n) p q f = omega (arith, bit_le (p n) (q n) (f n (omega arith)), count_le n p q (λ k h. f k (omega arith)))

pub count_both : (n : ℕ) (p q : ℕ → Bool) → ((k : ℕ) → k < n → T (p k) ↔ T (q k)) → count n p ≡ count n q
count_both n p q f = omega (arith, count_le n p q (λ k h. (f k h).0), count_le n q p (λ k h. (f k h).1))

pub count-all : (n : ℕ) (p : ℕ → Bool) → count n p ≤ n
unfolding count
count-all zero p = omega arith
count-all (suc n) p = omega (arith, bit_le_one (p n), count-all n p)

pub count_none : (n : ℕ) (p : ℕ → Bool) → ((k : ℕ) → k < n → T (p k) → ⊥) → count n p ≡ 0
unfolding count
count_none zero p f = refl
count_none (suc n) p f = omega (arith, bit_false (p n) (f n (omega arith)), count_none n p (λ k h. f k (omega arith)))

pub count-every : (n : ℕ) (p : ℕ → Bool) → ((k : ℕ) → k < n → T (p k)) → count n p ≡ n
unfolding count
count-every zero p f = refl
count-every (suc n) p f = omega (arith, bit_true (p n) (f n (omega arith)), count-every n p (λ k h. f k (omega arith)))

-- p holds wherever q does, and at x too, where q does not
pub count_lt : (n : ℕ) (p q : ℕ → Bool) (x : ℕ) → x < n → T (p x) → (T (q x) → ⊥) → ((k : ℕ) → k < n → T (q k) → T (p k)) → suc (count n q) ≤ count n p
unfolding count
count_lt zero p q x h a b f = absurd (omega arith)
count_lt (suc n) p q x h a b f = go (λ l. count_lt n p q x l a b (λ k i. f k (omega arith))) (eq? n x)
  where
    go : (x < n → suc (count n q) ≤ count n p) → (n ≡ x) ⊎ (n ≡ x → ⊥) → suc (bit (q n) + count n q) ≤ bit (p n) + count n p
    go rec (inl e) =
        omega (
          arith,
          bit_true (p n) (subst (λ (k : ℕ). T (p k)) (sym e) a),
          bit_false (q n) (subst (λ (k : ℕ). T (q k) → ⊥) (sym e) b),
          count_le n q p (λ k i. f k (omega arith)),
        )
    go rec (inr e) =
        let l : x < n = omega (arith, e) in
        omega (arith, bit_le (q n) (p n) (f n (omega arith)), rec l)

-- p holds only where q does, and at x
pub count-one : (n : ℕ) (p q : ℕ → Bool) (x : ℕ) → ((k : ℕ) → k < n → T (p k) → (k ≡ x) ⊎ T (q k)) → count n p ≤ suc (count n q)
unfolding count
count-one zero p q x f = omega arith
count-one (suc n) p q x f = go (eq? n x) (count-one n p q x (λ k i. f k (omega arith)))
  where
    other : (k : ℕ) → (k ≡ x → ⊥) → (k ≡ x) ⊎ T (q k) → T (q k)
    other k ne (inl e) = absurd (ne e)
    other k ne (inr t) = t

    go : (n ≡ x) ⊎ (n ≡ x → ⊥) → count n p ≤ suc (count n q) → bit (p n) + count n p ≤ suc (bit (q n) + count n q)
    go (inl e) r = omega (arith, bit_le_one (p n), count_le n p q (λ k i t. other k (λ z. omega arith) (f k (omega arith) t)))
    go (inr e) r = omega (arith, bit_le (p n) (q n) (λ t. other n e (f n (omega arith) t)))

-- a list has no more different members than it is long
pub count-memb : (n : ℕ) (l : List ℕ) → count n (λ k. memb k l) ≤ length l
count-memb n [] = omega (arith, count_none n (λ k. false) (λ k i t. t))
count-memb n (x ∷ l) = omega (arith, count-memb n l, count-one n (λ k. memb k (x ∷ l)) (λ k. memb k l) x (λ k i t. go k (memb→in k (x ∷ l) t)))
  where
    go : (k : ℕ) → (k ≡ x) ⊎ In k l → (k ≡ x) ⊎ T (memb k l)
    go k (inl e) = inl e
    go k (inr i) = inr (in→memb k l i)

-- ---- the numbers below 2 n, by pairs

count-two : (n : ℕ) (p : ℕ → Bool) → count (2 * suc n) p ≡ bit (p (2 * n + 1)) + (bit (p (2 * n)) + count (2 * n) p)
unfolding count
count-two n p =
    let e : 2 * suc n ≡ suc (suc (2 * n)) = omega arith in
    let d : suc (2 * n) ≡ 2 * n + 1 = omega arith in
    ap (λ (k : ℕ). count k p) e ∙ ap (λ (k : ℕ). bit (p k) + (bit (p (2 * n)) + count (2 * n) p)) d

-- the even numbers below 2 n, and the odd ones
pub pairs : (n : ℕ) (p : ℕ → Bool) → count (2 * n) p ≡ count n (λ l. p (2 * l)) + count n (λ l. p (2 * l + 1))
unfolding count
pairs zero p = refl
pairs (suc n) p = omega (arith, count-two n p, pairs n p)

-- two counts together, compared with two others at each number
pub counts_le : (n : ℕ) (p q r s : ℕ → Bool) → ((k : ℕ) → k < n → bit (p k) + bit (q k) ≤ bit (r k) + bit (s k)) → count n p + count n q ≤ count n r + count n s
unfolding count
counts_le zero p q r s f = omega arith
counts_le (suc n) p q r s f = omega (arith, f n (omega arith), counts_le n p q r s (λ k h. f k (omega arith)))

-- distinct numbers below n are as many as the numbers below n that are among them
pub distinct_count : (n : ℕ) (xs : List ℕ) → Distinct xs → ((x : ℕ) → In x xs → x < n) → length xs ≡ count n (λ k. memb k xs)
distinct_count n [] d f = sym (count_none n (λ k. false) (λ k h t. t))
distinct_count n (x ∷ xs) d f =
    omega (
      arith,
      distinct_count n xs d.1 (λ y h. f y (inr h)),
      count_lt n (λ k. memb k (x ∷ xs)) (λ k. memb k xs) x (f x (inl refl)) (in→memb x (x ∷ xs) (inl refl)) (λ t. d.0 (memb→in x xs t)) (λ k h t. in→memb k (x ∷ xs) (inr (memb→in k xs t))),
      count-one n (λ k. memb k (x ∷ xs)) (λ k. memb k xs) x (λ k h t. go k (memb→in k (x ∷ xs) t)),
    )
  where
    go : (k : ℕ) → (k ≡ x) ⊎ In k xs → (k ≡ x) ⊎ T (memb k xs)
    go k (inl e) = inl e
    go k (inr h) = inr (in→memb k xs h)
