-- Laws of the sum over a list: term by term, member by member, where one term alone counts, and of numbers that are counted part by part. Assumes nothing.
use mathlib.Core.Path.{◌≡◌, refl, sym, ap, ◌∙◌}
use mathlib.Core.Logic.{◌⊎◌, inl, inr, ◌↔◌}
use mathlib.Core.Bool.{Bool}
use mathlib.Core.List.{List, [], ◌∷◌, map}
use Prim.Native.Nat.{ℕ, zero, suc, ◌+◌, ◌*◌, ◌≤◌, ◌<◌}
use native.Mathlib.Nat.{mul-add}
use native.Mathlib.Omega.{arith}
use lib.Dec.{T}
use lib.ListN.{length, get_or}
use Rattle.lists.specs.Members.{In, Distinct}
use Rattle.lists.specs.Count.{bit, count}
use Rattle.lists.specs.Sum.{sum, sum_of}
use Rattle.lists.proofs.Tests.{T-or}
use Rattle.lists.proofs.Count.{bit_true, bit_false}

-- ---- term by term

pub sums_same : (f g : ℕ → ℕ) (rs : List ℕ) → ((r : ℕ) → In r rs → f r ≡ g r) → sum_of (map f rs) ≡ sum_of (map g rs)
sums_same f g [] e = refl
sums_same f g (r ∷ rs) e = omega (arith, e r (inl refl), sums_same f g rs (λ x h. e x (inr h)))

pub sums_plus : (f g : ℕ → ℕ) (rs : List ℕ) → sum_of (map (λ r. f r + g r) rs) ≡ sum_of (map f rs) + sum_of (map g rs)
sums_plus f g [] = refl
sums_plus f g (r ∷ rs) = omega (arith, sums_plus f g rs)

pub sums_times : (k : ℕ) (f : ℕ → ℕ) (rs : List ℕ) → sum_of (map (λ r. k * f r) rs) ≡ k * sum_of (map f rs)
sums_times k f [] = omega arith
sums_times k f (r ∷ rs) = ap (λ (n : ℕ). k * f r + n) (sums_times k f rs) ∙ sym (mul-add k (f r) (sum_of (map f rs)))

pub sums_none : (f : ℕ → ℕ) (rs : List ℕ) → ((r : ℕ) → In r rs → f r ≡ 0) → sum_of (map f rs) ≡ 0
sums_none f [] e = refl
sums_none f (r ∷ rs) e = omega (arith, e r (inl refl), sums_none f rs (λ x h. e x (inr h)))

pub sums_le : (f g : ℕ → ℕ) (rs : List ℕ) → ((r : ℕ) → In r rs → f r ≤ g r) → sum_of (map f rs) ≤ sum_of (map g rs)
sums_le f g [] h = omega arith
sums_le f g (r ∷ rs) h = omega (arith, h r (inl refl), sums_le f g rs (λ x i. h x (inr i)))

-- where each term is less, the sum is less by the number of terms
pub sums_lt : (f g : ℕ → ℕ) (rs : List ℕ) → ((r : ℕ) → In r rs → f r < g r) → sum_of (map f rs) + length rs ≤ sum_of (map g rs)
sums_lt f g [] h = omega arith
sums_lt f g (r ∷ rs) h = omega (arith, h r (inl refl), sums_lt f g rs (λ x i. h x (inr i)))

-- ---- member by member

sum-front : (n : ℕ) (f : ℕ → ℕ) → sum (suc n) f ≡ f 0 + sum n (λ k. f (suc k))
unfolding sum
sum-front zero f = refl
sum-front (suc n) f = omega (arith, sum-front n f)

pub sum_list : (f : ℕ → ℕ) (rs : List ℕ) → sum (length rs) (λ i. f (get_or rs i 0)) ≡ sum_of (map f rs)
unfolding sum
sum_list f [] = refl
sum_list f (r ∷ rs) = omega (arith, sum-front (length rs) (λ i. f (get_or (r ∷ rs) i 0)), sum_list f rs)

-- ---- where one term alone counts

pub sums-one : (f : ℕ → ℕ) (x : ℕ) (rs : List ℕ) → Distinct rs → In x rs → ((r : ℕ) → In r rs → (r ≡ x → ⊥) → f r ≡ 0) → sum_of (map f rs) ≡ f x
sums-one f x [] d i e = absurd i
sums-one f x (r ∷ rs) d (inl q) e =
    omega (arith, ap f q, sums_none f rs (λ y h. e y (inr h) (λ z. d.0 (rw (sym q ∙ sym z) h))))
sums-one f x (r ∷ rs) d (inr i) e =
    omega (arith, e r (inl refl) (λ z. d.0 (rw z i)), sums-one f x rs d.1 i (λ y h. e y (inr h)))

-- ---- numbers that are counted part by part

-- the sum of the counts of each part, number by number
counts_swap : (t : ℕ → ℕ → Bool) (rs : List ℕ) (n : ℕ) → sum_of (map (λ r. count (suc n) (t r)) rs) ≡ sum_of (map (λ r. bit (t r n)) rs) + sum_of (map (λ r. count n (t r)) rs)
unfolding count
counts_swap t rs n = sums_plus (λ r. bit (t r n)) (λ r. count n (t r)) rs

-- each number that passes belongs to one of the parts, its own: the parts together have all that pass
pub parts-count : (whole : ℕ → Bool) (part : ℕ → ℕ → Bool) (own : ℕ → ℕ) (rs : List ℕ) → Distinct rs → (n : ℕ) → ((k : ℕ) → k < n → T (whole k) → In (own k) rs)
    → ((r k : ℕ) → In r rs → k < n → T (part r k) ↔ (T (whole k) × (own k ≡ r))) → sum_of (map (λ r. count n (part r)) rs) ≡ count n whole
unfolding count
parts-count whole part own rs d zero i e = sums_none (λ r. 0) rs (λ r h. refl)
parts-count whole part own rs d (suc n) i e =
    omega (arith, counts_swap part rs n, one (T-or (whole n)), parts-count whole part own rs d n (λ k h. i k (omega arith)) (λ r k j h. e r k j (omega arith)))
  where
    one : T (whole n) ⊎ (T (whole n) → ⊥) → sum_of (map (λ r. bit (part r n)) rs) ≡ bit (whole n)
    one (inl t) =
        let j : In (own n) rs = i n (omega arith) t in
        sums-one (λ r. bit (part r n)) (own n) rs d j (λ r h z. bit_false (part r n) (λ u. z (sym ((e r n h (omega arith)).0 u).1)))
        ∙ bit_true (part (own n) n) ((e (own n) n j (omega arith)).1 (t, refl)) ∙ sym (bit_true (whole n) t)
    one (inr f) = sums_none (λ r. bit (part r n)) rs (λ r h. bit_false (part r n) (λ u. f ((e r n h (omega arith)).0 u).0)) ∙ sym (bit_false (whole n) f)
