-- Members of a mapped list; tests that agree at the members of a list, or at the numbers below n; tests that pass equally many numbers. Assumes nothing.
use mathlib.Core.Path.{◌≡◌, refl, ap, ap₂}
use mathlib.Core.Logic.{◌⊎◌, inl, inr}
use mathlib.Core.Bool.{Bool, true, false}
use mathlib.Core.List.{List, [], ◌∷◌, map}
use Prim.Native.Nat.{ℕ, zero, suc, ◌≤◌, ◌<◌}
use native.Mathlib.Omega.{arith}
use lib.Dec.{T}
use Rattle.lists.proofs.Tests.{T-or}
use Rattle.lists.specs.Members.{In}
use Rattle.lists.specs.Count.{bit, count}
use Rattle.lists.proofs.Count.{count_lt}
use Rattle.lists.specs.Numbers.{keep}

pub in_map : (f : ℕ → ℕ) (a : ℕ) (xs : List ℕ) → In a xs → In (f a) (map f xs)
in_map f a [] h = absurd h
in_map f a (x ∷ xs) (inl e) = inl (ap f e)
in_map f a (x ∷ xs) (inr h) = inr (in_map f a xs h)

pub map_in : (f : ℕ → ℕ) (y : ℕ) (xs : List ℕ) → In y (map f xs) → (a : ℕ) × In a xs × (y ≡ f a)
map_in f y [] h = absurd h
map_in f y (x ∷ xs) (inl e) = (x, inl refl, e)
map_in f y (x ∷ xs) (inr h) = let r = map_in f y xs h in (r.0, inr r.1, r.2)

-- ---- what agrees at the members of a list, or at the numbers below n

pub map-agree : (f g : ℕ → ℕ) (xs : List ℕ) → ((x : ℕ) → In x xs → f x ≡ g x) → map f xs ≡ map g xs
map-agree f g [] e = refl
map-agree f g (x ∷ xs) e = ap₂ (λ (y : ℕ) (l : List ℕ). y ∷ l) (e x (inl refl)) (map-agree f g xs (λ y h. e y (inr h)))

pub keep-agree : (p q : ℕ → Bool) (xs : List ℕ) → ((x : ℕ) → In x xs → p x ≡ q x) → keep p xs ≡ keep q xs
keep-agree p q [] e = refl
keep-agree p q (x ∷ xs) e =
    ap₂ (λ (b : Bool) (l : List ℕ). elim b as (λ _. List ℕ) [ true ↦ x ∷ l | false ↦ l ]) (e x (inl refl)) (keep-agree p q xs (λ y h. e y (inr h)))

-- a test that passes no more numbers than a narrower one passes no other
pub count_full : (n : ℕ) (p q : ℕ → Bool) → ((k : ℕ) → k < n → T (q k) → T (p k)) → count n p ≤ count n q → (x : ℕ) → x < n → T (p x) → T (q x)
count_full n p q sub h x i t = go (T-or (q x))
  where
    go : T (q x) ⊎ (T (q x) → ⊥) → T (q x)
    go (inl u) = u
    go (inr f) = absurd (omega (arith, count_lt n p q x i t f sub))

pub count_same : (n : ℕ) (f g : ℕ → Bool) → ((i : ℕ) → f i ≡ g i) → count n f ≡ count n g
unfolding count
count_same zero f g h = refl
count_same (suc n) f g h = omega (arith, ap bit (h n), count_same n f g h)
