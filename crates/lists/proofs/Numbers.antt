-- Laws of lists of numbers by rising number, of the members that pass a test, and of a test at each number below n. Assumes nothing.
use mathlib.Core.Path.{◌≡◌, refl, sym, ap, ◌∙◌, subst}
use mathlib.Core.Logic.{◌⊎◌, inl, inr}
use mathlib.Core.Bool.{Bool}
use mathlib.Core.List.{List, [], ◌∷◌, map}
use Prim.Native.Nat.{ℕ, zero, suc, ◌+◌, ◌≤◌, ◌<◌}
use native.Mathlib.Omega.{arith}
use lib.Dec.{T}
use lib.ListN.{length, get_or}
use lib.Seq.{ext_get_or}
use Rattle.lists.proofs.Tests.{eq?, T-or, and_left, and_right, and_both, if_true, if_false}
use Rattle.lists.specs.Members.{In, Distinct}
use Rattle.lists.specs.Numbers.{range, keep, every}

pub range_in : (a k n : ℕ) → In a (range k n) → (k ≤ a) × (a < k + n)
range_in a k zero h = absurd h
range_in a k (suc n) (inl e) = omega arith
range_in a k (suc n) (inr h) = let r = range_in a (suc k) n h in omega arith

pub in_range : (a k n : ℕ) → k ≤ a → a < k + n → In a (range k n)
in_range a k zero h i = absurd (omega arith)
in_range a k (suc n) h i = go (eq? a k) (λ j. in_range a (suc k) n j (omega arith))
  where
    go : (a ≡ k) ⊎ (a ≡ k → ⊥) → (suc k ≤ a → In a (range (suc k) n)) → (a ≡ k) ⊎ In a (range (suc k) n)
    go (inl e) f = inl e
    go (inr e) f = inr (f (omega (arith, e)))

pub keep_yes : (p : ℕ → Bool) (x : ℕ) (xs : List ℕ) → T (p x) → keep p (x ∷ xs) ≡ x ∷ keep p xs
keep_yes p x xs t = if_true (p x) (x ∷ keep p xs) (keep p xs) t

pub keep_no : (p : ℕ → Bool) (x : ℕ) (xs : List ℕ) → (T (p x) → ⊥) → keep p (x ∷ xs) ≡ keep p xs
keep_no p x xs f = if_false (p x) (x ∷ keep p xs) (keep p xs) f

pub keep_in : (p : ℕ → Bool) (a : ℕ) (xs : List ℕ) → In a (keep p xs) → In a xs × T (p a)
keep_in p a [] h = absurd h
keep_in p a (x ∷ xs) h = go (keep_in p a xs) (T-or (p x))
  where
    new : (In a (keep p xs) → In a xs × T (p a)) → T (p x) → In a (x ∷ keep p xs) → In a (x ∷ xs) × T (p a)
    new rec t (inl e) = (inl e, subst (λ (k : ℕ). T (p k)) (sym e) t)
    new rec t (inr i) = (inr (rec i).0, (rec i).1)

    go : (In a (keep p xs) → In a xs × T (p a)) → T (p x) ⊎ (T (p x) → ⊥) → In a (x ∷ xs) × T (p a)
    go rec (inl t) = new rec t (subst (λ (l : List ℕ). In a l) (keep_yes p x xs t) h)
    go rec (inr f) = let r = rec (subst (λ (l : List ℕ). In a l) (keep_no p x xs f) h) in (inr r.0, r.1)

pub in_keep : (p : ℕ → Bool) (a : ℕ) (xs : List ℕ) → In a xs → T (p a) → In a (keep p xs)
in_keep p a [] h t = absurd h
in_keep p a (x ∷ xs) h t = go (λ i. in_keep p a xs i t) h (T-or (p x))
  where
    go : (In a xs → In a (keep p xs)) → (a ≡ x) ⊎ In a xs → T (p x) ⊎ (T (p x) → ⊥) → In a (keep p (x ∷ xs))
    go rec (inl e) (inl u) = subst (λ (l : List ℕ). In a l) (sym (keep_yes p x xs u)) (inl e)
    go rec (inr i) (inl u) = subst (λ (l : List ℕ). In a l) (sym (keep_yes p x xs u)) (inr (rec i))
    go rec (inl e) (inr f) = absurd (f (subst (λ (k : ℕ). T (p k)) e t))
    go rec (inr i) (inr f) = subst (λ (l : List ℕ). In a l) (sym (keep_no p x xs f)) (rec i)

-- where no member passes, none is kept
pub keep-none : (p : ℕ → Bool) (xs : List ℕ) → ((x : ℕ) → In x xs → T (p x) → ⊥) → keep p xs ≡ []
keep-none p [] f = refl
keep-none p (x ∷ xs) f = keep_no p x xs (f x (inl refl)) ∙ keep-none p xs (λ y h. f y (inr h))

pub every-at : (n : ℕ) (p : ℕ → Bool) → T (every n p) → (k : ℕ) → k < n → T (p k)
unfolding every
every-at zero p t k h = absurd (omega arith)
every-at (suc n) p t k h = go (eq? k n) (λ i. every-at n p (and_right (p n) (every n p) t) k i)
  where
    go : (k ≡ n) ⊎ (k ≡ n → ⊥) → (k < n → T (p k)) → T (p k)
    go (inl e) rec = subst (λ (j : ℕ). T (p j)) (sym e) (and_left (p n) (every n p) t)
    go (inr e) rec = rec (omega (arith, e))

pub at_every : (n : ℕ) (p : ℕ → Bool) → ((k : ℕ) → k < n → T (p k)) → T (every n p)
unfolding every
at_every zero p f = tt
at_every (suc n) p f = and_both (p n) (every n p) (f n (omega arith)) (at_every n p (λ k h. f k (omega arith)))

-- ---- distinct numbers

-- rising numbers are distinct, and so are those of them that pass a test
pub range_distinct : (k n : ℕ) → Distinct (range k n)
range_distinct k zero = tt
range_distinct k (suc n) = (λ h. let r = range_in k (suc k) n h in omega arith, range_distinct (suc k) n)

pub keep_distinct : (t : ℕ → Bool) (xs : List ℕ) → Distinct xs → Distinct (keep t xs)
keep_distinct t [] d = tt
keep_distinct t (x ∷ xs) d = go (T-or (t x)) (keep_distinct t xs d.1)
  where
    go : T (t x) ⊎ (T (t x) → ⊥) → Distinct (keep t xs) → Distinct (keep t (x ∷ xs))
    go (inl y) rec = subst Distinct (sym (keep_yes t x xs y)) (λ h. d.0 (keep_in t x xs h).0, rec)
    go (inr n) rec = subst Distinct (sym (keep_no t x xs n)) rec

-- ---- the values of f at n numbers from k on

pub values_length : {A : Type 0} (f : ℕ → A) (k n : ℕ) → length (map f (range k n)) ≡ n
values_length f k zero = refl
values_length f k (suc n) = ap suc (values_length f (suc k) n)

values-from : {A : Type 0} (f : ℕ → A) (d : A) (k n i j : ℕ) → i < n → k + i ≡ j → get_or (map f (range k n)) i d ≡ f j
values-from f d k zero i j h e = absurd (omega arith)
values-from f d k (suc n) zero j h e = let q : k ≡ j = omega arith in ap f q
values-from f d k (suc n) (suc i) j h e = values-from f d (suc k) n i j (omega arith) (omega arith)

pub values-at : {A : Type 0} (f : ℕ → A) (d : A) (n i : ℕ) → i < n → get_or (map f (range 0 n)) i d ≡ f i
values-at f d n i h = values-from f d 0 n i i h (omega arith)

-- a list is known by its length and its members
pub values-are : {A : Type 0} (f : ℕ → A) (d : A) (n : ℕ) (l : List A) → length l ≡ n → ((i : ℕ) → i < n → get_or l i d ≡ f i) → l ≡ map f (range 0 n)
values-are f d n l e g =
    ext_get_or d l (map f (range 0 n)) (e ∙ sym (values_length f 0 n)) (λ i h. let k : i < n = omega arith in g i k ∙ sym (values-at f d n i k))
