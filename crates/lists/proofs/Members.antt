-- Laws of membership: as a relation, as a test, at a place; a test at all members, and what holds of each. Assumes nothing.
use mathlib.Core.Path.{◌≡◌, refl, sym, ap, ◌∙◌, subst}
use mathlib.Core.Logic.{◌⊎◌, inl, inr, ⊎_elim}
use mathlib.Core.Bool.{Bool, true, ◌&&◌, ◌||◌, and_assoc, or_assoc}
use mathlib.Core.List.{List, [], ◌∷◌, ◌++◌, map}
use Prim.Native.Nat.{ℕ, zero, suc, ◌<◌}
use native.Mathlib.Omega.{arith}
use lib.Dec.{T, eqb, eqb→eq}
use lib.ListN.{length, get_or, replicate}
use Rattle.lists.proofs.Tests.{T-or, eq→eqb, or_left, or_right, or_cases, and_true}
use Rattle.lists.specs.Members.{In, memb, all, Each, Distinct}

pub memb→in : (x : ℕ) (l : List ℕ) → T (memb x l) → In x l
memb→in x [] t = t
memb→in x (y ∷ ys) t = go (memb→in x ys) (or_cases (eqb x y) (memb x ys) t)
  where
    go : (T (memb x ys) → In x ys) → T (eqb x y) ⊎ T (memb x ys) → (x ≡ y) ⊎ In x ys
    go rec (inl e) = inl (eqb→eq x y e)
    go rec (inr m) = inr (rec m)

pub in→memb : (x : ℕ) (l : List ℕ) → In x l → T (memb x l)
in→memb x [] h = h
in→memb x (y ∷ ys) (inl e) = or_left (eqb x y) (memb x ys) (eq→eqb e)
in→memb x (y ∷ ys) (inr m) = or_right (eqb x y) (memb x ys) (in→memb x ys m)

pub in? : (x : ℕ) (l : List ℕ) → In x l ⊎ (In x l → ⊥)
in? x l = go (T-or (memb x l))
  where
    go : T (memb x l) ⊎ (T (memb x l) → ⊥) → In x l ⊎ (In x l → ⊥)
    go (inl t) = inl (memb→in x l t)
    go (inr f) = inr (λ h. f (in→memb x l h))

-- ---- members of two lists, one after the other

pub in_append_left : (x : ℕ) (l m : List ℕ) → In x l → In x (l ++ m)
in_append_left x [] m h = absurd h
in_append_left x (y ∷ l) m (inl e) = inl e
in_append_left x (y ∷ l) m (inr h) = inr (in_append_left x l m h)

pub in_append_right : (x : ℕ) (l m : List ℕ) → In x m → In x (l ++ m)
in_append_right x [] m h = h
in_append_right x (y ∷ l) m h = inr (in_append_right x l m h)

pub in_append : (x : ℕ) (l m : List ℕ) → In x (l ++ m) → In x l ⊎ In x m
in_append x [] m h = inr h
in_append x (y ∷ l) m (inl e) = inl (inl e)
in_append x (y ∷ l) m (inr h) = go (in_append x l m h)
  where
    go : In x l ⊎ In x m → In x (y ∷ l) ⊎ In x m
    go (inl i) = inl (inr i)
    go (inr i) = inr i

-- two lists without a common member, each without one twice
pub distinct_append : (l m : List ℕ) → Distinct l → Distinct m → ((x : ℕ) → In x l → In x m → ⊥) → Distinct (l ++ m)
distinct_append [] m d e f = e
distinct_append (y ∷ l) m d e f = (λ h. ⊎_elim d.0 (f y (inl refl)) (in_append y l m h), distinct_append l m d.1 e (λ x h. f x (inr h)))

pub memb-append : (x : ℕ) (l m : List ℕ) → memb x (l ++ m) ≡ memb x l || memb x m
memb-append x [] m = refl
memb-append x (y ∷ l) m = ap (λ (b : Bool). eqb x y || b) (memb-append x l m) ∙ sym (or_assoc (eqb x y) (memb x l) (memb x m))

-- ---- members by place

pub get_d_in : (xs : List ℕ) (i : ℕ) → i < length xs → In (get_or xs i 0) xs
get_d_in [] i h = absurd (omega arith)
get_d_in (x ∷ xs) zero h = inl refl
get_d_in (x ∷ xs) (suc i) h = inr (get_d_in xs i (omega arith))

pub in_get_d : (xs : List ℕ) (x : ℕ) → In x xs → (i : ℕ) × (i < length xs) × (get_or xs i 0 ≡ x)
in_get_d [] x h = absurd h
in_get_d (y ∷ xs) x (inl e) = (0, omega arith, sym e)
in_get_d (y ∷ xs) x (inr h) = let r = in_get_d xs x h in (suc r.0, omega (arith, r.1), r.2)

-- in a list without a member twice, a member has one place
pub distinct_at : (xs : List ℕ) → Distinct xs → (i j : ℕ) → i < length xs → j < length xs → get_or xs i 0 ≡ get_or xs j 0 → i ≡ j
distinct_at [] d i j h k e = absurd (omega arith)
distinct_at (x ∷ xs) d zero zero h k e = refl
distinct_at (x ∷ xs) d zero (suc j) h k e = absurd (d.0 (subst (λ (y : ℕ). In y xs) (sym e) (get_d_in xs j (omega arith))))
distinct_at (x ∷ xs) d (suc i) zero h k e = absurd (d.0 (subst (λ (y : ℕ). In y xs) e (get_d_in xs i (omega arith))))
distinct_at (x ∷ xs) d (suc i) (suc j) h k e = ap suc (distinct_at xs d.1 i j (omega arith) (omega arith) e)

pub all-at : (p : ℕ → Bool) (xs : List ℕ) → all p xs ≡ true → (x : ℕ) → In x xs → p x ≡ true
all-at p [] e x h = absurd h
all-at p (y ∷ xs) e x (inl q) = ap p q ∙ (and_true (p y) (all p xs) e).0
all-at p (y ∷ xs) e x (inr h) = all-at p xs (and_true (p y) (all p xs) e).1 x h

pub at_all : (p : ℕ → Bool) (xs : List ℕ) → ((x : ℕ) → In x xs → p x ≡ true) → all p xs ≡ true
at_all p [] f = refl
at_all p (y ∷ xs) f = rw (f y (inl refl)) (at_all p xs (λ x h. f x (inr h)))

pub all_append : {A : Type 0} (p : A → Bool) (xs ys : List A) → all p (xs ++ ys) ≡ all p xs && all p ys
all_append p [] ys = refl
all_append p (x ∷ xs) ys = ap (λ (b : Bool). p x && b) (all_append p xs ys) ∙ sym (and_assoc (p x) (all p xs) (all p ys))

-- ---- what holds of each member, at its place

pub each_at : {A : Type 0} (P : A → Type 0) (xs : List A) (d : A) → Each P xs → (i : ℕ) → i < length xs → P (get_or xs i d)
each_at P [] d h i k = absurd (omega arith)
each_at P (x ∷ xs) d h zero k = h.0
each_at P (x ∷ xs) d h (suc i) k = each_at P xs d h.1 i (omega arith)

pub at_each : {A : Type 0} (P : A → Type 0) (xs : List A) (d : A) → ((i : ℕ) → i < length xs → P (get_or xs i d)) → Each P xs
at_each P [] d f = tt
at_each P (x ∷ xs) d f = (f 0 (omega arith), at_each P xs d (λ i h. f (suc i) (omega arith)))

pub in_each : (P : ℕ → Type 0) (xs : List ℕ) → ((x : ℕ) → In x xs → P x) → Each P xs
in_each P xs f = at_each P xs 0 (λ i h. f (get_or xs i 0) (get_d_in xs i h))

pub each_map : {A B : Type 0} (P : B → Type 0) (f : A → B) (xs : List A) → Each (λ x. P (f x)) xs → Each P (map f xs)
each_map P f [] h = tt
each_map P f (x ∷ xs) h = (h.0, each_map P f xs h.1)

-- a list of one value has it at every place, and past its end as the default
pub get_d_same : {A : Type 0} (n i : ℕ) (a : A) → get_or (replicate n a) i a ≡ a
get_d_same zero i a = refl
get_d_same (suc n) zero a = refl
get_d_same (suc n) (suc i) a = get_d_same n i a

pub each-parts : {A : Type 0} (P : A → Type 0) (xs ys : List A) → Each P (xs ++ ys) → Each P xs × Each P ys
each-parts P [] ys h = (tt, h)
each-parts P (x ∷ xs) ys h = let r = each-parts P xs ys h.1 in ((h.0, r.0), r.1)
