-- Laws of tests, and of a choice by a test. Assumes nothing.
use mathlib.Core.Path.{◌≡◌, refl, sym, ap, subst}
use mathlib.Core.Logic.{◌⊎◌, inl, inr, ◌↔◌}
use mathlib.Core.Bool.{Bool, true, false, not, ◌&&◌, ◌||◌}
use Prim.Native.Nat.{ℕ, ◌≤◌, ◌<◌}
use lib.Dec.{T, not_T, eqb, ltb, eqb→eq, eqb_refl, ltb→lt, nltb→le}
use Rattle.lists.specs.Tests.{choose}
pub use mathlib.Core.Bool.{and_comm}

-- ---- a test passes or fails

pub bool? : (b : Bool) → (b ≡ true) ⊎ (b ≡ false)
bool? true = inl refl
bool? false = inr refl

pub T-or : (b : Bool) → T b ⊎ (T b → ⊥)
T-or true = inl tt
T-or false = inr (λ t. t)

pub T_true : (b : Bool) → T b → b ≡ true
T_true true t = refl
T_true false t = absurd t

pub true_T : (b : Bool) → b ≡ true → T b
true_T b e = subst T (sym e) tt

pub false_T : (b : Bool) → b ≡ false → T b → ⊥
false_T b e t = subst T e t

pub not_both : (b : Bool) → b ≡ true → b ≡ false → ⊥
not_both b e f = false_T b f (true_T b e)

pub not_true_false : (b : Bool) → (b ≡ true → ⊥) → b ≡ false
not_true_false true f = absurd (f refl)
not_true_false false f = refl

-- a test that fails exactly if P holds passes exactly if P does not
pub true_exactly : {P : Type 0} (b : Bool) → ((b ≡ false) ↔ P) → ((b ≡ true) ↔ (P → ⊥))
true_exactly {P} b e = (λ t p. not_both b t (e.1 p), go b e.0)
  where
    go : (c : Bool) → (c ≡ false → P) → (P → ⊥) → c ≡ true
    go true f h = refl
    go false f h = absurd (h (f refl))

-- two tests that pass together are equal
pub same_test : (a b : Bool) → (a ≡ true → b ≡ true) → (b ≡ true → a ≡ true) → a ≡ b
same_test true b f g = sym (f refl)
same_test false true f g = g refl
same_test false false f g = refl

pub T-same : (a b : Bool) → (T a → T b) → (T b → T a) → a ≡ b
T-same a b f g = same_test a b (λ e. T_true b (f (true_T a e))) (λ e. T_true a (g (true_T b e)))

-- ---- choices

pub choose_true : {A : Type 0} (b : Bool) (x y : A) → T b → choose b x y ≡ x
choose_true true x y t = refl
choose_true false x y t = absurd t

pub choose_false : {A : Type 0} (b : Bool) (x y : A) → (T b → ⊥) → choose b x y ≡ y
choose_false true x y f = absurd (f tt)
choose_false false x y f = refl

-- the same for an `elim`, whose cases are computed only where they are read
pub if_true : {A : Type 0} (b : Bool) (x y : A) → T b → (elim b as (λ _. A) [ true ↦ x | false ↦ y ]) ≡ x
if_true true x y t = refl
if_true false x y t = absurd t

pub if_false : {A : Type 0} (b : Bool) (x y : A) → (T b → ⊥) → (elim b as (λ _. A) [ true ↦ x | false ↦ y ]) ≡ y
if_false true x y f = absurd (f tt)
if_false false x y f = refl

-- ---- and, or

pub and_left : (a b : Bool) → T (a && b) → T a
and_left true b t = tt
and_left false b t = t

pub and_right : (a b : Bool) → T (a && b) → T b
and_right true b t = t
and_right false b t = absurd t

pub and_both : (a b : Bool) → T a → T b → T (a && b)
and_both true b t u = u
and_both false b t u = t

pub and_true : (a b : Bool) → a && b ≡ true → (a ≡ true) × (b ≡ true)
and_true true b e = (refl, e)
and_true false b e = absurd (not_both false e refl)

pub and_false : (a b : Bool) → a && b ≡ false → (a ≡ false) ⊎ (b ≡ false)
and_false true b e = inr e
and_false false b e = inl refl

-- the second test matters only where the first passes
pub and_when : (a : Bool) {b c : Bool} → (a ≡ true → b ≡ c) → a && b ≡ a && c
and_when true f = f refl
and_when false f = refl

-- two tests, one after the other, as code tries them: the second where the first holds
pub and-tried : (r a b c : Bool) → r ≡ a → r ≡ true → c ≡ b → c ≡ a && b
and-tried r a b c e t f = rw (sym e, t) f

pub and_failed : (r a b : Bool) → r ≡ a → r ≡ false → r ≡ a && b
and_failed r a b e f = rw (sym e, f) refl

pub or_left : (a b : Bool) → T a → T (a || b)
or_left true b t = tt
or_left false b t = absurd t

pub or_right : (a b : Bool) → T b → T (a || b)
or_right true b t = tt
or_right false b t = t

pub or_cases : (a b : Bool) → T (a || b) → T a ⊎ T b
or_cases true b t = inl tt
or_cases false b t = inr t

pub or_false : (a b : Bool) → a || b ≡ false → (a ≡ false) × (b ≡ false)
or_false true b e = absurd (not_both true refl e)
or_false false b e = (refl, e)

pub or_true : (a b : Bool) → a || b ≡ true → (a ≡ true) ⊎ (b ≡ true)
or_true true b e = inl refl
or_true false b e = inr e

pub true_or : (a b : Bool) → (a ≡ true) ⊎ (b ≡ true) → a || b ≡ true
true_or true b h = refl
true_or false b (inl e) = absurd (not_both false e refl)
true_or false b (inr e) = e

pub or_swap : (a b c d : Bool) → (a || b) || (c || d) ≡ (a || c) || (b || d)
or_swap true b c d = refl
or_swap false true true d = refl
or_swap false true false d = refl
or_swap false false c d = refl

pub and-not : (a b : Bool) → b ≡ false → a && not b ≡ a
and-not true b e = ap not e
and-not false b e = refl

pub or_no : (b c : Bool) → (T b → ⊥) → b || c ≡ c
or_no true c f = absurd (f tt)
or_no false c f = refl

-- a test that does not fail passes
pub not_false_true : (b : Bool) → (b ≡ false → ⊥) → b ≡ true
not_false_true true f = refl
not_false_true false f = absurd (f refl)

-- ---- numbers

pub eq→eqb : {x y : ℕ} → x ≡ y → T (eqb x y)
eq→eqb {x} {y} e = subst (λ (z : ℕ). T (eqb x z)) e (eqb_refl x)

pub eq? : (x y : ℕ) → (x ≡ y) ⊎ (x ≡ y → ⊥)
eq? x y = go (T-or (eqb x y))
  where
    go : T (eqb x y) ⊎ (T (eqb x y) → ⊥) → (x ≡ y) ⊎ (x ≡ y → ⊥)
    go (inl t) = inl (eqb→eq x y t)
    go (inr f) = inr (λ h. f (eq→eqb h))

pub below? : (m n : ℕ) → (m < n) ⊎ (n ≤ m)
below? m n = go (T-or (ltb m n))
  where
    go : T (ltb m n) ⊎ (T (ltb m n) → ⊥) → (m < n) ⊎ (n ≤ m)
    go (inl t) = inl (ltb→lt m n t)
    go (inr f) = inr (nltb→le m n (not_T (ltb m n) f))
