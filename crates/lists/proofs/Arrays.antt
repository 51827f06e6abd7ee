-- Laws of arrays as lists: their length as ownership tells it, members laid one after the other, one member more, flags, counts that grow. Assumes nothing.
use mathlib.Core.Path.{◌≡◌, refl, sym, ap, ◌∙◌}
use mathlib.Core.Logic.{◌⊎◌, inl, inr}
use mathlib.Core.Bool.{Bool, true, false, ◌||◌, or-true}
use mathlib.Core.List.{List, [], ◌∷◌, ◌++◌, map}
use Prim.Native.Nat.{ℕ, suc, ◌+◌, ◌≤◌, ◌<◌}
use native.Mathlib.Numerals.{add-one}
use native.Mathlib.Omega.{arith}
use borrow.Author.Tests.{eq-eqb, ne_eqb}
use lib.Dec.{eqb}
use lib.ListN.{length, get_or, set, take, drop, length-map}
use lib.Seq.{sets, sets-eq, length-sets, take-suc, get_or-set_same, get_or-set_other}
use Rattle.lists.specs.Arrays.{at}
use Rattle.lists.specs.Count.{bit}
use Rattle.lists.proofs.Tests.{eq?}

-- the length of an array of structs, as ownership tells it
pub sized : {A B : Type 0} (f : A → B) (l : List A) (n : ℕ) → length (map f l) ≡ n → length l ≡ n
sized f l n e = sym (length-map l f) ∙ e

-- the members before place i + 1
pub take_next : {A : Type 0} (d : A) (l : List A) (i : ℕ) → i < length l → take (i + 1) l ≡ take i l ++ (get_or l i d ∷ [])
take_next d l i h = ap (λ (k : ℕ). take k l) (add-one i) ∙ take-suc l i d h

-- ---- laid into an array from a place on

-- one list after another
pub sets-append : (l : List ℕ) (i : ℕ) (xs ys : List ℕ) → sets (sets l i xs) (i + length xs) ys ≡ sets l i (xs ++ ys)
sets-append l i [] ys = let e : i + 0 ≡ i = omega arith in ap (λ (k : ℕ). sets l k ys) e
sets-append l i (x ∷ xs) ys =
    let e : i + suc (length xs) ≡ suc i + length xs = omega arith in
    ap (λ (k : ℕ). sets (sets (set l i x) (suc i) xs) k ys) e ∙ sets-append (set l i x) (suc i) xs ys

-- at the front: the list, then what stood past its end
pub sets-front : (l xs : List ℕ) → length xs ≤ length l → sets l 0 xs ≡ xs ++ drop (length xs) l
sets-front l xs h =
    let e : 0 + length xs ≡ length xs = omega arith in
    sets-eq xs l 0 (omega arith) ∙ ap (λ (k : ℕ). xs ++ drop k l) e

-- no length changes
pub laid : (b b' : List ℕ) (i : ℕ) (xs : List ℕ) → b' ≡ sets b i xs → length b' ≡ length b
laid b b' i xs e = ap length e ∙ length-sets b i xs

-- ---- arrays of flags

-- one flag more is set
pub flag_set : (l : List Bool) (i x : ℕ) → i < length l → get_or (set l i true) x false ≡ eqb x i || get_or l x false
flag_set l i x h = go (eq? x i)
  where
    go : (x ≡ i) ⊎ (x ≡ i → ⊥) → get_or (set l i true) x false ≡ eqb x i || get_or l x false
    go (inl e) = rw (eq-eqb x i e, e) (get_or-set_same l i true false h)
    go (inr n) = rw (ne_eqb x i n) (get_or-set_other l i x true false n)

-- what is set stays set
pub set_keeps : (l : List Bool) (i x : ℕ) → i < length l → get_or l x false ≡ true → get_or (set l i true) x false ≡ true
set_keeps l i x h e = flag_set l i x h ∙ rw e (or-true (eqb x i))

-- ---- a count at a place that grows by one

pub at_more : (l : List ℕ) (i x : ℕ) → i < length l → at (set l i (at l i + 1)) x ≡ at l x + bit (eqb i x)
at_more l i x h = go (eq? x i)
  where
    go : (x ≡ i) ⊎ (x ≡ i → ⊥) → at (set l i (at l i + 1)) x ≡ at l x + bit (eqb i x)
    go (inl e) = rw e (get_or-set_same l i (at l i + 1) 0 h ∙ ap (λ (b : ℕ). at l i + b) (sym (ap bit (eq-eqb i i refl))))
    go (inr n) = get_or-set_other l i x (at l i + 1) 0 n ∙ omega (arith, ap bit (ne_eqb i x (λ e. n (sym e))))
