-- Laws of fields of so many columns: a number that is laid at the right of a field is the number in it, and a field with a number in it is what is laid for that number.
-- Assumes nothing.
use mathlib.Core.Path.{◌≡◌, refl, sym, ap, ap₂, ◌∙◌}
use mathlib.Core.Logic.{◌⊎◌, inl, inr}
use mathlib.Core.Bool.{Bool, true, false, ◌&&◌}
use mathlib.Core.List.{List, [], ◌∷◌, ◌++◌}
use Prim.Native.Nat.{ℕ, zero, suc, ◌+◌, ◌-◌, ◌*◌, ◌≤◌, ◌<◌}
use native.Mathlib.Omega.{arith}
use borrow.Author.Tests.{eq-eqb, ne_eqb, le-leb, leb-true}
use lib.Dec.{eqb, leb}
use lib.ListN.{length, take, drop, length-append, length-drop, length-replicate}
use lib.Seq.{take_all, drop_at}
use Rattle.std.specs.Prelude.{cond}
use Rattle.std.specs.List.{list_all, prefix_len}
use Rattle.lists.specs.Arrays.{at}
use Rattle.lists.specs.Members.{all}
use Rattle.lists.specs.Tests.{choose}
use Rattle.lists.proofs.Arrays.{take_next}
use Rattle.lists.proofs.Members.{all-at, get_d_in}
use Rattle.lists.proofs.Tests.{eq?, and_true}
use Rattle.text.specs.Decimal.{digit, decimal, read_decimal, is_digit, is_decimal}
use Rattle.text.specs.Lines.{space}
use Rattle.text.proofs.DecimalLaws.{is_digit_lem, read-append, read-decimal, decimal-read, decimal-most, decimal-is, decimal-digits, read_below}
use Rattle.columns.specs.Fields.{most_digits, spaces, right_in, spaces_before, after_spaces, is_short, is_number, number_in}

-- ---- the spaces before a text

-- as many as are there, up to the first other byte or the end
pub spaces_counted : (f : List ℕ) → prefix_len (λ b. eqb b space) f ≡ spaces_before f
unfolding spaces_before
spaces_counted [] = refl
spaces_counted (b ∷ f) = go (eqb b space) (spaces_counted f)
  where
    go : (t : Bool) → prefix_len (λ c. eqb c space) f ≡ spaces_before f → cond t (1 + prefix_len (λ c. eqb c space) f) 0 ≡ choose t (suc (spaces_before f)) 0
    go true e = omega (arith, e)
    go false e = refl

-- ---- a test at each byte

pub all_same : (p q : ℕ → Bool) → ((x : ℕ) → p x ≡ q x) → (xs : List ℕ) → list_all p xs ≡ all q xs
all_same p q h [] = refl
all_same p q h (x ∷ xs) = ap₂ (λ (b c : Bool). b && c) (h x) (all_same p q h xs)

-- a field is its spaces and what comes after them
field_split : (f : List ℕ) → spaces (spaces_before f) ++ after_spaces f ≡ f
unfolding spaces_before
field_split [] = refl
field_split (b ∷ f) = go (eq? b space) (field_split f)
  where
    go : (b ≡ space) ⊎ (b ≡ space → ⊥) → spaces (spaces_before f) ++ after_spaces f ≡ f → spaces (spaces_before (b ∷ f)) ++ after_spaces (b ∷ f) ≡ b ∷ f
    go (inl e) r = rw (eq-eqb b space e) (ap₂ (λ (c : ℕ) (l : List ℕ). c ∷ l) (sym e) r)
    go (inr n) r = rw (ne_eqb b space n) refl

-- before digits there is none
no_spaces : (ds : List ℕ) → all is_digit ds ≡ true → spaces_before ds ≡ 0
unfolding spaces_before
no_spaces [] e = refl
no_spaces (b ∷ ds) e = let t = is_digit_lem b (and_true _ _ e).0 in rw (ne_eqb b space (λ q. omega (arith, t.0))) refl

-- and before a text after spaces there are those
spaces_more : (k : ℕ) (text : List ℕ) → spaces_before text ≡ 0 → spaces_before (spaces k ++ text) ≡ k
unfolding spaces_before
spaces_more zero text e = e
spaces_more (suc k) text e = ap suc (spaces_more k text e)

after-spaces : (k : ℕ) (text : List ℕ) → spaces_before text ≡ 0 → after_spaces (spaces k ++ text) ≡ text
after-spaces k text e = rw (spaces_more k text e) (drop_at (spaces k) text k (length-replicate {A = ℕ} k space))

-- from the first other byte on, as a part of the field
pub part-is : (f : List ℕ) (r : ℕ) → r ≡ spaces_before f → take (length f - r) (drop r f) ≡ after_spaces f
part-is f r e = take_all (length f - r) (drop r f) (omega (arith, length-drop r f)) ∙ ap (λ (n : ℕ). drop n f) e

-- ---- a text in so many columns

pub spaces-size : (n : ℕ) → length (spaces n) ≡ n
spaces-size n = length-replicate {A = ℕ} n space

module _ (columns : ℕ) (text : List ℕ) where
  pub right-size : length (right_in columns text) ≡ (columns - length text) + length text
  right-size = omega (arith, length-append (spaces (columns - length text)) text, spaces-size (columns - length text))

-- ---- a number of at most three digits

pub short-decimal : (n : ℕ) → n < 1000 → length (decimal n) ≤ most_digits
short-decimal n h = decimal-most n 3 (omega arith) (omega arith)

module _ (columns n : ℕ) (h : n < 1000) where
  number_text : after_spaces (right_in columns (decimal n)) ≡ decimal n
  number_text = after-spaces (columns - length (decimal n)) (decimal n) (no_spaces (decimal n) (decimal-digits n))

  -- laid at the right of a field, it is the number there
  pub right_is : is_number (right_in columns (decimal n)) ≡ true
  unfolding is_number is_short
  right_is = rw (number_text, decimal-is n, le-leb (length (decimal n)) most_digits (short-decimal n h)) refl

  pub right-reads : number_in (right_in columns (decimal n)) ≡ n
  unfolding number_in
  right-reads = ap read_decimal number_text ∙ read-decimal n

module _ (bs : List ℕ) (e : is_short bs ≡ true) where
  short-is : is_decimal bs ≡ true
  unfolding is_short
  short-is = (and_true _ _ e).0

  short-few : length bs ≤ most_digits
  unfolding is_short
  short-few = leb-true (length bs) most_digits (and_true (is_decimal bs) (leb (length bs) most_digits) e).1

  pub short-below : read_decimal bs < 1000
  short-below = read_below bs 3 short-is short-few

module _ (f : List ℕ) (e : is_number f ≡ true) where
  short : is_short (after_spaces f) ≡ true
  unfolding is_number
  short = e

  pub number-below : number_in f < 1000
  unfolding number_in
  number-below = short-below (after_spaces f) short

  -- a field with a number in it is what is laid for that number
  pub number-right : right_in (length f) (decimal (number_in f)) ≡ f
  unfolding number_in
  number-right =
      let q = decimal-read (after_spaces f) (short-is (after_spaces f) short) in
      let k : length f - length (after_spaces f) ≡ spaces_before f = omega (arith, ap length (field_split f), length-append (spaces (spaces_before f)) (after_spaces f), spaces-size (spaces_before f)) in
      rw (q, k) (field_split f)

-- ---- the number that digits make, one after the other

pub read_next : (bs : List ℕ) (i : ℕ) → i < length bs → read_decimal (take (i + 1) bs) ≡ read_decimal (take i bs) * 10 + (at bs i - digit 0)
read_next bs i h = ap read_decimal (take_next 0 bs i h) ∙ read-append 0 (take i bs) (at bs i ∷ [])

module _ (bs : List ℕ) (e : is_short bs ≡ true) (i : ℕ) (h : i < length bs) where
  pub digit_at : (digit 0 ≤ at bs i) × (at bs i ≤ digit 9)
  unfolding is_decimal
  digit_at = is_digit_lem (at bs i) (all-at is_digit bs (and_true _ _ (short-is bs e)).0 (at bs i) (get_d_in bs i h))

-- the number before the last of three digits has two
pub front_below : (bs : List ℕ) (e : is_short bs ≡ true) (i : ℕ) → i < length bs → read_decimal (take i bs) < 100
front_below bs e zero h = omega arith
front_below bs e (suc zero) h = omega (arith, read_next bs 0 (omega arith), (digit_at bs e 0 (omega arith)).1)
front_below bs e (suc (suc zero)) h =
    omega (arith, read_next bs 0 (omega arith), (digit_at bs e 0 (omega arith)).1, read_next bs 1 (omega arith), (digit_at bs e 1 (omega arith)).1)
front_below bs e (suc (suc (suc i))) h = absurd (omega (arith, short-few bs e))
