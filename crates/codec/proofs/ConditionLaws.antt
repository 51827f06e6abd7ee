-- What the conditions of refusals 1 to 4 say, in the words of document 01. Assumes nothing.
use mathlib.Core.Path.{◌≡◌, refl, ap}
use mathlib.Core.Logic.{◌⊎◌, inl, inr, ◌↔◌}
use mathlib.Core.Bool.{true, false}
use mathlib.Core.List.{List, [], ◌∷◌}
use Prim.Native.Nat.{ℕ, zero, suc, ◌+◌, ◌/◌, ◌%◌, ◌≤◌, ◌<◌}
use native.Mathlib.Omega.{arith}
use borrow.Author.Tests.{ltb-true, ltb-false, lt-ltb, eqb-true, eq-eqb}
use lib.Dec.{ltb}
use lib.ListN.{length, take, drop, length-drop}
use Rattle.lists.proofs.Tests.{bool?, not_both, or_true, true_or}
use Rattle.codec.specs.declared.Field.{Field}
use Rattle.codec.specs.Field.{number}
use Rattle.codec.specs.Given.{bit_at, SomeGiven, EndsBefore, HoldsAbsent}
use Rattle.codec.specs.Part.{taken, size, rest, value_of, redundant, some_redundant, map_byte, map_missing, map_undefined, field_missing, field_redundant}

-- ---- 1: a part's map byte is missing

pub map_missing_lem : (s : List ℕ) → (map_missing s ≡ true) ↔ (s ≡ [])
unfolding map_missing
map_missing_lem [] = (λ e. refl, λ e. refl)
map_missing_lem (b ∷ s) = (λ e. absurd (omega (arith, eqb-true (suc (length s)) 0 e)), λ e. absurd (omega (arith, ap length e)))

-- ---- 2: a map has an undefined bit

-- a number that is not 0 has a bit that is set; n bounds the number
some-bit : (n m : ℕ) → m ≤ n → 1 ≤ m → (i : ℕ) × (bit_at m i ≡ 1)
some-bit zero m h k = absurd (omega arith)
some-bit (suc n) m h k = go (m % 2) refl (λ j. some-bit n (m / 2) (omega arith) j)
  where
    go : (b : ℕ) → m % 2 ≡ b → (1 ≤ m / 2 → (i : ℕ) × (bit_at (m / 2) i ≡ 1)) → (i : ℕ) × (bit_at m i ≡ 1)
    go zero e rec = let r = rec (omega arith) in (suc r.0, r.1)
    go (suc b) e rec = (0, omega arith)

-- so where something is left of the map there is a bit that no field has
left-bit : (fs : List Field) (m : ℕ) → 1 ≤ rest m fs → (i : ℕ) × (length fs ≤ i) × (bit_at m i ≡ 1)
left-bit [] m h = let r = some-bit m m (omega arith) h in (r.0, omega arith, r.1)
left-bit (f ∷ fs) m h = let r = left-bit fs (m / 2) h in (suc r.0, omega (arith, r.1), r.2)

bit-some : (i m : ℕ) → bit_at m i ≡ 1 → 1 ≤ m
bit-some zero m e = omega arith
bit-some (suc i) m e = omega (arith, bit-some i (m / 2) e)

bit-left : (fs : List Field) (m i : ℕ) → length fs ≤ i → bit_at m i ≡ 1 → 1 ≤ rest m fs
bit-left [] m i h e = bit-some i m e
bit-left (f ∷ fs) m zero h e = absurd (omega arith)
bit-left (f ∷ fs) m (suc i) h e = bit-left fs (m / 2) i (omega arith) e

pub map-undefined : (fs : List Field) (s : List ℕ) → (map_undefined fs s ≡ true) ↔ ((i : ℕ) × (length fs ≤ i) × (bit_at (map_byte s) i ≡ 1))
unfolding map_undefined
map-undefined fs s =
    (λ e. left-bit fs (map_byte s) (ltb-true 0 (rest (map_byte s) fs) e), λ r. lt-ltb 0 (rest (map_byte s) fs) (bit-left fs (map_byte s) r.0 r.1 r.2))

-- ---- 3 and 4: of a field whose bit is set

taken-given : (f : Field) (b n : ℕ) → b < 2 → n < taken f b → (b ≡ 1) × (n < f.width)
unfolding taken
taken-given f zero n c h = absurd (omega arith)
taken-given f (suc zero) n c h = (refl, h)
taken-given f (suc (suc b)) n c h = absurd (omega arith)

short-given : (m : ℕ) (fs : List Field) (s : List ℕ) → length s < size m fs → SomeGiven EndsBefore m fs s
short-given m [] s h = absurd (omega arith)
short-given m (f ∷ fs) s h = go (bool? (ltb (length s) (taken f (m % 2)))) (short-given (m / 2) fs (drop (taken f (m % 2)) s))
  where
    go : (ltb (length s) (taken f (m % 2)) ≡ true) ⊎ (ltb (length s) (taken f (m % 2)) ≡ false)
        → (length (drop (taken f (m % 2)) s) < size (m / 2) fs → SomeGiven EndsBefore (m / 2) fs (drop (taken f (m % 2)) s))
        → SomeGiven EndsBefore m (f ∷ fs) s
    go (inl e) rec = inl (taken-given f (m % 2) (length s) (omega arith) (ltb-true (length s) (taken f (m % 2)) e))
    go (inr e) rec = inr (rec (rw length-drop (omega (arith, ltb-false (length s) (taken f (m % 2)) e))))

given-short : (m : ℕ) (fs : List Field) (s : List ℕ) → SomeGiven EndsBefore m fs s → length s < size m fs
unfolding taken
given-short m [] s h = absurd h
given-short m (f ∷ fs) s (inl h) = rw h.0 (omega (arith, h.1))
given-short m (f ∷ fs) s (inr h) = omega (arith, length-drop (taken f (m % 2)) s, given-short (m / 2) fs (drop (taken f (m % 2)) s) h)

-- 3: the bytes end before a field whose bit is set
pub field_missing_lem : (fs : List Field) (m : ℕ) (s : List ℕ) → (field_missing fs (m ∷ s) ≡ true) ↔ SomeGiven EndsBefore m fs s
unfolding field_missing
field_missing_lem fs m s =
    (λ e. short-given m fs s (omega (arith, ltb-true (suc (length s)) (1 + size m fs) e)), λ h. lt-ltb (suc (length s)) (1 + size m fs) (omega (arith, given-short m fs s h)))

redundant-given : (f : Field) (b : ℕ) (s : List ℕ) → b < 2 → redundant f b s ≡ true → (b ≡ 1) × HoldsAbsent f s
unfolding value_of redundant
redundant-given f zero s c e = absurd (not_both false e refl)
redundant-given f (suc zero) s c e = (refl, eqb-true (number (take f.width s)) f.absent e)
redundant-given f (suc (suc b)) s c e = absurd (omega arith)

given-redundant : (f : Field) (b : ℕ) (s : List ℕ) → b ≡ 1 → HoldsAbsent f s → redundant f b s ≡ true
unfolding value_of redundant
given-redundant f b s c h = rw (c, h) (eq-eqb f.absent f.absent refl)

some-given : (m : ℕ) (fs : List Field) (s : List ℕ) → some_redundant m fs s ≡ true → SomeGiven HoldsAbsent m fs s
some-given m [] s e = absurd (not_both false e refl)
some-given m (f ∷ fs) s e = go (or_true (redundant f (m % 2) s) (some_redundant (m / 2) fs (drop (taken f (m % 2)) s)) e) (some-given (m / 2) fs (drop (taken f (m % 2)) s))
  where
    go : (redundant f (m % 2) s ≡ true) ⊎ (some_redundant (m / 2) fs (drop (taken f (m % 2)) s) ≡ true)
        → (some_redundant (m / 2) fs (drop (taken f (m % 2)) s) ≡ true → SomeGiven HoldsAbsent (m / 2) fs (drop (taken f (m % 2)) s))
        → SomeGiven HoldsAbsent m (f ∷ fs) s
    go (inl r) rec = inl (redundant-given f (m % 2) s (omega arith) r)
    go (inr r) rec = inr (rec r)

given-some : (m : ℕ) (fs : List Field) (s : List ℕ) → SomeGiven HoldsAbsent m fs s → some_redundant m fs s ≡ true
given-some m [] s h = absurd h
given-some m (f ∷ fs) s (inl h) = true_or (redundant f (m % 2) s) (some_redundant (m / 2) fs (drop (taken f (m % 2)) s)) (inl (given-redundant f (m % 2) s h.0 h.1))
given-some m (f ∷ fs) s (inr h) = true_or (redundant f (m % 2) s) (some_redundant (m / 2) fs (drop (taken f (m % 2)) s)) (inr (given-some (m / 2) fs (drop (taken f (m % 2)) s) h))

-- 4: a field is given with the value that its absence means
pub field-redundant : (fs : List Field) (m : ℕ) (s : List ℕ) → (field_redundant fs (m ∷ s) ≡ true) ↔ SomeGiven HoldsAbsent m fs s
unfolding field_redundant
field-redundant fs m s = (some-given m fs s, given-some m fs s)
