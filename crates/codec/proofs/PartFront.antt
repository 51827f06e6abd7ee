-- The front of a part decides: where the front has as many bytes as the part can take, what follows it changes nothing in the part. Assumes nothing.
use mathlib.Core.Path.{◌≡◌, refl}
use mathlib.Core.List.{List, [], ◌∷◌}
use Prim.Native.Nat.{ℕ, zero, suc, ◌+◌, ◌-◌, ◌/◌, ◌%◌, ◌≤◌}
use native.Mathlib.Omega.{arith}
use borrow.Author.Tests.{lt-ltb, ltb-true}
use lib.Dec.{ltb, eqb-suc-zero}
use lib.ListN.{length, take, drop, length-take}
use lib.Seq.{take-take, get_or-take}
use Rattle.lists.proofs.Tests.{same_test}
use Rattle.lists.proofs.Parts.{drop-take}
use Rattle.codec.specs.declared.Field.{Field}
use Rattle.codec.specs.Part.{taken, value_of, redundant, size, values, some_redundant, map_byte, map_missing, map_undefined, field_missing, field_redundant, field_values, after_part, part}
use Rattle.codec.proofs.PartRoundTrip.{widths, taken-length, size-length}

-- u is a front of s: at least n bytes of it, or all of it
abbrev pub Front : ℕ → List ℕ → List ℕ → Type 0
Front n u s = (m : ℕ) × (n ≤ m) × (u ≡ take m s)

-- ---- tests of the length of a front, and what follows its first k bytes

map_missing-front : (m : ℕ) (s : List ℕ) → 1 ≤ m → map_missing (take m s) ≡ map_missing s
unfolding map_missing
map_missing-front zero s h = absurd (omega arith)
map_missing-front (suc m) [] h = refl
map_missing-front (suc m) (b ∷ s) h = rw (eqb-suc-zero (length (take m s)), eqb-suc-zero (length s))

shorter_front : (k m : ℕ) (s : List ℕ) → k ≤ m → ltb (length (take m s)) k ≡ ltb (length s) k
shorter_front k m s h =
    same_test (ltb (length (take m s)) k) (ltb (length s) k)
    (λ e. lt-ltb (length s) k (omega (arith, ltb-true (length (take m s)) k e, length-take m s)))
    (λ e. lt-ltb (length (take m s)) k (omega (arith, ltb-true (length s) k e, length-take m s)))

-- ---- a part is read alike, and the front goes on after it

value-front : (f : Field) (b m : ℕ) (s : List ℕ) → f.width ≤ m → value_of f b (take m s) ≡ value_of f b s
unfolding value_of
value-front f b m s h = rw (take-take f.width m s h)

record SameFields (map : ℕ) (fs : List Field) (u s : List ℕ) : Type 0 where
  same_values : values map fs u ≡ values map fs s
  same_redundant : some_redundant map fs u ≡ some_redundant map fs s

fields-front : (map : ℕ) (fs : List Field) (m : ℕ) (s : List ℕ) → widths fs ≤ m → SameFields map fs (take m s) s
unfolding redundant
fields-front map [] m s h = record { same_values = refl; same_redundant = refl }
fields-front map (f ∷ fs) m s h =
    let k = taken f (map % 2) in
    let e : value_of f (map % 2) (take m s) ≡ value_of f (map % 2) s = value-front f (map % 2) m s (omega arith) in
    let r = fields-front (map / 2) fs (m - k) (drop k s) (omega (arith, taken-length f (map % 2))) in
    record {
      same_values = rw (e, drop-take k m s, r.same_values);
      same_redundant = rw (e, drop-take k m s, r.same_redundant);
    }

pub record SamePart (fs : List Field) (n : ℕ) (u s : List ℕ) : Type 0 where
  pub same_checks : (part fs u).checks ≡ (part fs s).checks
  pub same_values : (part fs u).result.0 ≡ (part fs s).result.0
  pub front_after : Front n (part fs u).result.1 (part fs s).result.1

pub part-front : (fs : List Field) (n : ℕ) (u s : List ℕ) → Front (1 + widths fs + n) u s → SamePart fs n u s
unfolding part map_undefined field_missing field_redundant field_values after_part
part-front fs n u s f =
    let m = f.0 in
    let h : 1 + widths fs + n ≤ m = f.1 in
    let k = size (map_byte s) fs in
    let j : k ≤ widths fs = size-length fs (map_byte s) in
    let e : map_byte (take m s) ≡ map_byte s = get_or-take m s 0 0 (omega arith) in
    let r = fields-front (map_byte s) fs (m - 1) (drop 1 s) (omega arith) in
    rw f.2 (record {
      same_checks = rw (map_missing-front m s (omega arith), e, shorter_front (1 + k) m s (omega arith), drop-take 1 m s, r.same_redundant);
      same_values = rw (e, drop-take 1 m s, r.same_values);
      front_after = (m - 1 - k, omega arith, rw (e, drop-take 1 m s) (drop-take k (m - 1) (drop 1 s)));
    })
