-- A part as the code reads it, at places of the listing, against its definition on the bytes from there on. Assumes nothing.
use mathlib.Core.Path.{◌≡◌, refl, sym, ap, ◌∙◌}
use mathlib.Core.Bool.{Bool, false, ◌||◌, or-false, or_assoc}
use mathlib.Core.List.{List, [], ◌∷◌, ◌++◌, append-nil}
use Prim.Native.Nat.{ℕ, ◌+◌, ◌-◌, ◌*◌, ◌/◌, ◌%◌, ◌≤◌, ◌<◌}
use native.Mathlib.Numerals.{add-one}
use native.Mathlib.Omega.{arith}
use borrow.Author.Tests.{lt-ltb, ltb-true, le-leb, leb-true, leb-false, eq-eqb, eqb-true}
use lib.Dec.{leb, ltb}
use lib.ListN.{length, get_or, take, drop, set, length-drop, length-set, drop_of_length-le}
use lib.Seq.{drop-drop, get_or-drop, take-length, take-suc-set, append_snoc}
use Rattle.std.proofs.lemmas.List.{drop_more}
use Rattle.lists.proofs.Tests.{same_test}
use Rattle.answers.specs.Answers.{Answer, given}
use Rattle.answers.specs.Checks.{trying, answer}
use Rattle.codec.specs.declared.Field.{Field}
use Rattle.codec.specs.Part.{taken, value_of, size, rest, redundant, values, some_redundant, map_byte, map_missing, map_undefined, field_missing, field_redundant, field_values, after_part, part}
use Rattle.codec.specs.Layout.{Narrow}
use Rattle.codec.proofs.LayoutLaws.{no_field, field_at, narrow_at, size-next}
use Rattle.codec.proofs.PartRoundTrip.{taken-length}

-- ---- the fields one after the other

-- i fields are read: vs has their values, r tells whether one of them is redundant, and what is left gives what the whole gives
pub record Read (fs : List Field) (s : List ℕ) (at map : ℕ) (vs : List ℕ) (next : ℕ) (r : Bool) (m i : ℕ) : Type 0 where
  pub long : length vs ≡ length fs
  pub near : next ≤ at + 1 + 4 * i
  pub place : next + size m (drop i fs) ≡ at + 1 + size map fs
  pub some : r || some_redundant m (drop i fs) (drop next s) ≡ some_redundant map fs (drop (at + 1) s)
  pub left : take i vs ++ values m (drop i fs) (drop next s) ≡ values map fs (drop (at + 1) s)

module _ (fs : List Field) (s : List ℕ) (at map : ℕ) where
  pub read_none : (vs : List ℕ) → length vs ≡ length fs → Read fs s at map vs (at + 1) false map 0
  read_none vs e = record { long = e; near = omega arith; place = refl; some = refl; left = refl }

  module _ {vs : List ℕ} {next : ℕ} {b : Bool} {m i : ℕ} (r : Read fs s at map vs next b m i) where
    -- field i, of k bytes
    module _ (h : i < length fs) (k : ℕ) (size_is : k ≡ taken (field_at fs i) (m % 2)) where
      pub read-near : Narrow fs → next + k ≤ at + 1 + 4 * (i + 1)
      read-near q = omega (arith, r.near, taken-length (field_at fs i) (m % 2), narrow_at fs q i h)

      there : drop (taken (field_at fs i) (m % 2)) (drop next s) ≡ drop (next + k) s
      there = drop-drop (taken (field_at fs i) (m % 2)) next s ∙ ap (λ (n : ℕ). drop (next + n) s) (sym size_is)

      pub read_next : Narrow fs → (v : ℕ) → v ≡ value_of (field_at fs i) (m % 2) (drop next s)
          → (t : Bool) → t ≡ b || redundant (field_at fs i) (m % 2) (drop next s) → Read fs s at map (set vs i v) (next + k) t (m / 2) (i + 1)
      read_next q v value_is t e = record {
        long = length-set vs i v ∙ r.long;
        near = read-near q;
        place = omega (arith, r.place, size-next fs i m h);
        some =
            rw (e, or_assoc b (redundant (field_at fs i) (m % 2) (drop next s)) (some_redundant (m / 2) (drop (i + 1) fs) (drop (next + k) s)), sym there)
            (rw (drop_more fs i no_field h) at r.some);
        left =
            rw (add-one i, take-suc-set vs i v (omega (arith, r.long)), append_snoc, value_is, sym there)
            (rw (drop_more fs i no_field h, add-one i) at r.left);
      }

    module _ (all : i ≡ length fs) where
      none_left : drop i fs ≡ []
      none_left = drop_of_length-le fs {i = i} (omega arith)

      pub read-values : vs ≡ values map fs (drop (at + 1) s)
      read-values = let e : i ≡ length vs = omega (arith, r.long) in sym (rw e (take-length vs)) ∙ sym (append-nil (take i vs)) ∙ rw none_left at r.left

      pub read-next : next ≡ at + 1 + size map fs
      read-next = omega (arith, r.place, ap (size m) none_left)

      pub read-redundant : b ≡ some_redundant map fs (drop (at + 1) s)
      read-redundant = sym (or-false b) ∙ rw none_left at r.some

-- ---- the map, then the fields: the conditions of refusals 1 to 4 as the code tries them

-- 1
missing-is : (s : List ℕ) (at : ℕ) → map_missing (drop at s) ≡ leb (length s) at
unfolding map_missing
missing-is s at = same_test _ _ (λ e. le-leb _ _ (omega (arith, eqb-true _ _ e, length-drop at s))) (λ e. eq-eqb _ _ (omega (arith, leb-true _ _ e, length-drop at s)))

-- what a part comes to where its map is there
abbrev pub past_map : List Field → List ℕ → Answer (List ℕ × List ℕ)
past_map fs s = trying ((2, map_undefined fs s) ∷ (3, field_missing fs s) ∷ (4, field_redundant fs s) ∷ []) (given (field_values fs s, after_part fs s))

pub part-first : (fs : List Field) (s : List ℕ) (at : ℕ) → answer (part fs (drop at s)) ≡ trying ((1, leb (length s) at) ∷ []) (past_map fs (drop at s))
unfolding part
part-first fs s at = rw (missing-is s at) refl

-- the part at `at` of the bytes s has the map m; its fields take k bytes, and leave n of the map
pub record Mapped (s : List ℕ) (at : ℕ) (fs : List Field) (m k n : ℕ) : Type 0 where
  pub there : leb (length s) at ≡ false
  pub is : m ≡ get_or s at 0
  pub takes : k ≡ size m fs
  pub leaves : n ≡ rest m fs

module _ {s : List ℕ} {at : ℕ} {fs : List Field} {m k n : ℕ} (r : Mapped s at fs m k n) where
  byte : map_byte (drop at s) ≡ m
  byte = let z : at + 0 ≡ at = omega arith in get_or-drop at s 0 0 ∙ ap (λ (i : ℕ). get_or s i 0) z ∙ sym r.is

  -- 3
  short-is : ltb (length (drop at s)) (1 + k) ≡ ltb (length s - (at + 1)) k
  short-is =
      same_test _ _
      (λ e. lt-ltb _ _ (omega (arith, ltb-true _ _ e, length-drop at s, leb-false _ _ r.there)))
      (λ e. lt-ltb _ _ (omega (arith, ltb-true _ _ e, length-drop at s)))

  -- after 1: 2, 3 and 4, and then the values and the place after the part
  pub part-is : (y : Bool) (vs : List ℕ) (next : ℕ) → y ≡ some_redundant m fs (drop (at + 1) s) → vs ≡ values m fs (drop (at + 1) s) → next ≡ at + 1 + size m fs
      → answer (part fs (drop at s)) ≡ trying ((2, ltb 0 n) ∷ (3, ltb (length s - (at + 1)) k) ∷ (4, y) ∷ []) (given (vs, drop next s))
  unfolding part map_undefined field_missing field_redundant field_values after_part
  part-is y vs next e v i =
      rw (missing-is s at, r.there, byte, sym r.leaves, sym r.takes, short-is, drop-drop 1 at s, drop-drop k (at + 1) s, e, v, i, sym r.takes) refl
