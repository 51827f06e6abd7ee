-- The fields of a part from field i on, and the loops that only measure: what is left gives what the whole gives. Assumes nothing.
use mathlib.Core.Path.{◌≡◌, refl}
use mathlib.Core.List.{List, [], ◌∷◌}
use Prim.Native.Nat.{ℕ, zero, suc, ◌+◌, ◌-◌, ◌*◌, ◌/◌, ◌%◌, ◌^◌, ◌≤◌, ◌<◌}
use native.Mathlib.Nat.{pow-le-pow_right}
use native.Mathlib.Omega.{arith}
use borrow.Author.Tests.{leb-true}
use lib.Dec.{leb}
use lib.ListN.{length, get_or, drop, length-drop, drop_of_length-le}
use Rattle.std.proofs.lemmas.List.{drop_more, at_drop_more}
use Rattle.lists.proofs.Tests.{and_true}
use Rattle.lists.specs.Members.{all}
use Rattle.codec.specs.declared.Field.{Field}
use Rattle.codec.specs.Part.{taken, size, is_given, map_of}
use Rattle.codec.specs.Layout.{Narrow}
use Rattle.codec.proofs.PartRoundTrip.{map_below}

abbrev pub no_field : Field
no_field = record { width = 0; absent = 0 }

-- the field in place i
abbrev pub field_at : List Field → ℕ → Field
field_at fs i = get_or fs i no_field

pub narrow_at : (fs : List Field) → Narrow fs → (i : ℕ) → i < length fs → (field_at fs i).width ≤ 4
narrow_at [] q i h = absurd (omega arith)
narrow_at (f ∷ fs) q zero h = leb-true f.width 4 (and_true (leb f.width 4) (all (λ f. leb f.width 4) fs) q).0
narrow_at (f ∷ fs) q (suc i) h = narrow_at fs (and_true (leb f.width 4) (all (λ f. leb f.width 4) fs) q).1 i (omega arith)

module _ (fs : List Field) (i m : ℕ) (h : i < length fs) where
  -- the bytes that the fields take
  pub size-next : size m (drop i fs) ≡ taken (field_at fs i) (m % 2) + size (m / 2) (drop (i + 1) fs)
  size-next = at_drop_more (size m) fs i no_field h

-- ---- the map, from the high bit down: m is the map of the fields from i on, for a part with the values vs

abbrev pub MapFrom : List Field → List ℕ → ℕ → ℕ → Type 0
MapFrom fs vs i m = m ≡ map_of (drop i fs) (drop i vs)

pub map_end : (fs : List Field) (vs : List ℕ) (i : ℕ) → length fs ≤ i → MapFrom fs vs i 0
map_end fs vs i h = rw (drop_of_length-le fs {i = i} h) refl

module _ (fs : List Field) (vs : List ℕ) (i m : ℕ) (r : MapFrom fs vs i m) (some : 0 < i) where
  -- before the last of at most eight bits there is room for one more in a byte
  pub map-room : length fs ≤ 8 → m < 2 ^ 7
  map-room few =
      omega (
        arith,
        r,
        map_below (drop i fs) (drop i vs),
        pow-le-pow_right {n = 2} (omega arith) {i = length (drop i fs)} {j = 7} (simp length-drop (omega arith)),
      )

  pub map_next : (b : ℕ) → i ≤ length fs → i ≤ length vs → b ≡ is_given (field_at fs (i - 1)) (get_or vs (i - 1) 0) → MapFrom fs vs (i - 1) (m * 2 + b)
  map_next b h k e =
      let n : i - 1 + 1 ≡ i = omega arith in
      let j : m * 2 + b ≡ b + 2 * m = omega arith in
      rw (drop_more fs (i - 1) no_field (omega arith), drop_more vs (i - 1) 0 (omega arith), n, j, e, r) refl
