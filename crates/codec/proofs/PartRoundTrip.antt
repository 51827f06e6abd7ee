-- A part that was written is read, and a part that was read is written again, for any list of fields. Assumes nothing.
use mathlib.Core.Path.{◌≡◌, refl, sym, ap, ap₂, ◌∙◌, subst}
use mathlib.Core.Logic.{◌⊎◌, inl, inr}
use mathlib.Core.Bool.{Bool, true, false, not, ◌&&◌}
use mathlib.Core.List.{List, [], ◌∷◌, ◌++◌, append_assoc}
use Prim.Native.Nat.{ℕ, zero, suc, ◌+◌, ◌*◌, ◌/◌, ◌%◌, ◌^◌, ◌≤◌, ◌<◌}
use native.Mathlib.Nat.{pow-suc, pow-le-pow_right}
use native.Mathlib.Omega.{arith}
use borrow.Author.Tests.{le-ltb, eq-eqb, ne_eqb, ltb-false, eqb-true, eqb-false}
use lib.Dec.{eqb}
use lib.ListN.{length, get_or, take, drop, length-append, length-drop, take-append-drop}
use lib.Seq.{drop-drop, take_at, drop_at, length-take-le}
use Rattle.lists.specs.Tests.{choose}
use Rattle.lists.proofs.Tests.{or_false}
use Rattle.lists.specs.Count.{bit}
use Rattle.lists.proofs.Count.{bit_le_one}
use Rattle.answers.specs.Answers.{given}
use Rattle.answers.specs.Checks.{NoneHolds, answer}
use Rattle.answers.proofs.Checks.{given-exactly}
use Rattle.codec.specs.declared.Field.{Field}
use Rattle.codec.specs.Field.{number, bytes_of, Bytes}
use Rattle.codec.specs.Part.{taken, size, rest, value_of, redundant, values, some_redundant, map_byte, map_missing, map_undefined, field_missing, field_redundant, field_values, after_part, part, is_given, field_bytes, map_of, body_of, part_bytes}
use Rattle.codec.proofs.FieldLaws.{length-bytes_of, bytes_of-bytes, number-bytes_of, bytes_of-number, number_fits}

-- what a field can hold: the value that its absence means, or a number of so many bytes
abbrev pub CanHold : Field → ℕ → Type 0
CanHold f v = (v ≡ f.absent) ⊎ (v < (2 ^ 8) ^ f.width)

-- a value for each field, which it can hold
abbrev pub Hold : List Field → List ℕ → Type 0
Hold [] [] = Unit
Hold [] (v ∷ vs) = ⊥
Hold (f ∷ fs) [] = ⊥
Hold (f ∷ fs) (v ∷ vs) = CanHold f v × Hold fs vs

-- at the place of each field
pub hold_at : (fs : List Field) (vs : List ℕ) → Hold fs vs → (i : ℕ) (none : Field) → i < length fs → CanHold (get_or fs i none) (get_or vs i 0)
hold_at [] vs h i none k = absurd (omega arith)
hold_at (f ∷ fs) [] h i none k = absurd h
hold_at (f ∷ fs) (v ∷ vs) h zero none k = h.0
hold_at (f ∷ fs) (v ∷ vs) h (suc i) none k = hold_at fs vs h.1 i none (omega arith)

-- where what its absence means fits its bytes, so does each value that it can hold
pub hold_fits : (f : Field) (v : ℕ) → f.absent < (2 ^ 8) ^ f.width → CanHold f v → v < (2 ^ 8) ^ f.width
hold_fits f v h (inl e) = rw e h
hold_fits f v h (inr k) = k

-- ---- a field that was written is read

taken-written : (f : Field) (v : ℕ) → taken f (is_given f v) ≡ length (field_bytes f v)
unfolding taken
taken-written f v = go (eqb v f.absent)
  where
    go : (b : Bool) → choose (eqb (bit (not b)) 0) 0 f.width ≡ length (choose b [] (bytes_of f.width v))
    go true = refl
    go false = sym (length-bytes_of f.width v)

value_written : (f : Field) (v : ℕ) (t : List ℕ) → CanHold f v → value_of f (is_given f v) (field_bytes f v ++ t) ≡ v
unfolding value_of
value_written f v t h = go (eqb v f.absent) refl h
  where
    go : (b : Bool) → eqb v f.absent ≡ b → CanHold f v → choose (eqb (bit (not b)) 0) f.absent (number (take f.width (choose b [] (bytes_of f.width v) ++ t))) ≡ v
    go true e k = sym (eqb-true v f.absent e)
    go false e (inl k) = absurd (eqb-false v f.absent e k)
    go false e (inr k) = ap number (take_at (bytes_of f.width v) t f.width (length-bytes_of f.width v)) ∙ number-bytes_of f.width v k

redundant-written : (f : Field) (v : ℕ) (t : List ℕ) → CanHold f v → redundant f (is_given f v) (field_bytes f v ++ t) ≡ false
unfolding redundant
redundant-written f v t h = rw (value_written f v t h) (go (eqb v f.absent))
  where
    go : (b : Bool) → not (eqb (bit (not b)) 0) && b ≡ false
    go true = refl
    go false = refl

-- ---- so is a part: its map and then its fields

-- a map of no bits
rest_zero : (fs : List Field) → rest 0 fs ≡ 0
rest_zero [] = refl
rest_zero (f ∷ fs) = rest_zero fs

size_zero : (fs : List Field) → size 0 fs ≡ 0
unfolding taken
size_zero [] = refl
size_zero (f ∷ fs) = omega (arith, size_zero fs)

module _ (f : Field) (v m : ℕ) where
  low_bit : (is_given f v + 2 * m) % 2 ≡ is_given f v
  low_bit = omega (arith, bit_le_one (not (eqb v f.absent)))

  high_bits : (is_given f v + 2 * m) / 2 ≡ m
  high_bits = omega (arith, bit_le_one (not (eqb v f.absent)))

-- each field takes its bit, and nothing is left of the map
map_defined : (fs : List Field) (vs : List ℕ) → rest (map_of fs vs) fs ≡ 0
map_defined [] vs = refl
map_defined (f ∷ fs) [] = rest_zero fs
map_defined (f ∷ fs) (v ∷ vs) = rw (high_bits f v (map_of fs vs)) (map_defined fs vs)

-- so it is a number of so many bits
pub map_below : (fs : List Field) (vs : List ℕ) → map_of fs vs < 2 ^ length fs
map_below [] vs = omega arith
map_below (f ∷ fs) [] = let e : 2 ^ suc (length fs) ≡ 2 ^ length fs * 2 = pow-suc 2 (length fs) in omega (arith, map_below fs [])
map_below (f ∷ fs) (v ∷ vs) =
    let e : 2 ^ suc (length fs) ≡ 2 ^ length fs * 2 = pow-suc 2 (length fs) in
    omega (arith, map_below fs vs, bit_le_one (not (eqb v f.absent)))

pub size-written : (fs : List Field) (vs : List ℕ) → size (map_of fs vs) fs ≡ length (body_of fs vs)
size-written [] vs = refl
size-written (f ∷ fs) [] = size_zero (f ∷ fs)
size-written (f ∷ fs) (v ∷ vs) =
    rw (low_bit f v (map_of fs vs), high_bits f v (map_of fs vs), taken-written f v, size-written fs vs) (sym (length-append (field_bytes f v) (body_of fs vs)))

-- the bytes after a field that was written
after-written : (f : Field) (v : ℕ) (s t : List ℕ) → drop (taken f (is_given f v)) (field_bytes f v ++ s ++ t) ≡ s ++ t
after-written f v s t = rw append_assoc (drop_at (field_bytes f v) (s ++ t) (taken f (is_given f v)) (sym (taken-written f v)))

values-written : (fs : List Field) (vs more : List ℕ) → Hold fs vs → values (map_of fs vs) fs (body_of fs vs ++ more) ≡ vs
values-written [] [] more h = refl
values-written [] (v ∷ vs) more h = absurd h
values-written (f ∷ fs) [] more h = absurd h
values-written (f ∷ fs) (v ∷ vs) more h =
    rw (
      low_bit f v (map_of fs vs),
      high_bits f v (map_of fs vs),
      after-written f v (body_of fs vs) more,
      append_assoc (field_bytes f v) (body_of fs vs) more,
      value_written f v (body_of fs vs ++ more) h.0,
      values-written fs vs more h.1,
    )

fresh-written : (fs : List Field) (vs more : List ℕ) → Hold fs vs → some_redundant (map_of fs vs) fs (body_of fs vs ++ more) ≡ false
fresh-written [] vs more h = refl
fresh-written (f ∷ fs) [] more h = absurd h
fresh-written (f ∷ fs) (v ∷ vs) more h =
    rw (
      low_bit f v (map_of fs vs),
      high_bits f v (map_of fs vs),
      after-written f v (body_of fs vs) more,
      append_assoc (field_bytes f v) (body_of fs vs) more,
      redundant-written f v (body_of fs vs ++ more) h.0,
    ) (fresh-written fs vs more h.1)

-- a part that was written is read: its values, and the bytes after it
pub part-written : (fs : List Field) (vs more : List ℕ) → Hold fs vs → answer (part fs (part_bytes fs vs ++ more)) ≡ given (vs, more)
unfolding part part_bytes map_missing map_undefined field_missing field_redundant field_values after_part
part-written fs vs more h =
    let long : length (body_of fs vs ++ more) ≡ length (body_of fs vs) + length more = length-append (body_of fs vs) more in
    rw (
      ne_eqb (suc (length (body_of fs vs ++ more))) 0 (λ e. omega arith),
      map_defined fs vs,
      size-written fs vs,
      le-ltb (suc (length (body_of fs vs ++ more))) (1 + length (body_of fs vs)) (omega arith),
      fresh-written fs vs more h,
      values-written fs vs more h,
      drop_at (body_of fs vs) more (length (body_of fs vs)) refl,
    )

-- ---- a field that was read is written

pub bytes_take : (n : ℕ) (s : List ℕ) → Bytes s → Bytes (take n s)
bytes_take zero s h = tt
bytes_take (suc n) [] h = tt
bytes_take (suc n) (b ∷ s) h = (h.0, bytes_take n s h.1)

pub bytes_drop : (n : ℕ) (s : List ℕ) → Bytes s → Bytes (drop n s)
bytes_drop zero s h = h
bytes_drop (suc n) [] h = tt
bytes_drop (suc n) (b ∷ s) h = bytes_drop n s h.1

-- of a field that is read from the bytes t by its bit b: it is given again by the same bit and in the same bytes
record ReadAs (f : Field) (b : ℕ) (t : List ℕ) : Type 0 where
  same_bit : is_given f (value_of f b t) ≡ b
  same_bytes : field_bytes f (value_of f b t) ++ drop (taken f b) t ≡ t
  holds : CanHold f (value_of f b t)

read_absent : (f : Field) (t : List ℕ) → ReadAs f 0 t
unfolding value_of taken
read_absent f t =
    let e : eqb f.absent f.absent ≡ true = eq-eqb f.absent f.absent refl in
    record { same_bit = rw e refl; same_bytes = rw e refl; holds = inl refl }

read_present : (f : Field) (t : List ℕ) → Bytes t → taken f 1 ≤ length t → redundant f 1 t ≡ false → ReadAs f 1 t
unfolding value_of taken redundant
read_present f t h k r =
    let long : length (take f.width t) ≡ f.width = length-take-le f.width t k in
    let bs : Bytes (take f.width t) = bytes_take f.width t h in
    let e : bytes_of f.width (number (take f.width t)) ≡ take f.width t = rw long at (bytes_of-number (take f.width t) bs) in
    record {
      same_bit = rw r refl;
      same_bytes = rw (r, e) (take-append-drop f.width t);
      holds = inr (rw long at (number_fits (take f.width t) bs));
    }

read_as : (f : Field) (b : ℕ) (t : List ℕ) → b < 2 → Bytes t → taken f b ≤ length t → redundant f b t ≡ false → ReadAs f b t
read_as f zero t c h k r = read_absent f t
read_as f (suc zero) t c h k r = read_present f t h k r
read_as f (suc (suc b)) t c h k r = absurd (omega arith)

-- ---- so is a part

record Same (fs : List Field) (m : ℕ) (t : List ℕ) : Type 0 where
  same_map : map_of fs (values m fs t) ≡ m
  same_body : body_of fs (values m fs t) ++ drop (size m fs) t ≡ t
  hold : Hold fs (values m fs t)

-- one field before those that are the same
same_more : (f : Field) (fs : List Field) (m : ℕ) (t : List ℕ) → ReadAs f (m % 2) t → Same fs (m / 2) (drop (taken f (m % 2)) t) → Same (f ∷ fs) m t
same_more f fs m t one more = record {
  same_map = omega (arith, one.same_bit, more.same_map);
  same_body =
      append_assoc (field_bytes f v) (body_of fs vs) (drop (taken f (m % 2) + size (m / 2) fs) t)
      ∙ ap (λ (u : List ℕ). field_bytes f v ++ (body_of fs vs ++ u)) (sym (drop-drop (size (m / 2) fs) (taken f (m % 2)) t))
      ∙ ap (λ (u : List ℕ). field_bytes f v ++ u) more.same_body
      ∙ one.same_bytes;
  hold = (one.holds, more.hold);
}
  where
    v : ℕ
    v = value_of f (m % 2) t

    vs : List ℕ
    vs = values (m / 2) fs (drop (taken f (m % 2)) t)

same : (fs : List Field) (m : ℕ) (t : List ℕ) → rest m fs ≡ 0 → Bytes t → size m fs ≤ length t → some_redundant m fs t ≡ false → Same fs m t
same [] m t d h k r = record { same_map = sym d; same_body = refl; hold = tt }
same (f ∷ fs) m t d h k r =
    let q = or_false (redundant f (m % 2) t) (some_redundant (m / 2) fs (drop (taken f (m % 2)) t)) r in
    same_more f fs m t
    (read_as f (m % 2) t (omega arith) h (omega arith) q.0)
    (same fs (m / 2) (drop (taken f (m % 2)) t) d (bytes_drop (taken f (m % 2)) t h) (rw length-drop (omega arith)) q.1)

-- s is a part with these values, and then the bytes `after`
pub record Whole (fs : List Field) (s vs after : List ℕ) : Type 0 where
  pub again : part_bytes fs vs ++ after ≡ s
  pub hold : Hold fs vs
  pub bytes_after : Bytes after

-- a part of which no condition holds is written again as it stands
pub part_again : (fs : List Field) (s : List ℕ) → Bytes s → NoneHolds (part fs s).checks → Whole fs s (field_values fs s) (after_part fs s)
unfolding part map_missing map_undefined field_missing field_redundant field_values after_part part_bytes
part_again fs [] h c = absurd (eqb-false 0 0 c.0 refl)
part_again fs (m ∷ t) h c =
    let r = same fs m t (omega (arith, ltb-false 0 (rest m fs) c.1.0)) h.1 (omega (arith, ltb-false (suc (length t)) (1 + size m fs) c.1.1.0)) c.1.1.1.0 in
    record { again = ap₂ (λ (x : ℕ) (xs : List ℕ). x ∷ xs) r.same_map r.same_body; hold = r.hold; bytes_after = bytes_drop (size m fs) t h.1 }

-- so is a part that was read
pub part-read : (fs : List Field) (s vs after : List ℕ) → Bytes s → answer (part fs s) ≡ given (vs, after) → Whole fs s vs after
unfolding part
part-read fs s vs after h e =
    let r = (given-exactly {A = List ℕ × List ℕ} (part fs s).checks (part fs s).result (vs, after)).0 e in
    subst (λ (q : List ℕ × List ℕ). Whole fs s q.0 q.1) r.1 (part_again fs s h r.0)

-- ---- what is written is bytes

pub bytes-append : (s t : List ℕ) → Bytes s → Bytes t → Bytes (s ++ t)
bytes-append [] t h k = k
bytes-append (b ∷ s) t h k = (h.0, bytes-append s t h.1 k)

body_bytes : (fs : List Field) (vs : List ℕ) → Bytes (body_of fs vs)
body_bytes [] vs = tt
body_bytes (f ∷ fs) [] = tt
body_bytes (f ∷ fs) (v ∷ vs) = bytes-append (field_bytes f v) (body_of fs vs) (one (eqb v f.absent)) (body_bytes fs vs)
  where
    one : (b : Bool) → Bytes (choose b [] (bytes_of f.width v))
    one true = tt
    one false = bytes_of-bytes f.width v

-- a map byte has room for eight fields
pub part_bytes_lem : (fs : List Field) (vs : List ℕ) → length fs ≤ 8 → Bytes (part_bytes fs vs)
unfolding part_bytes
part_bytes_lem fs vs h = (omega (arith, map_below fs vs, pow-le-pow_right {n = 2} (omega arith) {i = length fs} {j = 8} h), body_bytes fs vs)

-- ---- how long a part is

-- the bytes of all these fields
abbrev pub widths : List Field → ℕ
widths [] = 0
widths (f ∷ fs) = f.width + widths fs

pub taken-length : (f : Field) (b : ℕ) → taken f b ≤ f.width
unfolding taken
taken-length f b = go (eqb b 0)
  where
    go : (c : Bool) → choose c 0 f.width ≤ f.width
    go true = omega arith
    go false = omega arith

pub size-length : (fs : List Field) (m : ℕ) → size m fs ≤ widths fs
size-length [] m = omega arith
size-length (f ∷ fs) m = omega (arith, taken-length f (m % 2), size-length fs (m / 2))

-- a part that was read, and the bytes after it
pub read_length : (fs : List Field) (s : List ℕ) → length s ≤ 1 + widths fs + length (after_part fs s)
unfolding after_part
read_length fs s = rw (length-drop, length-drop) (omega (arith, size-length fs (map_byte s)))
