-- A part of a listing (document 01, "Listing bytes"): a map byte, then the fields whose bit is set, by rising bit. Reading it, with
-- refusals 1 to 4, and writing it.
use Rattle.std.specs.Prelude.{Bool, false, not, ◌&&◌, ◌||◌, List, [], ◌∷◌, ◌++◌, ℕ, ◌+◌, ◌*◌, ◌/◌, ◌%◌, eqb, ltb, length, get_or, take, drop}
use Rattle.lists.specs.Tests.{choose}
use Rattle.lists.specs.Count.{bit}
use Rattle.answers.specs.Checks.{Checked, check}
use Rattle.codec.specs.declared.Field.{Field}
use Rattle.codec.specs.Field.{number, bytes_of}

-- ---- reading: m is what is left of the map, its lowest bit that of the first field; s are the bytes from there on

-- the bytes that a field takes, by its bit
unfoldable pub taken : Field → ℕ → ℕ
taken f b = choose (eqb b 0) 0 f.width

-- the value of a field, by its bit: the number in its bytes, or what its absence means
unfoldable pub value_of : Field → ℕ → List ℕ → ℕ
value_of f b s = choose (eqb b 0) f.absent (number (take f.width s))

-- by its bit, the field is given, and with the value that its absence means
unfoldable pub redundant : Field → ℕ → List ℕ → Bool
redundant f b s = not (eqb b 0) && eqb (value_of f b s) f.absent

abbrev pub size : ℕ → List Field → ℕ
size m [] = 0
size m (f ∷ fs) = taken f (m % 2) + size (m / 2) fs

-- what is left of the map once each field has taken its bit: the bits that no field has
abbrev pub rest : ℕ → List Field → ℕ
rest m [] = m
rest m (f ∷ fs) = rest (m / 2) fs

abbrev pub values : ℕ → List Field → List ℕ → List ℕ
values m [] s = []
values m (f ∷ fs) s = value_of f (m % 2) s ∷ values (m / 2) fs (drop (taken f (m % 2)) s)

abbrev pub some_redundant : ℕ → List Field → List ℕ → Bool
some_redundant m [] s = false
some_redundant m (f ∷ fs) s = redundant f (m % 2) s || some_redundant (m / 2) fs (drop (taken f (m % 2)) s)

-- ---- the conditions of refusals 1 to 4, for a part with these fields where s are the bytes from its map on

abbrev pub map_byte : List ℕ → ℕ
map_byte s = get_or s 0 0

-- 1: the map byte is missing
unfoldable pub map_missing : List ℕ → Bool
map_missing s = eqb (length s) 0

module _ (fs : List Field) (s : List ℕ) where
  -- 2: the map has an undefined bit
  unfoldable pub map_undefined : Bool
  map_undefined = ltb 0 (rest (map_byte s) fs)

  -- 3: the bytes end before a field whose bit is set
  unfoldable pub field_missing : Bool
  field_missing = ltb (length s) (1 + size (map_byte s) fs)

  -- 4: a field is given with the value that its absence means
  unfoldable pub field_redundant : Bool
  field_redundant = some_redundant (map_byte s) fs (drop 1 s)

  -- the values of the fields, and the bytes after the part
  unfoldable pub field_values : List ℕ
  field_values = values (map_byte s) fs (drop 1 s)

  unfoldable pub after_part : List ℕ
  after_part = drop (size (map_byte s) fs) (drop 1 s)

  -- a part: its map is judged before its fields
  unfoldable pub part : Checked (List ℕ × List ℕ)
  part = check ((1, map_missing s) ∷ (2, map_undefined) ∷ (3, field_missing) ∷ (4, field_redundant) ∷ []) (field_values, after_part)

-- ---- writing: a field is given exactly if its value is not what its absence means

abbrev pub is_given : Field → ℕ → ℕ
is_given f v = bit (not (eqb v f.absent))

abbrev pub field_bytes : Field → ℕ → List ℕ
field_bytes f v = choose (eqb v f.absent) [] (bytes_of f.width v)

abbrev pub map_of : List Field → List ℕ → ℕ
map_of [] vs = 0
map_of (f ∷ fs) [] = 0
map_of (f ∷ fs) (v ∷ vs) = is_given f v + 2 * map_of fs vs

abbrev pub body_of : List Field → List ℕ → List ℕ
body_of [] vs = []
body_of (f ∷ fs) [] = []
body_of (f ∷ fs) (v ∷ vs) = field_bytes f v ++ body_of fs vs

unfoldable pub part_bytes : List Field → List ℕ → List ℕ
part_bytes fs vs = map_of fs vs ∷ body_of fs vs
