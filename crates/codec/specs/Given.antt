-- The bits of a map, and the fields that are given: words in which the conditions of refusals 2 to 4 are said.
use Rattle.std.specs.Prelude.{◌≡◌, ◌⊎◌, List, [], ◌∷◌, ℕ, zero, suc, ◌/◌, ◌%◌, ◌<◌, length, take, drop}
use Rattle.codec.specs.declared.Field.{Field}
use Rattle.codec.specs.Field.{number}
use Rattle.codec.specs.Part.{taken}

-- bit i of a map
abbrev pub bit_at : ℕ → ℕ → ℕ
bit_at m zero = m % 2
bit_at m (suc i) = bit_at (m / 2) i

-- some field has its bit set in the map m, and P holds of it and the bytes from its place on; s are the bytes after the map
abbrev pub SomeGiven : (Field → List ℕ → Type 0) → ℕ → List Field → List ℕ → Type 0
SomeGiven P m [] s = ⊥
SomeGiven P m (f ∷ fs) s = ((m % 2 ≡ 1) × P f s) ⊎ SomeGiven P (m / 2) fs (drop (taken f (m % 2)) s)

-- the bytes end before its end
abbrev pub EndsBefore : Field → List ℕ → Type 0
EndsBefore f s = length s < f.width

-- its bytes hold the value that its absence means
abbrev pub HoldsAbsent : Field → List ℕ → Type 0
HoldsAbsent f s = number (take f.width s) ≡ f.absent
