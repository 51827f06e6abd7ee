-- What a call leaves of the known bytes of a writer and of a reader, also after an error. Assumes nothing.
use Rattle.std.specs.Prelude.{◌≡◌, ℕ, ◌≤◌, List, Option, length, take}
use Rattle.std.specs.Io.KnownBytes.{Appends, Consumes}

-- the first n of xs are as many as n
abbrev pub IsPrefixLen : ℕ → List ℕ → Type 0
IsPrefixLen n xs = (n ≤ length xs) × (n ≡ length (take n xs))

-- known bytes grow by a front of bs
abbrev pub AppendsFront : Option (List ℕ) → Option (List ℕ) → List ℕ → Type 0
AppendsFront old new bs = (n : ℕ) × (n ≤ length bs) × Appends old new (take n bs)

-- known bytes stay, and others may follow them
unfoldable pub Grows : Option (List ℕ) → Option (List ℕ) → Type 0
Grows old new = (more : List ℕ) × Appends old new more

-- known bytes lose some at their front, which stand at the front of bs
abbrev pub ConsumesFront : Option (List ℕ) → Option (List ℕ) → List ℕ → Type 0
ConsumesFront old new bs = (n : ℕ) × (n ≤ length bs) × Consumes old new (take n bs)

-- known bytes lose some at their front, and the others stay
unfoldable pub Shrinks : Option (List ℕ) → Option (List ℕ) → Type 0
Shrinks old new = (gone : List ℕ) × Consumes old new gone
