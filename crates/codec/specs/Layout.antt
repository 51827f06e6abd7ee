-- Inner: what holds of the fields of a part, and what a part that was read stands for.
use Rattle.std.specs.Prelude.{◌≡◌, true, List, ℕ, leb, drop}
use Rattle.lists.specs.Members.{all}
use Rattle.codec.specs.declared.Field.{Field}
use Rattle.codec.specs.declared.Part.{Part}

-- a number of 32 bits has room for the bytes of each field
abbrev pub Narrow : List Field → Type 0
Narrow fs = all (λ f. leb f.width 4) fs ≡ true

-- the values of a part that was read from the bytes s, and the bytes after it
abbrev pub part_of : {N : ℕ} → List ℕ → Part N → List ℕ × List ℕ
part_of s p = (p.values, drop p.next s)
