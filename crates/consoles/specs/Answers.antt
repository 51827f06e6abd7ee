-- What the code reads off a listing, as calls go by it. Contracts go by it, and no promise needs it. Assumes nothing.
use Rattle.std.specs.Prelude.{ℕ}
use Rattle.desk.specs.declared.Size.{Size}

-- S and E
abbrev pub sized : Size → ℕ × ℕ
sized z = (z.switches, z.links)
