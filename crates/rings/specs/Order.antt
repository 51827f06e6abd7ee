-- The order of links by first crossing (document 01, "Rules, packets, ring").
use Rattle.std.specs.Prelude.{true, false, List, [], ◌∷◌, ℕ, ◌-◌, ◌/◌, get_or}
use Rattle.lists.specs.Members.{memb}

-- the links that a list of labels crosses, each at its first crossing, without those seen before
abbrev pub firsts : List ℕ → List ℕ → List ℕ
firsts seen [] = []
firsts seen (a ∷ w) = elim (memb (a / 2) seen) [ true ↦ firsts seen w | false ↦ (a / 2) ∷ firsts ((a / 2) ∷ seen) w ]

-- the order of the links of a ring
unfoldable pub order : List ℕ → List ℕ
order r = firsts [] r

-- the m-th link of an order, from 1
abbrev pub nth : List ℕ → ℕ → ℕ
nth ls m = get_or ls (m - 1) 0
