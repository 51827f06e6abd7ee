-- The labels of a probe (document 01, "Rules, packets, ring").
use Rattle.std.specs.Prelude.{List, [], ◌∷◌, ◌++◌, ℕ, ◌/◌, eqb}
use Rattle.lists.specs.Tests.{choose}
use Rattle.walks.specs.Arcs.{opposite}
use Rattle.rings.specs.Order.{order, nth}

-- the labels up to the first crossing of link l, with it
abbrev pub up_to : ℕ → List ℕ → List ℕ
up_to l [] = []
up_to l (a ∷ w) = a ∷ choose (eqb (a / 2) l) [] (up_to l w)

-- the way back: the opposite arcs, from the last
abbrev pub back : List ℕ → List ℕ
back [] = []
back (a ∷ w) = back w ++ (opposite a ∷ [])

-- the outward labels of probe m in a ring: up to the first crossing of the m-th link of the order
unfoldable pub outward : ℕ → List ℕ → List ℕ
outward m r = up_to (nth (order r) m) r

-- the labels of probe m in a ring over e links: out and back; for m = e, the full check, the whole ring
unfoldable pub probe : ℕ → ℕ → List ℕ → List ℕ
probe e m r = choose (eqb m e) r (outward m r ++ back (outward m r))
