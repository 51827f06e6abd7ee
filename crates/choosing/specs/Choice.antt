-- The choice of document 02's order 6: "whichever of the two lent trails has fewer hops, document 01's if equal".
use Rattle.std.specs.Prelude.{List, ℕ, ltb, length, take, drop}
use Rattle.lists.specs.Tests.{choose}
use Rattle.choosing.specs.declared.Choice.{Choice}
use Rattle.choosing.specs.declared.Choice.TheVariants.{Trail, Round}

-- of two trails: the first, unless the second has fewer hops
abbrev pub shorter_of : List ℕ → List ℕ → List ℕ
shorter_of w v = choose (ltb (length v) (length w)) v w

-- by their hops, n from place i on and m from place j on: which one, where it begins, and how many hops
unfoldable pub choice_of : ℕ → ℕ → ℕ → ℕ → Choice
choice_of i n j m = choose (ltb m n) (Round j m) (Trail i n)

-- so many hops from place k on of the lent trail w, or of the lent round trail v: as much as is there
abbrev pub hops_in : List ℕ → List ℕ → Choice → List ℕ
hops_in w v (Trail k n) = take n (drop k w)
hops_in w v (Round k n) = take n (drop k v)
