-- What a list of labels leaves in a buffer, and whether a lent list of labels begins with it.
use Rattle.std.specs.Prelude.{◌≡◌, Bool, true, false, ◌&&◌, List, [], ◌∷◌, ◌++◌, ℕ, eqb, length, drop, Option, Some, None}

-- the trail w at the front of the buffer b, whose places after it keep their contents
abbrev pub filled_with : List ℕ → List ℕ → List ℕ
filled_with w b = w ++ drop (length w) b

-- does the list l begin with the list w?
unfoldable pub begins_with : List ℕ → List ℕ → Bool
begins_with l [] = true
begins_with [] (a ∷ w) = false
begins_with (x ∷ l) (a ∷ w) = eqb x a && begins_with l w

-- what is told of it: that it does, and how many labels these are, or that it does not
abbrev pub Tells : List ℕ → List ℕ → Option ℕ → Type 0
Tells l w (Some n) = (begins_with l w ≡ true) × (n ≡ length w)
Tells l w None = begins_with l w ≡ false
