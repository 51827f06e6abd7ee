-- The way back over labels, one after the other. Assumes nothing.
use mathlib.Core.Path.{◌≡◌, refl, ◌∙◌}
use mathlib.Core.List.{List, [], ◌∷◌}
use native.Mathlib.Omega.{arith}
use Prim.Native.Nat.{ℕ}
use lib.ListN.{length, length-append}
use Rattle.walks.specs.Arcs.{opposite}
use Rattle.rings.specs.Probe.{back}

pub back-length : (w : List ℕ) → length (back w) ≡ length w
back-length [] = refl
back-length (a ∷ w) = length-append (back w) (opposite a ∷ []) ∙ omega (arith, back-length w)
