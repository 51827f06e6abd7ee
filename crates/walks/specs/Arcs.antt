-- The arcs of a plant by their labels (document 01, "Plant and limits"): tail, head, the opposite arc, and the labels of a list of links.
use Rattle.std.specs.Prelude.{◌≡◌, List, [], ◌∷◌, ℕ, ◌+◌, ◌-◌, ◌*◌, ◌/◌, ◌%◌, ◌<◌, T}
use Rattle.plant.specs.declared.Plant.{Plant}
use Rattle.plant.specs.Links.{side, first, second, live}

-- the label of the arc that crosses the same link the other way
unfoldable pub opposite : ℕ → ℕ
opposite a = a + 1 - 2 * (a % 2)

-- the labels of the links of a list, two to each
abbrev pub labels : List ℕ → List ℕ
labels [] = []
labels (l ∷ ls) = (2 * l) ∷ (2 * l + 1) ∷ labels ls

module _ (p : Plant) where
  -- label 2 l crosses link l from its first end to its second, and label 2 l + 1 crosses it back
  unfoldable pub tail : ℕ → ℕ
  tail a = side (a % 2) (first p (a / 2)) (second p (a / 2))

  unfoldable pub head : ℕ → ℕ
  head a = side (a % 2) (second p (a / 2)) (first p (a / 2))

  -- a is the label of an arc: its link is in service
  abbrev pub Arc : ℕ → Type 0
  Arc a = T (live p (a / 2))

  -- an arc that does not cross link l
  abbrev pub Avoid : ℕ → ℕ → Type 0
  Avoid l a = Arc a × (a / 2 ≡ l → ⊥)

  -- what the theory asks of a plant
  pub record Valid : Type 0 where
    pub first_in_is : (l : ℕ) → T (live p l) → first p l < p.switches
    pub second_in : (l : ℕ) → T (live p l) → second p l < p.switches
    pub apart : (l : ℕ) → T (live p l) → first p l ≡ second p l → ⊥
