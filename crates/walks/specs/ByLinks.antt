-- The visit in the words of document 01: at each switch the links are tried by rising number, and a link to an unvisited switch is entered
-- before the next is tried. That it is the visit over the arcs by rising label is shown in proofs/.
use Rattle.std.specs.Prelude.{true, false, not, ◌&&◌, List, [], ◌∷◌, ℕ, zero, suc, ◌+◌, ◌*◌, eqb}
use Rattle.lists.specs.Members.{memb}
use Rattle.plant.specs.declared.Plant.{Plant}
use Rattle.plant.specs.Links.{first, second}
use Rattle.walks.specs.Visit.{St}

-- at v the arc a from x to y is tried: if it leaves v, and y is unvisited, it is entered, and `en` visits from y on
abbrev pub try : (ℕ → St → St) → ℕ → ℕ → ℕ → ℕ → St → St
try en v a x y s =
    elim (eqb x v && not (memb y s.ord)) as (λ _. St) [ true ↦ en y (record { ord = y ∷ s.ord; ent = a ∷ s.ent }) | false ↦ s ]

-- at v the link between x and y is tried, of which a leads from x to y and b back
abbrev pub try_link : (ℕ → St → St) → ℕ → ℕ → ℕ → ℕ → ℕ → St → St
try_link en v a b x y s =
    elim (eqb x v && not (memb y s.ord)) as (λ _. St) [
      | true ↦ en y (record { ord = y ∷ s.ord; ent = a ∷ s.ent })
      | false ↦ try en v b y x s
    ]

module _ (p : Plant) where
  -- at v the links of the list are tried in turn
  unfoldable pub scan_links : (ℕ → St → St) → ℕ → List ℕ → St → St
  scan_links en v [] s = s
  scan_links en v (l ∷ ls) s = scan_links en v ls (try_link en v (2 * l) (2 * l + 1) (first p l) (second p l) s)

  -- and so at each switch
  unfoldable pub visit_links : List ℕ → ℕ → ℕ → St → St
  visit_links ls zero v s = s
  visit_links ls (suc f) v s = scan_links (λ w t. visit_links ls f w t) v ls s
