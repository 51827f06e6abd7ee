-- The depth-first visit over a list of arcs, as a function with fuel. The laws are in proofs/.
use Rattle.std.specs.Prelude.{Bool, true, false, not, ◌&&◌, List, [], ◌∷◌, ℕ, zero, suc, eqb, length}
use Rattle.lists.specs.Members.{memb}

-- the switches visited so far, the last one first, and the arcs entered so far, the last one first
pub record St : Type 0 where
  pub ord : List ℕ
  pub ent : List ℕ

module _ (tl hd : ℕ → ℕ) where
  -- arc a is entered, and its head is visited
  abbrev pub push : ℕ → St → St
  push a s = record { ord = hd a ∷ s.ord; ent = a ∷ s.ent }

  -- arc a leaves v, and its head has not been visited
  abbrev pub fresh : ℕ → ℕ → St → Bool
  fresh v a s = eqb (tl a) v && not (memb (hd a) s.ord)

  -- the arcs of the list are tried in turn; `enter w s` visits from w on
  unfoldable pub scan : (ℕ → St → St) → ℕ → List ℕ → St → St
  scan enter v [] s = s
  scan enter v (a ∷ bs) s = scan enter v bs (elim (fresh v a s) [ true ↦ enter (hd a) (push a s) | false ↦ s ])

  module _ (arcs : List ℕ) where
    unfoldable pub visit : ℕ → ℕ → St → St
    visit zero v s = s
    visit (suc f) v s = scan (λ w t. visit f w t) v arcs s

-- ---- rank: the number of a switch in the order of the visit, from 0 (the list has the last one first)

abbrev pub rank : ℕ → List ℕ → ℕ
rank x [] = 0
rank x (y ∷ l) = elim (eqb x y) [ true ↦ length l | false ↦ rank x l ]
