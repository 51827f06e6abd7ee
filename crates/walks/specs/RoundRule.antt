-- Document 02's rule for the round trail (order 6), as a relation on lists of labels: what it is, and not how it is made. What tries the
-- links in another order, or goes back before the far side is finished, is not of it. Assumes nothing.
use Rattle.std.specs.Prelude.{◌≡◌, List, [], ◌∷◌, ◌++◌, ℕ, suc, ◌/◌, ◌≤◌, ◌<◌}
use Rattle.lists.specs.Members.{In}
use Rattle.plant.specs.declared.Plant.{Plant}
use Rattle.walks.specs.Arcs.{opposite, tail, head, Arc}
use Rattle.walks.specs.Graph.{Crosses}

module _ (p : Plant) where
  -- link l is in service and at switch v; from there it is crossed by arc a
  pub record Leaves (v l a : ℕ) : Type 0 where
    pub of_link : a / 2 ≡ l
    pub in_service : Arc p a
    pub from : tail p a ≡ v

  -- "at each switch the links are tried by rising number": at v link l and those after it are tried, where the switches `seen` have been
  -- visited and `hops` crossed. This gives the hops w, and then the switches `seen'` have been visited
  pub data RoundAt : (v l : ℕ) (seen hops w seen' : List ℕ) → Type 0 where
    -- no link is left
    finished : {v l : ℕ} {seen hops : List ℕ} → p.count ≤ l → RoundAt v l seen hops [] seen
    -- link l is not at v or not in service; or it leads to a visited switch, and was crossed from the end where it was first met
    passed : {v l : ℕ} {seen hops w seen' : List ℕ}
        → l < p.count → ((a : ℕ) → Leaves v l a → In (head p a) seen × Crosses l hops)
        → RoundAt v (suc l) seen hops w seen'
        → RoundAt v l seen hops w seen'
    -- "a link to an unvisited switch is entered before the next is tried", and "an entered link is crossed, its far side finished, then
    -- crossed back": on the far side all links are tried
    entered : {v l a : ℕ} {seen hops far seen₁ w seen' : List ℕ}
        → Leaves v l a → (In (head p a) seen → ⊥)
        → RoundAt (head p a) 0 (head p a ∷ seen) (hops ++ (a ∷ [])) far seen₁
        → RoundAt v (suc l) seen₁ (hops ++ (a ∷ (far ++ (opposite a ∷ [])))) w seen'
        → RoundAt v l seen hops (a ∷ (far ++ (opposite a ∷ w))) seen'
    -- "any other link is crossed and crossed back from the end where it is first met"
    met : {v l a : ℕ} {seen hops w seen' : List ℕ}
        → Leaves v l a → In (head p a) seen → (Crosses l hops → ⊥)
        → RoundAt v (suc l) seen (hops ++ (a ∷ opposite a ∷ [])) w seen'
        → RoundAt v l seen hops (a ∷ opposite a ∷ w) seen'

  -- from the root r, which is visited, with nothing crossed: all links are tried there
  abbrev pub ByRoundRule : ℕ → List ℕ → Type 0
  ByRoundRule r w = (seen : List ℕ) × RoundAt r 0 (r ∷ []) [] w seen
