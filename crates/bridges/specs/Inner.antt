-- Inner: what the loops and the inner functions of this crate keep. No promise of a call needs it.
use Rattle.std.specs.Prelude.{◌≡◌, Bool, true, false, List, ℕ, ◌*◌, ◌/◌, ◌<◌, T, eqb, length, get_or}
use Rattle.lists.specs.Tests.{choose}
use Rattle.lists.specs.Members.{In}
use Rattle.plant.specs.declared.Plant.{Plant}
use Rattle.plant.specs.Links.{first, second, live}
use Rattle.limits.specs.Limits.{max_switches, max_links}
use Rattle.walks.specs.Arcs.{head}
use Rattle.walks.specs.Inner.{Level}
use Rattle.walks.specs.Graph.{visited_from, entered_from, bridge}
use Rattle.walks.specs.Components.{roots}

-- ---- the trees of the visits from the roots, and the links on a cycle

-- the end of link l away from the switch `from`, which is one of its two
unfoldable pub across_of : (ℕ → ℕ) → (ℕ → ℕ) → ℕ → ℕ → ℕ
across_of tl hd l from = choose (eqb (tl (2 * l)) from) (hd (2 * l)) (tl (2 * l))

module _ (p : Plant) where
  -- there is a place for each switch, and that of a switch which was entered by a link below n has the number of that link
  pub record EntryLinks (n : ℕ) (up : List ℕ) : Type 0 where
    pub places : length up ≡ max_switches
    pub tells : (r a : ℕ) → In r (roots p) → In a (visited_from p r).ent → a / 2 < n → get_or up (head p a) 0 ≡ a / 2

  -- flags of links that are no bridges; where an entered link has none, each link below n that closes a cycle has both ends below it in the tree, or neither: a link in
  -- service at a visited switch that was not entered
  pub record Covered (n : ℕ) (flags : List Bool) : Type 0 where
    pub places : length flags ≡ max_links
    pub sure : (l : ℕ) → get_or flags l false ≡ true → bridge p l ≡ false
    pub all : (r a : ℕ) → In r (roots p) → In a (visited_from p r).ent → get_or flags (a / 2) false ≡ false
        → (k : ℕ) → k < n → T (live p k) → (T (entered_from p r k) → ⊥) → In (first p k) (visited_from p r).ord → Level p r a (first p k) (second p k)
