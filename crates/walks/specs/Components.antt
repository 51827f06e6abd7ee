-- The components of a plant (document 02, order 9, calls them islands): what links in service join. Where each begins, in which order they
-- stand, and the arcs in use over all of them. Each definition computes.
use Rattle.std.specs.Prelude.{Bool, not, ◌&&◌, List, ◌∷◌, ℕ, ◌*◌, eqb, length, get_or}
use Rattle.lists.specs.Tests.{choose}
use Rattle.lists.specs.Count.{count}
use Rattle.lists.specs.Least.{least}
use Rattle.lists.specs.Numbers.{range, keep}
use Rattle.plant.specs.declared.Plant.{Plant}
use Rattle.plant.specs.Links.{first, live}
use Rattle.walks.specs.Arcs.{tail}
use Rattle.walks.specs.Graph.{reached_from, used_from, links_from}

module _ (p : Plant) where
  -- the root of the component of x, the switch that it is begun at: the start, if x is reached from there, and else the lowest switch from
  -- which x is
  unfoldable pub root_of : ℕ → ℕ
  root_of x = choose (reached_from p p.start x) p.start (least x (λ y. reached_from p y x))

  -- a component that is not the start's is begun at x
  unfoldable pub begun_at : ℕ → Bool
  begun_at x = not (eqb x p.start) && eqb (root_of x) x

  -- the roots in the order of the components: "the start's first, begun at the start, the rest by their lowest switch, begun there"
  unfoldable pub roots : List ℕ
  roots = p.start ∷ keep begun_at (range 0 p.switches)

  -- the number of the component of x, from 0
  unfoldable pub component_of : ℕ → ℕ
  component_of x = least (length roots) (λ i. eqb (get_or roots i 0) (root_of x))

  -- link l is in service, and of the component of x
  abbrev pub link_with : ℕ → ℕ → Bool
  link_with x l = live p l && eqb (root_of (first p l)) (root_of x)

  -- E for a named switch x: how many links in service its component has
  unfoldable pub links_with : ℕ → ℕ
  links_with x = links_from p (root_of x)

  -- the arcs in use, and how many they are: those from the root of the component
  unfoldable pub used : ℕ → Bool
  used a = used_from p (root_of (tail p a)) a

  unfoldable pub arcs_used : ℕ
  arcs_used = count (2 * p.count) used
