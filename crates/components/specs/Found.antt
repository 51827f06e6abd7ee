-- Inner: what a value of `Found` tells of the components of a plant. Assumes nothing.
use Rattle.std.specs.Prelude.{◌≡◌, ℕ, ◌*◌, ◌<◌, length, get_or}
use Rattle.lists.specs.Arrays.{at}
use Rattle.plant.specs.declared.Plant.{Plant}
use Rattle.limits.specs.Limits.{max_links}
use Rattle.walks.specs.Graph.{bridge}
use Rattle.walks.specs.Components.{roots, component_of, used}
use Rattle.arcs.specs.Flags.{Flags}
use Rattle.components.specs.declared.Found.{Found}

pub record Finds (p : Plant) (f : Found) : Type 0 where
  pub count_is : f.count ≡ length (roots p)
  pub roots_are : (i : ℕ) → i < length (roots p) → at f.roots i ≡ get_or (roots p) i 0
  pub homes : (x : ℕ) → x < p.switches → at f.home x ≡ component_of p x
  pub bridges_are : Flags max_links (bridge p) f.bridges
  pub used_are : Flags (2 * max_links) (used p) f.used
