-- What a value of `Visited` tells of a state of the depth-first visit, of the whole visit of a plant from a root, and of the visits from the roots of all components. Assumes
-- nothing.
use Rattle.std.specs.Prelude.{◌≡◌, true, false, ◌||◌, ℕ, ◌+◌, ◌*◌, ◌<◌, T, length, get_or}
use Rattle.lists.specs.Members.{In, memb}
use Rattle.plant.specs.declared.Plant.{Plant}
use Rattle.plant.specs.Links.{first}
use Rattle.walks.specs.Visit.{St, rank}
use Rattle.walks.specs.Graph.{visited_from, reached_from, entered_from}
use Rattle.walks.specs.Components.{roots}
use Rattle.arcs.specs.declared.Visited.{Visited}

-- which switches are visited, the number of each in the order of the visit, which links are entered, and how many switches are visited
pub record Shows (v : Visited) (s : St) : Type 0 where
  pub sees : (x : ℕ) → get_or v.seen x false ≡ memb x s.ord
  pub ranks : (x : ℕ) → get_or v.rank x 0 ≡ rank x s.ord
  pub enters : (l : ℕ) → get_or v.entered l false ≡ memb (2 * l) s.ent || memb (2 * l + 1) s.ent
  pub counts : v.next ≡ length s.ord

-- v is the visit of the plant from its switch r
pub record Visits (p : Plant) (r : ℕ) (v : Visited) : Type 0 where
  pub root_is : v.root ≡ r
  pub root_in : r < p.switches
  pub shows : Shows v (visited_from p r)

-- v tells of the visit from r, as far as what is reached from there goes: the switches, their numbers, and which links at them are entered
pub record Tells (p : Plant) (r : ℕ) (v : Visited) : Type 0 where
  pub sees : (x : ℕ) → T (reached_from p r x) → get_or v.seen x false ≡ true
  pub ranks : (x : ℕ) → T (reached_from p r x) → get_or v.rank x 0 ≡ rank x (visited_from p r).ord
  pub enters : (l : ℕ) → T (reached_from p r (first p l)) → get_or v.entered l false ≡ entered_from p r l

-- it tells so of the visits from the roots of all components
abbrev pub TellsAll : Plant → Visited → Type 0
TellsAll p v = (r : ℕ) → In r (roots p) → Tells p r v
