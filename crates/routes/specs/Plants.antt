-- Distance and trail of a plant from a root: over its switches, its labels and its arcs in use from there.
use Rattle.std.specs.Prelude.{List, ℕ, ◌*◌}
use Rattle.plant.specs.declared.Plant.{Plant}
use Rattle.walks.specs.Arcs.{tail, head}
use Rattle.walks.specs.Graph.{used_from}
use Rattle.routes.specs.Distance.{dist}
use Rattle.routes.specs.Trail.{trail}
use Rattle.routes.specs.Rule.{ByRule}

module _ (p : Plant) (r : ℕ) where
  -- the fewest hops over arcs in use; the number of switches if there is no walk
  abbrev pub distance_from : ℕ → ℕ → ℕ
  distance_from u v = dist p.switches (2 * p.count) (tail p) (head p) (used_from p r) u v

  -- the trail of the part that is reached
  abbrev pub trail_from : List ℕ
  trail_from = trail p.switches (2 * p.count) (tail p) (head p) (used_from p r) r

  -- w is the trail of the part that is reached, by document 01's rule
  abbrev pub TrailByRule : List ℕ → Type 0
  TrailByRule w = ByRule (2 * p.count) (tail p) (head p) (used_from p r) distance_from r w
