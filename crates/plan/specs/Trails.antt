-- What document 01 says of a trail, for each component of a plant (document 02, order 9): a closed walk from its root over exactly its arcs
-- in use; and of the trails one after another, that they have at most so many hops.
use Rattle.std.specs.Prelude.{◌↔◌, List, ℕ, ◌≤◌, T, length}
use Rattle.lists.specs.Members.{In}
use Rattle.limits.specs.Limits.{max_hops}
use Rattle.plant.specs.declared.Plant.{Plant}
use Rattle.walks.specs.Walk.{Walk}
use Rattle.walks.specs.Arcs.{tail, head}
use Rattle.walks.specs.Graph.{reached_from}
use Rattle.walks.specs.Components.{roots, used}
use Rattle.routes.specs.Plants.{trail_from}
use Rattle.plan.specs.Plan.{trail_of}

module _ (p : Plant) where
  -- w is the trail of the component with root r
  pub record IsTrail (r : ℕ) (w : List ℕ) : Type 0 where
    -- each arc leaves the switch that the one before it reached, the first leaves the root, and the last reaches it
    pub closed : Walk (tail p) (head p) w r r
    -- the arcs crossed are those in use of the component
    pub exactly : (a : ℕ) → In a w ↔ (T (reached_from p r (tail p a)) × T (used p a))

  pub record AreTrails : Type 0 where
    pub each : (r : ℕ) → In r (roots p) → IsTrail r (trail_from p r)
    -- all together cross exactly the arcs in use
    pub exactly : (a : ℕ) → In a (trail_of p) ↔ T (used p a)
    -- "the 20,479 places still suffice"
    pub short : length (trail_of p) ≤ max_hops
