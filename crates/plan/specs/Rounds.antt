-- What document 02's order 6 says of a round trail, for each component of a plant (order 9): a closed walk from its root that crosses each
-- of its arcs just once; and of the round trails one after another.
use Rattle.std.specs.Prelude.{◌≡◌, ◌↔◌, List, ℕ, ◌*◌, ◌≤◌, T, length}
use Rattle.lists.specs.Members.{In, Distinct}
use Rattle.limits.specs.Limits.{max_links}
use Rattle.plant.specs.declared.Plant.{Plant}
use Rattle.walks.specs.Walk.{Walk}
use Rattle.walks.specs.Arcs.{tail, head, Arc}
use Rattle.walks.specs.Graph.{reached_from, links_from, live_links}
use Rattle.walks.specs.Components.{roots}
use Rattle.walks.specs.Round.{round_from}
use Rattle.plan.specs.Plan.{round_of}

module _ (p : Plant) where
  -- w is the round trail of the component with root r
  pub record IsRound (r : ℕ) (w : List ℕ) : Type 0 where
    -- each arc leaves the switch that the one before it reached, the first leaves the root, and the last reaches it
    pub closed : Walk (tail p) (head p) w r r
    -- "crosses each of the 2×E arcs just once", where E is of the component
    pub each : (a : ℕ) → In a w ↔ (T (reached_from p r (tail p a)) × Arc p a)
    pub once : Distinct w
    pub number : length w ≡ 2 * links_from p r

  pub record AreRounds : Type 0 where
    pub rounds : (r : ℕ) → In r (roots p) → IsRound r (round_from p r)
    -- all together cross each arc of the plant just once
    pub each : (a : ℕ) → In a (round_of p) ↔ Arc p a
    pub once : Distinct (round_of p)
    pub number : length (round_of p) ≡ 2 * live_links p
    pub short : length (round_of p) ≤ 2 * max_links
