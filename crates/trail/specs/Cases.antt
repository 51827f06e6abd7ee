-- The trails of document 01's starred plants and of the program's example, from switch 0, and one computed test over the table. Assumes nothing.
use Rattle.std.specs.Prelude.{◌≡◌, refl, List, [], ◌∷◌, map, ℕ}
use Rattle.lists.specs.Count.{count}
use Rattle.lists.specs.Least.{least_from}
use Rattle.plant.specs.declared.Plant.{Plant}
use Rattle.plant.specs.Links.{live}
use Rattle.walks.specs.Visit.{scan, visit}
use Rattle.walks.specs.Arcs.{tail, head}
use Rattle.walks.specs.Graph.{arcs, others, visit_from, bridge, used_from}
use Rattle.walks.specs.Cases as plants
use Rattle.routes.specs.Distance.{sources, within, dist, hop, hops, route}
use Rattle.routes.specs.Trail.{near, nearest, legs, trail}
use Rattle.routes.specs.Plants.{trail_from}

pub record Row : Type 0 where
  pub plant : Plant
  -- the labels of its trail
  pub labels : List ℕ

-- one switch and no link
abbrev pub alone : Row
alone = record { plant = (plants.alone).plant; labels = [] }

abbrev pub one_link : Row
one_link = record { plant = (plants.one_link).plant; labels = 0 ∷ 1 ∷ [] }

abbrev pub triangle : Row
triangle = record { plant = (plants.triangle).plant; labels = 0 ∷ 2 ∷ 4 ∷ [] }

abbrev pub three_parallel : Row
three_parallel = record { plant = (plants.three_parallel).plant; labels = 0 ∷ 3 ∷ 0 ∷ 5 ∷ [] }

-- the plant that the program prints
abbrev pub ring_with_tail : Row
ring_with_tail = record { plant = (plants.ring_with_tail).plant; labels = 0 ∷ 2 ∷ 4 ∷ 6 ∷ 7 ∷ [] }

abbrev pub table : List Row
table = alone ∷ one_link ∷ triangle ∷ three_parallel ∷ ring_with_tail ∷ []

pub as_expected : map (λ r. trail_from r.plant 0) table ≡ map (λ r. r.labels) table
unfolding trail legs nearest near route hops hop dist within sources least_from count used_from bridge visit_from arcs others visit scan tail head live
as_expected = refl
