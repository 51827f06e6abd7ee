-- Plants whose trail from switch 0 would be another by another rule, and one computed test over the table. Assumes nothing.
use Rattle.std.specs.Prelude.{◌≡◌, refl, List, [], ◌∷◌, map, ℕ}
use Rattle.lists.specs.Count.{count}
use Rattle.lists.specs.Least.{least_from}
use Rattle.plant.specs.declared.Plant.{Plant}
use Rattle.plant.specs.Links.{live}
use Rattle.walks.specs.Visit.{scan, visit}
use Rattle.walks.specs.Arcs.{tail, head}
use Rattle.walks.specs.Graph.{arcs, others, visit_from, bridge, used_from}
use Rattle.walks.specs.Cases.{plant_of}
use Rattle.routes.specs.Distance.{sources, within, dist, hop, hops, route}
use Rattle.routes.specs.Trail.{near, nearest, legs, trail}
use Rattle.routes.specs.Plants.{trail_from}

pub record Row : Type 0 where
  pub plant : Plant
  -- the labels of its trail
  pub labels : List ℕ

-- "each hop takes the lowest label of an arc in use that lessens the distance left", and not the highest
abbrev pub lowest_hop : Row
lowest_hop = record {
  plant = plant_of 3 ((1, 0) ∷ (0, 1) ∷ (0, 1) ∷ (0, 1) ∷ (1, 2) ∷ (2, 1) ∷ []);
  labels = 1 ∷ 3 ∷ 1 ∷ 5 ∷ 1 ∷ 7 ∷ 1 ∷ 8 ∷ 10 ∷ 3 ∷ [];
}

-- "the nearest switch" is nearest over arcs in use, and not over links
abbrev pub over_arcs : Row
over_arcs = record {
  plant = plant_of 3 ((0, 2) ∷ (2, 1) ∷ (0, 1) ∷ (2, 1) ∷ (2, 0) ∷ (0, 1) ∷ []);
  labels = 0 ∷ 2 ∷ 5 ∷ 0 ∷ 8 ∷ 0 ∷ 2 ∷ 7 ∷ 2 ∷ 11 ∷ [];
}

-- it is nearest by the hops to it, and not by those back from it
abbrev pub not_back : Row
not_back = record {
  plant = plant_of 4 ((0, 1) ∷ (3, 1) ∷ (0, 3) ∷ (1, 3) ∷ (2, 1) ∷ []);
  labels = 0 ∷ 3 ∷ 5 ∷ 0 ∷ 9 ∷ 8 ∷ 3 ∷ 7 ∷ 3 ∷ 5 ∷ [];
}

-- "ties go to the lowest label of such an arc", and not to the lowest switch
abbrev pub ties_by_label : Row
ties_by_label = record {
  plant = plant_of 6 ((0, 1) ∷ (2, 0) ∷ (4, 2) ∷ (3, 5) ∷ (1, 3) ∷ (1, 3) ∷ []);
  labels = 0 ∷ 1 ∷ 3 ∷ 2 ∷ 3 ∷ 5 ∷ 4 ∷ 2 ∷ 0 ∷ 8 ∷ 6 ∷ 7 ∷ 11 ∷ 1 ∷ [];
}

abbrev pub table : List Row
table = lowest_hop ∷ over_arcs ∷ not_back ∷ ties_by_label ∷ []

pub as_expected : map (λ r. trail_from r.plant 0) table ≡ map (λ r. r.labels) table
unfolding trail legs nearest near route hops hop dist within sources least_from count used_from bridge visit_from arcs others visit scan tail head live
as_expected = refl
