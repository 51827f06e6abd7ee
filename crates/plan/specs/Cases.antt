-- Plants in several components (document 02, order 9) with what is expected of them, and one computed test over the table. Assumes nothing.
use Rattle.std.specs.Prelude.{◌≡◌, refl, ℕ, ◌*◌}
use mathlib.Core.List.{List, [], ◌∷◌, map, flatten}
use Rattle.lists.specs.Count.{count}
use Rattle.lists.specs.Least.{least_from}
use Rattle.lists.specs.Numbers.{range, keep}
use Rattle.plant.specs.declared.Plant.{Plant}
use Rattle.limits.specs.Limits.{max_switches}
use Rattle.plant.specs.Links.{live}
use Rattle.walks.specs.Visit.{scan, visit}
use Rattle.walks.specs.Arcs.{opposite, tail, head}
use Rattle.walks.specs.Graph.{arcs, others, visit_from, bridge, used_from, links_from}
use Rattle.walks.specs.Components.{root_of, begun_at, roots, links_with, used}
use Rattle.walks.specs.Round.{walk_at, tour, round_from}
use Rattle.walks.specs.Cases.{plant_of, taken_out}
use Rattle.routes.specs.Distance.{sources, within, dist, hop, hops, route}
use Rattle.routes.specs.Trail.{near, nearest, legs, trail}
use Rattle.plan.specs.Plan.{trails_of, trail_of, rounds_of, round_of}

-- the plant with another start
abbrev pub start_at : ℕ → Plant → Plant
start_at x p = record { switches = p.switches; count = p.count; start = x; links = p.links }

pub record Row : Type 0 where
  pub plant : Plant
  -- where its components are begun, in their order
  pub begun : List ℕ
  -- the labels of their trails, and of their round trails
  pub trails : List ℕ
  pub rounds : List ℕ
  -- the labels of the arcs in use
  pub in_use : List ℕ
  -- for each switch, how many links in service its component has
  pub links_of_is : List ℕ

-- the row of a plant by the definitions
unfoldable pub row_of : Plant → Row
row_of p = record {
  plant = p;
  begun = roots p;
  trails = trail_of p;
  rounds = round_of p;
  in_use = keep (used p) (range 0 (2 * p.count));
  links_of_is = map (links_with p) (range 0 p.switches);
}

abbrev pub single : Row
single = record {
  plant = plant_of 1 [];
  begun = 0 ∷ [];
  trails = [];
  rounds = [];
  in_use = [];
  links_of_is = 0 ∷ [];
}

-- a ring and its tail, begun at the end of the tail: one component
abbrev pub whole : Row
whole = record {
  plant = start_at 3 (plant_of 4 ((0, 1) ∷ (1, 2) ∷ (2, 0) ∷ (0, 3) ∷ []));
  begun = 3 ∷ [];
  trails = 7 ∷ 0 ∷ 2 ∷ 4 ∷ 6 ∷ [];
  rounds = 7 ∷ 0 ∷ 2 ∷ 4 ∷ 5 ∷ 3 ∷ 1 ∷ 6 ∷ [];
  in_use = 0 ∷ 2 ∷ 4 ∷ 6 ∷ 7 ∷ [];
  links_of_is = 4 ∷ 4 ∷ 4 ∷ 4 ∷ [];
}

-- two triangles and a switch without links. The start is in the triangle that has the highest switches, and is not its lowest
abbrev pub triangles : Row
triangles = record {
  plant = start_at 5 (plant_of 7 ((4, 5) ∷ (0, 2) ∷ (5, 6) ∷ (2, 3) ∷ (6, 4) ∷ (3, 0) ∷ []));
  begun = 5 ∷ 0 ∷ 1 ∷ [];
  trails = 1 ∷ 9 ∷ 5 ∷ 2 ∷ 6 ∷ 10 ∷ [];
  rounds = 1 ∷ 9 ∷ 5 ∷ 4 ∷ 8 ∷ 0 ∷ 2 ∷ 6 ∷ 10 ∷ 11 ∷ 7 ∷ 3 ∷ [];
  in_use = 1 ∷ 2 ∷ 5 ∷ 6 ∷ 9 ∷ 10 ∷ [];
  links_of_is = 3 ∷ 0 ∷ 3 ∷ 3 ∷ 3 ∷ 3 ∷ 3 ∷ [];
}

-- the links between switches 0 and 1 are out of service
abbrev pub laid_up : Row
laid_up = record {
  plant = start_at 3 (taken_out (0 ∷ 1 ∷ []) (plant_of 5 ((0, 1) ∷ (1, 0) ∷ (2, 3) ∷ (3, 4) ∷ [])));
  begun = 3 ∷ 0 ∷ 1 ∷ [];
  trails = 5 ∷ 4 ∷ 6 ∷ 7 ∷ [];
  rounds = 5 ∷ 4 ∷ 6 ∷ 7 ∷ [];
  in_use = 4 ∷ 5 ∷ 6 ∷ 7 ∷ [];
  links_of_is = 0 ∷ 0 ∷ 2 ∷ 2 ∷ 2 ∷ [];
}

-- one link from the start, and three parallel ones elsewhere: the trail of these crosses an arc twice
abbrev pub parallel : Row
parallel = record {
  plant = start_at 3 (plant_of 4 ((0, 3) ∷ (1, 2) ∷ (1, 2) ∷ (2, 1) ∷ []));
  begun = 3 ∷ 1 ∷ [];
  trails = 1 ∷ 0 ∷ 2 ∷ 5 ∷ 2 ∷ 6 ∷ [];
  rounds = 1 ∷ 0 ∷ 2 ∷ 5 ∷ 4 ∷ 6 ∷ 7 ∷ 3 ∷ [];
  in_use = 0 ∷ 1 ∷ 2 ∷ 5 ∷ 6 ∷ [];
  links_of_is = 1 ∷ 3 ∷ 3 ∷ 1 ∷ [];
}

-- document 02's `01 40`: "64 empty trails and 0 rules"
abbrev pub no_links : Row
no_links = record {
  plant = plant_of max_switches [];
  begun = range 0 max_switches;
  trails = [];
  rounds = [];
  in_use = [];
  links_of_is = map (λ x. 0) (range 0 max_switches);
}

abbrev pub table : List Row
table = single ∷ whole ∷ triangles ∷ laid_up ∷ parallel ∷ no_links ∷ []

pub as_expected : map (λ r. row_of r.plant) table ≡ table
unfolding row_of roots begun_at root_of least_from used links_with links_from count trails_of rounds_of flatten trail legs nearest near route hops hop dist within sources bridge used_from visit_from arcs others visit scan round_from tour walk_at opposite tail head live
as_expected = refl
