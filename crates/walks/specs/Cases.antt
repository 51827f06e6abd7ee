-- Plants with what is expected of them, and one computed test over the table. Assumes nothing.
use Rattle.std.specs.Prelude.{◌≡◌, refl, Bool, true, false, List, [], ◌∷◌, map, reverse, ℕ, ◌*◌, length}
use Rattle.lists.specs.Count.{count}
use Rattle.lists.specs.Members.{memb}
use Rattle.lists.specs.Numbers.{range, keep, every}
use Rattle.plant.specs.declared.Plant.{Plant}
use Rattle.plant.specs.Links.{marked, link_at, live}
use Rattle.walks.specs.Visit.{scan, visit}
use Rattle.walks.specs.Arcs.{opposite, tail, head}
use Rattle.walks.specs.Graph.{arcs, others, visit_from, bridge, visited_from, reached_from, used_from}
use Rattle.walks.specs.Round.{walk_at, tour, round_from}

-- the ends of the links, first and second, all in service. Its start plays no part here
abbrev pub plant_of : ℕ → List (ℕ × ℕ) → Plant
plant_of switches ends = record { switches = switches; count = length ends; start = 0; links = map (λ e. record { first = e.0; second = e.1; tag = 0; out_of_service = false }) ends }

-- the plant with these links out of service
abbrev pub taken_out : List ℕ → Plant → Plant
taken_out ls p = record { switches = p.switches; count = p.count; start = p.start; links = map (λ l. marked (memb l ls) (link_at p l)) (range 0 p.count) }

pub record Row : Type 0 where
  pub plant : Plant
  -- the switch that it is visited from
  pub root : ℕ
  -- is every switch reached?
  pub joined : Bool
  -- its bridges, by link number
  pub bridging : List ℕ
  -- the labels of the arcs in use
  pub in_use : List ℕ
  -- the switches in the order of the visit
  pub order : List ℕ
  -- the labels of the round trail
  pub round : List ℕ

-- the row of a plant and a root by the definitions
unfoldable pub row_of : Plant → ℕ → Row
row_of p r = record {
  plant = p;
  root = r;
  joined = every p.switches (reached_from p r);
  bridging = keep (bridge p) (range 0 p.count);
  in_use = keep (used_from p r) (range 0 (2 * p.count));
  order = reverse (visited_from p r).ord;
  round = round_from p r;
}

abbrev pub triangle : Row
triangle = record {
  plant = plant_of 3 ((0, 1) ∷ (1, 2) ∷ (2, 0) ∷ []);
  root = 0;
  joined = true;
  bridging = [];
  in_use = 0 ∷ 2 ∷ 4 ∷ [];
  order = 0 ∷ 1 ∷ 2 ∷ [];
  round = 0 ∷ 2 ∷ 4 ∷ 5 ∷ 3 ∷ 1 ∷ [];
}

abbrev pub one_link : Row
one_link = record {
  plant = plant_of 2 ((0, 1) ∷ []);
  root = 0;
  joined = true;
  bridging = 0 ∷ [];
  in_use = 0 ∷ 1 ∷ [];
  order = 0 ∷ 1 ∷ [];
  round = 0 ∷ 1 ∷ [];
}

abbrev pub three_parallel : Row
three_parallel = record {
  plant = plant_of 2 ((0, 1) ∷ (0, 1) ∷ (0, 1) ∷ []);
  root = 0;
  joined = true;
  bridging = [];
  in_use = 0 ∷ 3 ∷ 5 ∷ [];
  order = 0 ∷ 1 ∷ [];
  round = 0 ∷ 3 ∷ 2 ∷ 5 ∷ 4 ∷ 1 ∷ [];
}

abbrev pub alone : Row
alone = record {
  plant = plant_of 1 [];
  root = 0;
  joined = true;
  bridging = [];
  in_use = [];
  order = 0 ∷ [];
  round = [];
}

-- four switches in a row, begun at the third
abbrev pub path : Row
path = record {
  plant = plant_of 4 ((0, 1) ∷ (1, 2) ∷ (2, 3) ∷ []);
  root = 2;
  joined = true;
  bridging = 0 ∷ 1 ∷ 2 ∷ [];
  in_use = 0 ∷ 1 ∷ 2 ∷ 3 ∷ 4 ∷ 5 ∷ [];
  order = 2 ∷ 1 ∷ 0 ∷ 3 ∷ [];
  round = 3 ∷ 1 ∷ 0 ∷ 2 ∷ 4 ∷ 5 ∷ [];
}

abbrev pub ring_with_tail : Row
ring_with_tail = record {
  plant = plant_of 4 ((0, 1) ∷ (1, 2) ∷ (2, 0) ∷ (0, 3) ∷ []);
  root = 0;
  joined = true;
  bridging = 3 ∷ [];
  in_use = 0 ∷ 2 ∷ 4 ∷ 6 ∷ 7 ∷ [];
  order = 0 ∷ 1 ∷ 2 ∷ 3 ∷ [];
  round = 0 ∷ 2 ∷ 4 ∷ 5 ∷ 3 ∷ 1 ∷ 6 ∷ 7 ∷ [];
}

-- the plant of source document 003's Table I: switches s1 to s7 are 0 to 6
abbrev pub table_one : Row
table_one = record {
  plant = plant_of 7 ((0, 4) ∷ (4, 1) ∷ (1, 2) ∷ (2, 5) ∷ (5, 6) ∷ (6, 3) ∷ (3, 2) ∷ (5, 4) ∷ (1, 0) ∷ []);
  root = 0;
  joined = true;
  bridging = [];
  in_use = 0 ∷ 2 ∷ 4 ∷ 6 ∷ 8 ∷ 10 ∷ 12 ∷ 14 ∷ 16 ∷ [];
  order = 0 ∷ 4 ∷ 1 ∷ 2 ∷ 5 ∷ 6 ∷ 3 ∷ [];
  round = 0 ∷ 2 ∷ 4 ∷ 6 ∷ 8 ∷ 10 ∷ 12 ∷ 13 ∷ 11 ∷ 9 ∷ 14 ∷ 15 ∷ 7 ∷ 5 ∷ 16 ∷ 17 ∷ 3 ∷ 1 ∷ [];
}

-- switch 2 is joined to nothing
abbrev pub apart : Row
apart = record {
  plant = plant_of 3 ((0, 1) ∷ []);
  root = 0;
  joined = false;
  bridging = 0 ∷ [];
  in_use = 0 ∷ 1 ∷ [];
  order = 0 ∷ 1 ∷ [];
  round = 0 ∷ 1 ∷ [];
}

-- the triangle of document 02's order 7, with its last link out of service
abbrev pub open_triangle : Row
open_triangle = record {
  plant = taken_out (2 ∷ []) triangle.plant;
  root = 0;
  joined = true;
  bridging = 0 ∷ 1 ∷ [];
  in_use = 0 ∷ 1 ∷ 2 ∷ 3 ∷ [];
  order = 0 ∷ 1 ∷ 2 ∷ [];
  round = 0 ∷ 2 ∷ 3 ∷ 1 ∷ [];
}

-- the one link that is left of three parallel ones is a bridge
abbrev pub one_of_three : Row
one_of_three = record {
  plant = taken_out (0 ∷ 2 ∷ []) three_parallel.plant;
  root = 0;
  joined = true;
  bridging = 1 ∷ [];
  in_use = 2 ∷ 3 ∷ [];
  order = 0 ∷ 1 ∷ [];
  round = 2 ∷ 3 ∷ [];
}

-- the tail of the ring is out of service: it joins nothing, and is no bridge
abbrev pub tail_out : Row
tail_out = record {
  plant = taken_out (3 ∷ []) ring_with_tail.plant;
  root = 0;
  joined = false;
  bridging = [];
  in_use = 0 ∷ 2 ∷ 4 ∷ [];
  order = 0 ∷ 1 ∷ 2 ∷ [];
  round = 0 ∷ 2 ∷ 4 ∷ 5 ∷ 3 ∷ 1 ∷ [];
}

-- two links between 0 and 1, and one from there to 2: at switch 1 the second link is crossed both ways before the third is entered. To
-- enter first what leads to an unvisited switch would give 0 4 5 2 3 1
abbrev pub pair_and_tail : Row
pair_and_tail = record {
  plant = plant_of 3 ((0, 1) ∷ (1, 0) ∷ (1, 2) ∷ []);
  root = 0;
  joined = true;
  bridging = 2 ∷ [];
  in_use = 0 ∷ 2 ∷ 4 ∷ 5 ∷ [];
  order = 0 ∷ 1 ∷ 2 ∷ [];
  round = 0 ∷ 2 ∷ 3 ∷ 4 ∷ 5 ∷ 1 ∷ [];
}

abbrev pub table : List Row
table = triangle ∷ one_link ∷ three_parallel ∷ alone ∷ path ∷ ring_with_tail ∷ table_one ∷ apart ∷ open_triangle ∷ one_of_three ∷ tail_out ∷ pair_and_tail ∷ []

pub as_expected : map (λ r. row_of r.plant r.root) table ≡ table
unfolding row_of bridge used_from visit_from arcs others visit scan round_from tour walk_at opposite tail head live every
as_expected = refl
