-- Plants and their trails with what is expected of each injection switch, and one computed test over the table. Assumes nothing.
use Rattle.std.specs.Prelude.{◌≡◌, refl, Bool, not, List, [], ◌∷◌, map, ℕ, eqb}
use Rattle.lists.specs.Count.{count}
use Rattle.lists.specs.Members.{memb}
use Rattle.lists.specs.Numbers.{range, keep}
use Rattle.lists.specs.Least.{least_from}
use Rattle.plant.specs.declared.Plant.{Plant}
use Rattle.plant.specs.Links.{live}
use Rattle.walks.specs.Arcs.{opposite, tail, head}
use Rattle.walks.specs.Graph.{live_links}
use Rattle.walks.specs.Cases as plants
use Rattle.rings.specs.Packet.{by_link, run, rules_for}
use Rattle.rings.specs.Rules.{in_all}
use Rattle.rings.specs.Ring as rings
use Rattle.rings.specs.Order as orders
use Rattle.rings.specs.Probe.{outward, probe}
use Rattle.rings.specs.Injection.{probe_rules, ring_of, order_of, probe_of, probe_run}

-- an injection switch
pub record Switch : Type 0 where
  pub place : ℕ
  pub ring : List ℕ
  pub order : List ℕ
  -- the labels of probes 1 to E
  pub probes : List (List ℕ)
  -- the probes that end while one link is down, for each link
  pub through : List (List ℕ)

pub record Row : Type 0 where
  pub plant : Plant
  pub trail : List ℕ
  -- its switches, by number
  pub switches : List Switch

-- the forwarding table has a rule for each arc that the trail crosses
abbrev pub crossed : List ℕ → ℕ → Bool
crossed w a = memb a w

-- the same by the definitions
unfoldable pub switch_of : Plant → List ℕ → ℕ → Switch
switch_of p w s = record {
  place = rings.place (tail p) s w;
  ring = ring_of p w s;
  order = order_of p w s;
  probes = map (probe_of p w s (live_links p)) (range 1 (live_links p));
  through = map (λ down. keep (λ m. (probe_run p (crossed w) w s (live_links p) (by_link (λ l. not (eqb l down))) m).ended) (range 1 (live_links p)))
      (keep (live p) (range 0 p.count));
}

abbrev pub row_of : Plant → List ℕ → Row
row_of p w = record { plant = p; trail = w; switches = map (switch_of p w) (range 0 p.switches) }

abbrev pub triangle : Row
triangle = record {
  plant = (plants.triangle).plant;
  trail = 0 ∷ 2 ∷ 4 ∷ [];
  switches = record {
    place = 0;
    ring = 0 ∷ 2 ∷ 4 ∷ [];
    order = 0 ∷ 1 ∷ 2 ∷ [];
    probes = (0 ∷ 1 ∷ []) ∷ (0 ∷ 2 ∷ 3 ∷ 1 ∷ []) ∷ (0 ∷ 2 ∷ 4 ∷ []) ∷ [];
    through = [] ∷ (1 ∷ []) ∷ (1 ∷ 2 ∷ []) ∷ [];
  } ∷ record {
    place = 1;
    ring = 2 ∷ 4 ∷ 0 ∷ [];
    order = 1 ∷ 2 ∷ 0 ∷ [];
    probes = (2 ∷ 3 ∷ []) ∷ (2 ∷ 4 ∷ 5 ∷ 3 ∷ []) ∷ (2 ∷ 4 ∷ 0 ∷ []) ∷ [];
    through = (1 ∷ 2 ∷ []) ∷ [] ∷ (1 ∷ []) ∷ [];
  } ∷ record {
    place = 2;
    ring = 4 ∷ 0 ∷ 2 ∷ [];
    order = 2 ∷ 0 ∷ 1 ∷ [];
    probes = (4 ∷ 5 ∷ []) ∷ (4 ∷ 0 ∷ 1 ∷ 5 ∷ []) ∷ (4 ∷ 0 ∷ 2 ∷ []) ∷ [];
    through = (1 ∷ []) ∷ (1 ∷ 2 ∷ []) ∷ [] ∷ [];
  } ∷ [];
}

abbrev pub one_link : Row
one_link = record {
  plant = (plants.one_link).plant;
  trail = 0 ∷ 1 ∷ [];
  switches = record {
    place = 0;
    ring = 0 ∷ 1 ∷ [];
    order = 0 ∷ [];
    probes = (0 ∷ 1 ∷ []) ∷ [];
    through = [] ∷ [];
  } ∷ record {
    place = 1;
    ring = 1 ∷ 0 ∷ [];
    order = 0 ∷ [];
    probes = (1 ∷ 0 ∷ []) ∷ [];
    through = [] ∷ [];
  } ∷ [];
}

abbrev pub three_parallel : Row
three_parallel = record {
  plant = (plants.three_parallel).plant;
  trail = 0 ∷ 3 ∷ 0 ∷ 5 ∷ [];
  switches = record {
    place = 0;
    ring = 0 ∷ 3 ∷ 0 ∷ 5 ∷ [];
    order = 0 ∷ 1 ∷ 2 ∷ [];
    probes = (0 ∷ 1 ∷ []) ∷ (0 ∷ 3 ∷ 2 ∷ 1 ∷ []) ∷ (0 ∷ 3 ∷ 0 ∷ 5 ∷ []) ∷ [];
    through = [] ∷ (1 ∷ []) ∷ (1 ∷ 2 ∷ []) ∷ [];
  } ∷ record {
    place = 1;
    ring = 3 ∷ 0 ∷ 5 ∷ 0 ∷ [];
    order = 1 ∷ 0 ∷ 2 ∷ [];
    probes = (3 ∷ 2 ∷ []) ∷ (3 ∷ 0 ∷ 1 ∷ 2 ∷ []) ∷ (3 ∷ 0 ∷ 5 ∷ 0 ∷ []) ∷ [];
    through = (1 ∷ []) ∷ [] ∷ (1 ∷ 2 ∷ []) ∷ [];
  } ∷ [];
}

abbrev pub alone : Row
alone = record {
  plant = (plants.alone).plant;
  trail = [];
  switches = record {
    place = 0;
    ring = [];
    order = [];
    probes = [];
    through = [];
  } ∷ [];
}

abbrev pub ring_with_tail : Row
ring_with_tail = record {
  plant = (plants.ring_with_tail).plant;
  trail = 0 ∷ 2 ∷ 4 ∷ 6 ∷ 7 ∷ [];
  switches = record {
    place = 0;
    ring = 0 ∷ 2 ∷ 4 ∷ 6 ∷ 7 ∷ [];
    order = 0 ∷ 1 ∷ 2 ∷ 3 ∷ [];
    probes = (0 ∷ 1 ∷ []) ∷ (0 ∷ 2 ∷ 3 ∷ 1 ∷ []) ∷ (0 ∷ 2 ∷ 4 ∷ 5 ∷ 3 ∷ 1 ∷ []) ∷ (0 ∷ 2 ∷ 4 ∷ 6 ∷ 7 ∷ []) ∷ [];
    through = [] ∷ (1 ∷ []) ∷ (1 ∷ 2 ∷ []) ∷ (1 ∷ 2 ∷ 3 ∷ []) ∷ [];
  } ∷ record {
    place = 1;
    ring = 2 ∷ 4 ∷ 6 ∷ 7 ∷ 0 ∷ [];
    order = 1 ∷ 2 ∷ 3 ∷ 0 ∷ [];
    probes = (2 ∷ 3 ∷ []) ∷ (2 ∷ 4 ∷ 5 ∷ 3 ∷ []) ∷ (2 ∷ 4 ∷ 6 ∷ 7 ∷ 5 ∷ 3 ∷ []) ∷ (2 ∷ 4 ∷ 6 ∷ 7 ∷ 0 ∷ []) ∷ [];
    through = (1 ∷ 2 ∷ 3 ∷ []) ∷ [] ∷ (1 ∷ []) ∷ (1 ∷ 2 ∷ []) ∷ [];
  } ∷ record {
    place = 2;
    ring = 4 ∷ 6 ∷ 7 ∷ 0 ∷ 2 ∷ [];
    order = 2 ∷ 3 ∷ 0 ∷ 1 ∷ [];
    probes = (4 ∷ 5 ∷ []) ∷ (4 ∷ 6 ∷ 7 ∷ 5 ∷ []) ∷ (4 ∷ 6 ∷ 7 ∷ 0 ∷ 1 ∷ 6 ∷ 7 ∷ 5 ∷ []) ∷ (4 ∷ 6 ∷ 7 ∷ 0 ∷ 2 ∷ []) ∷ [];
    through = (1 ∷ 2 ∷ []) ∷ (1 ∷ 2 ∷ 3 ∷ []) ∷ [] ∷ (1 ∷ []) ∷ [];
  } ∷ record {
    place = 4;
    ring = 7 ∷ 0 ∷ 2 ∷ 4 ∷ 6 ∷ [];
    order = 3 ∷ 0 ∷ 1 ∷ 2 ∷ [];
    probes = (7 ∷ 6 ∷ []) ∷ (7 ∷ 0 ∷ 1 ∷ 6 ∷ []) ∷ (7 ∷ 0 ∷ 2 ∷ 3 ∷ 1 ∷ 6 ∷ []) ∷ (7 ∷ 0 ∷ 2 ∷ 4 ∷ 6 ∷ []) ∷ [];
    through = (1 ∷ []) ∷ (1 ∷ 2 ∷ []) ∷ (1 ∷ 2 ∷ 3 ∷ []) ∷ [] ∷ [];
  } ∷ [];
}

abbrev pub table : List Row
table = triangle ∷ one_link ∷ three_parallel ∷ alone ∷ ring_with_tail ∷ []

pub as_expected : map (λ r. row_of r.plant r.trail) table ≡ table
unfolding switch_of run probe_run probe_rules probe_of order_of ring_of probe outward orders.order rings.ring rings.read_from rings.place least_from rules_for in_all opposite tail head live live_links count
as_expected = refl
