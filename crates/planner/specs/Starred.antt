-- The starred cases of document 01, a list of their own: each row has what the definitions answer, and what document 01 says. One computed
-- test over all rows. Bytes are in decimal. The other rows are in `Cases`. Assumes nothing.
use Rattle.std.specs.Prelude.{◌≡◌, refl, ℕ, take, replicate}
use mathlib.Core.List.{List, [], ◌∷◌, ◌++◌, map, flatten}
use Rattle.plant.specs.declared.Link.{Link}
use Rattle.plant.specs.Links.{plant_with, live}
use Rattle.answers.specs.Answers.{Answer, given, refused, ◌>>=◌}
use Rattle.answers.specs.Checks.{answer}
use Rattle.answers.specs.Tables.{agreed}
use Rattle.codec.specs.Part.{taken, value_of, redundant, map_missing, map_undefined, field_missing, field_redundant, field_values, after_part, part}
use Rattle.listing.specs.Listing.{value_out_of_range, end_out_of_range, self_link, bytes_remain, sound_link, header, link, links, with_links, linked, ended, reading, links_of}
use Rattle.lists.specs.Count.{count}
use Rattle.lists.specs.Least.{least_from}
use Rattle.walks.specs.Visit.{scan, visit}
use Rattle.walks.specs.Arcs.{tail, head}
use Rattle.walks.specs.Graph.{arcs, others, visit_from, bridge, used_from}
use Rattle.walks.specs.Components.{root_of, begun_at, roots, used}
use Rattle.routes.specs.Distance.{sources, within, dist, hop, hops, route}
use Rattle.routes.specs.Trail.{near, nearest, legs, trail}
use Rattle.plan.specs.Plan.{trails_of}
use Rattle.table.specs.Rules.{table_with, rules_in}
use Rattle.search.specs.Search.{new_search, ask, give}
use Rattle.search.specs.Calls.{begun}
use Rattle.search.specs.Cases.{starred as searches}
use Rattle.quantity.specs.Quantity.{spare_above, order_quantity}
use Rattle.quantity.specs.Cases.{rows as quantities}
use Rattle.planner.specs.Calls.{tabling, places_short, laying, laid_out, trailing}

pub record Row : Type 0 where
  pub got : Answer (List ℕ)
  pub said : Answer (List ℕ)

-- ---- what a row can be of

-- reading: switch count, link count, start, and the ends and tag of each link
abbrev ends_of : List Link → List ℕ
ends_of [] = []
ends_of (l ∷ ls) = l.first ∷ l.second ∷ l.tag ∷ ends_of ls

abbrev pub reads : List ℕ → Answer (List ℕ) → Row
reads s a = record { got = answer (reading s) >>= λ p. given (p.switches ∷ p.count ∷ p.start ∷ ends_of (links_of p)); said = a }

-- planning: the number of rules, and the trails in a buffer of so many places
abbrev pub tables : List ℕ → Answer (List ℕ) → Row
tables s a = record { got = answer (tabling s) >>= λ t. given (t.count ∷ []); said = a }

abbrev pub trails : List ℕ → ℕ → Answer (List ℕ) → Row
trails s places a = record { got = answer (trailing s (replicate places 0)) >>= λ n. given (take n (laid_out s (replicate places 0))); said = a }

-- the search and the order quantity, whose rows are in their own crates
abbrev pub as_row : Answer (List ℕ) × Answer (List ℕ) → Row
as_row r = record { got = r.0; said = r.1 }

-- ---- the plants

abbrev pub two_switches : List ℕ
two_switches = 3 ∷ 2 ∷ 1 ∷ 0 ∷ 2 ∷ 1 ∷ []

abbrev pub triangle : List ℕ
triangle = 3 ∷ 3 ∷ 3 ∷ 0 ∷ 2 ∷ 1 ∷ 3 ∷ 1 ∷ 2 ∷ 3 ∷ 2 ∷ 0 ∷ []

abbrev pub three_parallel : List ℕ
three_parallel = 3 ∷ 2 ∷ 3 ∷ 0 ∷ 2 ∷ 1 ∷ 0 ∷ 0 ∷ []

-- ---- the rows, and the test

abbrev starred : List Row
starred =
    -- "empty input: 1"
    reads [] (refused 1)
    -- "`00`: one switch, no links, empty trail, 0 rules"
    ∷ reads (0 ∷ []) (given (1 ∷ 0 ∷ 0 ∷ []))
    ∷ trails (0 ∷ []) 0 (given [])
    ∷ tables (0 ∷ []) (given (0 ∷ []))
    -- "`08`: 2", "`01`: 3", "`01 01`: 4", "`00 00`: 8"
    ∷ reads (8 ∷ []) (refused 2)
    ∷ reads (1 ∷ []) (refused 3)
    ∷ reads (1 ∷ 1 ∷ []) (refused 4)
    ∷ reads (0 ∷ 0 ∷ []) (refused 8)
    -- "two switches, one link: trail 0 1; 2 rules"
    ∷ reads two_switches (given (2 ∷ 1 ∷ 0 ∷ 0 ∷ 1 ∷ 0 ∷ []))
    ∷ trails two_switches 2 (given (0 ∷ 1 ∷ []))
    ∷ tables two_switches (given (2 ∷ []))
    -- "triangle: trail 0 2 4; 3 rules"
    ∷ reads triangle (given (3 ∷ 3 ∷ 0 ∷ 0 ∷ 1 ∷ 0 ∷ 1 ∷ 2 ∷ 0 ∷ 2 ∷ 0 ∷ 0 ∷ []))
    ∷ trails triangle 3 (given (0 ∷ 2 ∷ 4 ∷ []))
    ∷ tables triangle (given (3 ∷ []))
    -- "three parallel links: trail 0 3 0 5; 3 rules. A buffer of 3 places: 10; of 4: accepted"
    ∷ reads three_parallel (given (2 ∷ 3 ∷ 0 ∷ 0 ∷ 1 ∷ 0 ∷ 0 ∷ 1 ∷ 0 ∷ 0 ∷ 1 ∷ 0 ∷ []))
    ∷ trails three_parallel 3 (refused 10)
    ∷ trails three_parallel 4 (given (0 ∷ 3 ∷ 0 ∷ 5 ∷ []))
    ∷ tables three_parallel (given (3 ∷ []))
    -- "E = 1 takes one probe; E = 3 at most three"; "A = 5, p = 10 gives 6; p = 0 gives 5. p = 101: 17"
    ∷ map as_row (searches ++ quantities)

as_said : map (λ r. r.got) starred ≡ map (λ r. r.said) starred
unfolding plant_with taken value_of redundant map_missing map_undefined field_missing field_redundant field_values after_part part value_out_of_range end_out_of_range self_link bytes_remain sound_link header link links with_links linked ended reading trail legs nearest near route hops hop dist within sources least_from count used_from bridge visit_from arcs others visit scan tail head live root_of begun_at roots used flatten trails_of rules_in table_with tabling places_short laying laid_out trailing begun new_search ask give order_quantity spare_above
as_said = agreed (λ r. r.got) (λ r. r.said) starred refl
