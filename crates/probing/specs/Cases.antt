-- The calls on the triangle of document 01, whose trail is 0 2 4, on that of document 02's order 7, whose last link is out of service, and on plants in several components
-- (order 9): each row has what the definitions answer in its plant, and what is expected. Every refusal from 11 on occurs, and where two conditions hold the lower
-- number is answered. One computed test over all rows. Assumes nothing.
use Rattle.std.specs.Prelude.{◌≡◌, refl, ℕ, take}
use mathlib.Core.List.{List, [], ◌∷◌, map, flatten}
use Rattle.lists.specs.Count.{bit, count}
use Rattle.lists.specs.Numbers.{every}
use Rattle.lists.specs.Least.{least_from}
use Rattle.plant.specs.declared.Plant.{Plant}
use Rattle.plant.specs.Links.{plant_with, live}
use Rattle.answers.specs.Answers.{Answer, given, refused, ◌>>=◌}
use Rattle.walks.specs.Visit.{scan, visit}
use Rattle.walks.specs.Arcs.{opposite, tail, head}
use Rattle.walks.specs.Graph.{arcs, others, visit_from, bridge, used_from, links_from}
use Rattle.walks.specs.Components.{root_of, begun_at, roots, component_of, links_with, used}
use Rattle.routes.specs.Distance.{sources, within, dist, hop, hops, route}
use Rattle.routes.specs.Trail.{near, nearest, legs, trail}
use Rattle.plan.specs.Plan.{trails_of}
use Rattle.rings.specs.Packet.{End, run, rules_for}
use Rattle.rings.specs.Rules.{up_by, in_all}
use Rattle.rings.specs.Ring.{read_from, place, ring}
use Rattle.rings.specs.Order as orders
use Rattle.rings.specs.Probe.{outward, probe}
use Rattle.rings.specs.Injection.{probe_rules, ring_of, order_of, probe_of, probe_run}
use Rattle.rings.specs.Parts.{out, out_stretch, out_front}
use Rattle.codec.specs.Part.{taken, value_of, redundant, map_missing, map_undefined, field_missing, field_redundant, field_values, after_part, part}
use Rattle.listing.specs.Listing as listing
use Rattle.trail.specs.Filled.{begins_with}
use Rattle.order.specs.Order.{listed}
use Rattle.order.specs.Span.{ring_span, span_of, shifted_by}
use Rattle.search.specs.declared.Search.{Search}
use Rattle.search.specs.declared.Search.TheVariants.{Checking, Halving, AllUp, Down}
use Rattle.search.specs.declared.Outcome.{Outcome}
use Rattle.search.specs.declared.Outcome.TheVariants.{Returned, Lost}
use Rattle.packet.specs.Outcome.{outcome_of}
use Rattle.search.specs.Search.{new_search}
use Rattle.planning.specs.Planning.{planning_at, switch_out_of_range}
use Rattle.answers.specs.Checks.{answer}
use Rattle.judging.specs.Conditions.{trail_differs, states_short, search_unsound}
use Rattle.probing.specs.Calls.{run_in, check_in, order_in, own_span, out_span, outward_in, probe_in, Name, link, none, unknown, name_in, beginning}

pub record Row : Type 0 where
  pub got : Plant → Answer (List ℕ)
  pub said : Answer (List ℕ)

abbrev triangle : List ℕ
triangle = 3 ∷ 3 ∷ 3 ∷ 0 ∷ 2 ∷ 1 ∷ 3 ∷ 1 ∷ 2 ∷ 3 ∷ 2 ∷ 0 ∷ []

-- the trail, and state bytes: all up, link 0, 1 or 2 down, a byte missing, a byte too many
abbrev whole : List ℕ
whole = 0 ∷ 2 ∷ 4 ∷ []

abbrev all_up : List ℕ
all_up = 1 ∷ 1 ∷ 255 ∷ []

abbrev down0 : List ℕ
down0 = 0 ∷ 1 ∷ 1 ∷ []

abbrev down1 : List ℕ
down1 = 1 ∷ 0 ∷ 1 ∷ []

abbrev down2 : List ℕ
down2 = 1 ∷ 1 ∷ 0 ∷ []

abbrev short : List ℕ
short = 1 ∷ 1 ∷ []

abbrev long : List ℕ
long = 1 ∷ 1 ∷ 1 ∷ 0 ∷ []

-- ---- the refusals of the plant, with which each call begins

abbrev at : List ℕ → ℕ → Answer (List ℕ) → Row
at s x a = record { got = λ _. answer (planning_at s x) >>= λ p. given (x ∷ []); said = a }

-- ---- the calls in the plant: 1 if the packet ended or the probe returned, and else 0, then the hops made and the switch last reached

abbrev runs : ℕ → List ℕ → List ℕ → Answer (List ℕ) → Row
runs x labels states a = record { got = λ p. answer (run_in x labels states p) >>= λ e. given (bit e.ended ∷ e.hops ∷ e.last ∷ []); said = a }

abbrev home : Outcome → ℕ
home Returned = 1
home Lost = 0

abbrev came : End → List ℕ
came e = home (outcome_of e) ∷ e.hops ∷ e.last ∷ []

abbrev checks : ℕ → List ℕ → List ℕ → Answer (List ℕ) → Row
checks x w states a = record { got = λ p. answer (check_in x w states p) >>= λ e. given (came e); said = a }

abbrev lists : ℕ → List ℕ → Answer (List ℕ) → Row
lists x w a = record { got = λ p. answer (order_in x w p) >>= λ o. given (take o.count o.links); said = a }

-- the place, and the lengths of the two parts; and with the place where the second begins
abbrev goes : ℕ → List ℕ → Search → Answer (List ℕ) → Row
goes x w q a = record { got = λ p. answer (outward_in x w q p) >>= λ b. given (b.from ∷ b.len ∷ b.front ∷ []); said = a }

abbrev stands : ℕ → List ℕ → Search → Answer (List ℕ) → Row
stands x w q a = record { got = λ p. answer (outward_in x w q p) >>= λ b. given (b.from ∷ b.len ∷ b.begin ∷ b.front ∷ []); said = a }

abbrev probes : ℕ → List ℕ → List ℕ → Search → Answer (List ℕ) → Row
probes x w states q a = record { got = λ p. answer (probe_in x w states q p) >>= λ e. given (came e); said = a }

-- the link, or nothing if there is none, or twice 0 if the search has not ended
abbrev told : Name → List ℕ
told (link l) = l ∷ []
told none = []
told unknown = 0 ∷ 0 ∷ []

abbrev names : ℕ → List ℕ → Search → Answer (List ℕ) → Row
names x w q a = record { got = λ p. answer (name_in x w q p) >>= λ n. given (told n); said = a }

-- a new search: its numbers, and none if all is up
abbrev state : Search → List ℕ
state (Checking count lost) = count ∷ lost ∷ []
state (Halving low high lost) = low ∷ high ∷ lost ∷ []
state AllUp = []
state (Down place) = place ∷ []

abbrev begins : List ℕ → ℕ → Answer (List ℕ) → Row
begins s x a = record { got = λ _. answer (beginning s x) >>= λ q. given (state q); said = a }

-- ---- one component

abbrev table : List Row
table =
    at triangle 2 (given (2 ∷ []))
    ∷ at triangle 3 (refused 11)
    ∷ runs 0 whole all_up (given (1 ∷ 3 ∷ 0 ∷ []))
    ∷ runs 0 whole down0 (given (0 ∷ 0 ∷ 0 ∷ []))
    ∷ runs 0 whole down1 (given (0 ∷ 1 ∷ 1 ∷ []))
    ∷ runs 0 whole down2 (given (0 ∷ 2 ∷ 2 ∷ []))
    ∷ runs 0 whole long (given (1 ∷ 3 ∷ 0 ∷ []))
    ∷ runs 0 (0 ∷ 2 ∷ []) all_up (given (1 ∷ 2 ∷ 2 ∷ []))
    ∷ runs 1 [] all_up (given (1 ∷ 0 ∷ 1 ∷ []))
    ∷ runs 1 (1 ∷ []) all_up (given (0 ∷ 0 ∷ 1 ∷ []))
    ∷ runs 0 (0 ∷ 4 ∷ []) all_up (given (0 ∷ 1 ∷ 1 ∷ []))
    ∷ runs 0 (0 ∷ 6 ∷ []) all_up (given (0 ∷ 1 ∷ 1 ∷ []))
    ∷ runs 0 whole short (refused 13)
    ∷ checks 1 whole all_up (given (1 ∷ 3 ∷ 1 ∷ []))
    ∷ checks 1 whole down1 (given (0 ∷ 0 ∷ 1 ∷ []))
    ∷ checks 1 whole down0 (given (0 ∷ 2 ∷ 0 ∷ []))
    ∷ checks 1 (0 ∷ 2 ∷ []) short (refused 12)
    ∷ checks 1 (0 ∷ 2 ∷ 4 ∷ 0 ∷ []) all_up (refused 12)
    ∷ checks 1 whole short (refused 13)
    ∷ lists 1 whole (given (1 ∷ 2 ∷ 0 ∷ []))
    ∷ lists 1 [] (refused 12)
    ∷ goes 1 whole (Checking 3 0) (given (1 ∷ 2 ∷ 1 ∷ []))
    ∷ goes 1 whole (Halving 1 3 0) (given (1 ∷ 2 ∷ 0 ∷ []))
    ∷ goes 2 whole (Halving 1 3 0) (given (2 ∷ 1 ∷ 1 ∷ []))
    ∷ goes 1 [] (Checking 2 0) (refused 12)
    ∷ goes 1 whole (Checking 2 0) (refused 14)
    ∷ goes 1 whole (Halving 1 4 0) (refused 14)
    ∷ goes 1 whole (Halving 2 2 0) (refused 14)
    ∷ goes 1 whole (Checking 3 2) (given (1 ∷ 2 ∷ 1 ∷ []))
    ∷ goes 1 whole (Checking 3 3) (refused 14)
    ∷ goes 1 whole (Halving 1 3 3) (refused 14)
    ∷ goes 1 whole (Down 4) (refused 14)
    ∷ goes 1 whole (Down 3) (refused 15)
    ∷ goes 1 whole AllUp (refused 15)
    ∷ probes 1 whole down0 (Halving 1 3 0) (given (1 ∷ 4 ∷ 1 ∷ []))
    ∷ probes 1 whole down1 (Halving 1 3 0) (given (0 ∷ 0 ∷ 1 ∷ []))
    ∷ probes 1 whole down2 (Halving 1 3 0) (given (0 ∷ 1 ∷ 2 ∷ []))
    ∷ probes 1 whole down0 (Checking 3 0) (given (0 ∷ 2 ∷ 0 ∷ []))
    ∷ probes 1 [] short AllUp (refused 12)
    ∷ probes 1 whole short (Checking 0 0) (refused 13)
    ∷ probes 1 whole all_up (Checking 0 0) (refused 14)
    ∷ probes 1 whole down1 (Halving 1 3 2) (given (0 ∷ 0 ∷ 1 ∷ []))
    ∷ probes 1 whole all_up (Halving 1 3 255) (refused 14)
    ∷ probes 1 whole all_up AllUp (refused 15)
    ∷ names 1 whole (Down 3) (given (0 ∷ []))
    ∷ names 2 whole (Down 3) (given (1 ∷ []))
    ∷ names 1 whole AllUp (given [])
    ∷ names 1 whole (Halving 1 3 0) (given (0 ∷ 0 ∷ []))
    ∷ names 1 whole (Halving 1 3 2) (given (0 ∷ 0 ∷ []))
    ∷ names 1 whole (Halving 1 3 3) (refused 14)
    ∷ names 1 [] (Down 0) (refused 12)
    ∷ names 1 whole (Down 0) (refused 14)
    ∷ names 1 whole (Down 4) (refused 14)
    ∷ []

-- the triangle with link 2 out of service: E is 2, and there are three state bytes
abbrev open_triangle : List ℕ
open_triangle = 3 ∷ 3 ∷ 3 ∷ 0 ∷ 2 ∷ 1 ∷ 3 ∷ 1 ∷ 2 ∷ 11 ∷ 2 ∷ 0 ∷ []

abbrev there : List ℕ
there = 0 ∷ 1 ∷ 0 ∷ 2 ∷ 3 ∷ 1 ∷ []

abbrev open_table : List Row
open_table =
    runs 0 there all_up (given (1 ∷ 6 ∷ 0 ∷ []))
    ∷ runs 0 there down2 (given (1 ∷ 6 ∷ 0 ∷ []))
    ∷ runs 0 there down1 (given (0 ∷ 3 ∷ 1 ∷ []))
    ∷ runs 0 (5 ∷ []) all_up (given (0 ∷ 0 ∷ 0 ∷ []))
    ∷ runs 0 there short (refused 13)
    ∷ checks 2 there down2 (given (1 ∷ 6 ∷ 2 ∷ []))
    ∷ checks 0 whole all_up (refused 12)
    ∷ checks 0 there short (refused 13)
    ∷ lists 0 there (given (0 ∷ 1 ∷ []))
    ∷ lists 2 there (given (1 ∷ 0 ∷ []))
    ∷ goes 0 there (Checking 2 0) (given (0 ∷ 6 ∷ 0 ∷ []))
    ∷ goes 0 there (Checking 3 0) (refused 14)
    ∷ goes 0 there (Halving 1 3 0) (refused 14)
    ∷ probes 0 there (1 ∷ 0 ∷ 0 ∷ []) (Halving 1 2 0) (given (1 ∷ 2 ∷ 0 ∷ []))
    ∷ probes 2 there (0 ∷ 1 ∷ 0 ∷ []) (Checking 2 0) (given (0 ∷ 1 ∷ 1 ∷ []))
    ∷ probes 0 there short (Checking 3 0) (refused 13)
    ∷ names 0 there (Down 2) (given (1 ∷ []))
    ∷ names 2 there (Down 2) (given (0 ∷ []))
    ∷ names 0 there (Down 3) (refused 14)
    ∷ []

-- ---- several components

-- a pair of switches, 3 and 4, joined by link 3, with the start, 4; the triangle; and the switch 5 alone. State bytes: all up, and some links down
abbrev apart : List ℕ
apart = 7 ∷ 6 ∷ 4 ∷ 0 ∷ 4 ∷ 2 ∷ 1 ∷ 3 ∷ 1 ∷ 2 ∷ 3 ∷ 2 ∷ 0 ∷ 3 ∷ 3 ∷ 4 ∷ []

abbrev joined : List ℕ
joined = 7 ∷ 6 ∷ 0 ∷ 2 ∷ 4 ∷ []

abbrev up4 : List ℕ
up4 = 1 ∷ 1 ∷ 1 ∷ 1 ∷ []

abbrev cut0 : List ℕ
cut0 = 0 ∷ 1 ∷ 1 ∷ 1 ∷ []

abbrev cut2 : List ℕ
cut2 = 1 ∷ 1 ∷ 0 ∷ 1 ∷ []

abbrev cut3 : List ℕ
cut3 = 1 ∷ 1 ∷ 1 ∷ 0 ∷ []

abbrev cut_all : List ℕ
cut_all = 0 ∷ 0 ∷ 0 ∷ 0 ∷ []

abbrev apart_table : List Row
apart_table =
    at apart 5 (given (5 ∷ []))
    ∷ at apart 6 (refused 11)
    ∷ runs 4 (7 ∷ 6 ∷ []) cut0 (given (1 ∷ 2 ∷ 4 ∷ []))
    ∷ runs 1 (2 ∷ 4 ∷ 0 ∷ []) cut3 (given (1 ∷ 3 ∷ 1 ∷ []))
    ∷ runs 3 (6 ∷ 0 ∷ []) up4 (given (0 ∷ 1 ∷ 4 ∷ []))
    ∷ runs 1 (2 ∷ 4 ∷ 0 ∷ []) all_up (refused 13)
    ∷ checks 4 joined up4 (given (1 ∷ 2 ∷ 4 ∷ []))
    ∷ checks 4 joined cut0 (given (1 ∷ 2 ∷ 4 ∷ []))
    ∷ checks 4 joined cut3 (given (0 ∷ 0 ∷ 4 ∷ []))
    ∷ checks 3 joined cut2 (given (1 ∷ 2 ∷ 3 ∷ []))
    ∷ checks 1 joined up4 (given (1 ∷ 3 ∷ 1 ∷ []))
    ∷ checks 1 joined cut3 (given (1 ∷ 3 ∷ 1 ∷ []))
    ∷ checks 1 joined cut0 (given (0 ∷ 2 ∷ 0 ∷ []))
    ∷ checks 5 joined cut_all (given (1 ∷ 0 ∷ 5 ∷ []))
    ∷ checks 4 (7 ∷ 6 ∷ []) up4 (refused 12)
    ∷ checks 1 whole up4 (refused 12)
    ∷ checks 1 (0 ∷ 2 ∷ 4 ∷ 7 ∷ 6 ∷ []) up4 (refused 12)
    ∷ checks 5 [] up4 (refused 12)
    ∷ checks 4 joined all_up (refused 13)
    ∷ checks 5 joined all_up (refused 13)
    ∷ lists 4 joined (given (3 ∷ []))
    ∷ lists 0 joined (given (0 ∷ 1 ∷ 2 ∷ []))
    ∷ lists 1 joined (given (1 ∷ 2 ∷ 0 ∷ []))
    ∷ lists 5 joined (given [])
    ∷ lists 1 whole (refused 12)
    ∷ stands 4 joined (Checking 1 0) (given (0 ∷ 2 ∷ 0 ∷ 0 ∷ []))
    ∷ stands 3 joined (Checking 1 0) (given (1 ∷ 1 ∷ 0 ∷ 1 ∷ []))
    ∷ stands 0 joined (Checking 3 0) (given (2 ∷ 3 ∷ 2 ∷ 0 ∷ []))
    ∷ stands 1 joined (Checking 3 0) (given (3 ∷ 2 ∷ 2 ∷ 1 ∷ []))
    ∷ stands 1 joined (Halving 1 3 0) (given (3 ∷ 2 ∷ 2 ∷ 0 ∷ []))
    ∷ stands 2 joined (Halving 1 3 0) (given (4 ∷ 1 ∷ 2 ∷ 1 ∷ []))
    ∷ stands 1 joined (Checking 4 0) (refused 14)
    ∷ stands 1 joined (Checking 1 0) (refused 14)
    ∷ stands 1 joined (Halving 1 4 0) (refused 14)
    ∷ stands 4 joined (Checking 4 0) (refused 14)
    ∷ stands 4 joined (Checking 3 0) (refused 14)
    ∷ stands 4 joined (Down 2) (refused 14)
    ∷ stands 5 joined (Checking 1 0) (refused 14)
    ∷ stands 5 joined AllUp (refused 15)
    ∷ stands 1 whole (Checking 3 0) (refused 12)
    ∷ probes 4 joined cut0 (Checking 1 0) (given (1 ∷ 2 ∷ 4 ∷ []))
    ∷ probes 4 joined cut3 (Checking 1 0) (given (0 ∷ 0 ∷ 4 ∷ []))
    ∷ probes 1 joined cut3 (Checking 3 0) (given (1 ∷ 3 ∷ 1 ∷ []))
    ∷ probes 1 joined cut3 (Halving 1 3 0) (given (1 ∷ 4 ∷ 1 ∷ []))
    ∷ probes 1 joined cut0 (Halving 1 3 0) (given (1 ∷ 4 ∷ 1 ∷ []))
    ∷ probes 1 joined cut2 (Halving 1 3 0) (given (0 ∷ 1 ∷ 2 ∷ []))
    ∷ probes 1 whole up4 (Checking 3 0) (refused 12)
    ∷ probes 1 joined all_up (Checking 3 0) (refused 13)
    ∷ probes 1 joined up4 (Checking 4 0) (refused 14)
    ∷ probes 4 joined up4 (Checking 3 0) (refused 14)
    ∷ probes 5 joined up4 AllUp (refused 15)
    ∷ names 4 joined (Down 1) (given (3 ∷ []))
    ∷ names 1 joined (Down 3) (given (0 ∷ []))
    ∷ names 2 joined (Down 2) (given (0 ∷ []))
    ∷ names 4 joined AllUp (given [])
    ∷ names 5 joined AllUp (given [])
    ∷ names 1 joined (Halving 1 3 0) (given (0 ∷ 0 ∷ []))
    ∷ names 4 joined (Down 2) (refused 14)
    ∷ names 1 joined (Down 4) (refused 14)
    ∷ names 5 joined (Down 1) (refused 14)
    ∷ names 1 whole (Down 3) (refused 12)
    ∷ begins apart 4 (given (1 ∷ 0 ∷ []))
    ∷ begins apart 1 (given (3 ∷ 0 ∷ []))
    ∷ begins apart 5 (given [])
    ∷ begins apart 6 (refused 11)
    ∷ []

-- two switches whose one link is out of service: two components without links, and a state byte
abbrev laid_up : List ℕ
laid_up = 3 ∷ 2 ∷ 1 ∷ 0 ∷ 10 ∷ 1 ∷ []

abbrev laid_up_table : List Row
laid_up_table =
    checks 1 [] (0 ∷ []) (given (1 ∷ 0 ∷ 1 ∷ []))
    ∷ checks 1 [] [] (refused 13)
    ∷ lists 0 [] (given [])
    ∷ goes 0 [] (Checking 1 0) (refused 14)
    ∷ names 0 [] AllUp (given [])
    ∷ names 0 [] (Down 1) (refused 14)
    ∷ begins laid_up 1 (given [])
    ∷ []

-- ---- the test

abbrev tables : List (List ℕ × List Row)
tables = (triangle, table) ∷ (open_triangle, open_table) ∷ (apart, apart_table) ∷ (laid_up, laid_up_table) ∷ []

as_said : map (λ t. answer (listing.reading t.0) >>= λ p. given (map (λ r. r.got p) t.1)) tables ≡ map (λ t. given (map (λ r. r.said) t.1)) tables
unfolding run_in check_in order_in outward_in own_span out_span probe_in name_in beginning new_search switch_out_of_range trail_differs states_short search_unsound planning_at root_of begun_at roots component_of links_with used trails_of flatten ring_span span_of shifted_by listed begins_with plant_with taken value_of redundant map_missing map_undefined field_missing field_redundant field_values after_part part listing.value_out_of_range listing.end_out_of_range listing.self_link listing.bytes_remain listing.sound_link listing.header listing.link listing.links listing.with_links listing.linked listing.ended listing.reading out out_stretch out_front run probe_rules ring_of order_of probe_of probe_run probe outward orders.order read_from place ring up_by in_all rules_for trail legs nearest near route hops hop dist within sources arcs others visit_from bridge used_from links_from opposite tail head scan visit live least_from count every
as_said = refl
