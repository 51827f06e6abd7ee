-- The calls of document 02's order 6 on plants of one component: a triangle, whose trail is shorter than its round trail, one link, whose two trails are equally long, three
-- switches in a row, whose round trail is shorter, and the triangle of order 7, with a link out of service; and on two plants of several components. Each row has what the
-- definitions answer, and what is expected. One computed test over all rows. Assumes nothing.
use Rattle.std.specs.Prelude.{◌≡◌, refl, ℕ, replicate}
use mathlib.Core.List.{List, [], ◌∷◌, ◌++◌, map, flatten}
use Rattle.lists.specs.Count.{bit, count}
use Rattle.lists.specs.Numbers.{every}
use Rattle.lists.specs.Least.{least_from}
use Rattle.plant.specs.Links.{plant_with, live}
use Rattle.answers.specs.Answers.{Answer, given, refused, ◌>>=◌}
use Rattle.answers.specs.Checks.{answer}
use Rattle.walks.specs.Visit.{scan, visit}
use Rattle.walks.specs.Arcs.{opposite, tail, head}
use Rattle.walks.specs.Graph.{arcs, others, visit_from, bridge, used_from}
use Rattle.walks.specs.Components.{root_of, begun_at, roots, component_of}
use Rattle.walks.specs.Round.{walk_at, tour, round_from}
use Rattle.routes.specs.Distance.{sources, within, dist, hop, hops, route}
use Rattle.routes.specs.Trail.{near, nearest, legs, trail}
use Rattle.plan.specs.Plan.{trails_of, rounds_of}
use Rattle.rings.specs.Packet.{run, rules_for}
use Rattle.rings.specs.Rules.{up_by, in_all}
use Rattle.rings.specs.Ring.{read_from, place, ring}
use Rattle.rings.specs.Injection.{ring_of}
use Rattle.rings.specs.Round.{round_run}
use Rattle.choosing.specs.declared.Choice.{Choice}
use Rattle.choosing.specs.declared.Choice.TheVariants.{Trail, Round}
use Rattle.choosing.specs.Choice.{choice_of, hops_in}
use Rattle.codec.specs.Part.{taken, value_of, redundant, map_missing, map_undefined, field_missing, field_redundant, field_values, after_part, part}
use Rattle.listing.specs.Listing as listing
use Rattle.trail.specs.Filled.{begins_with}
use Rattle.planning.specs.Planning.{planning_at, switch_out_of_range}
use Rattle.judging.specs.Conditions.{hops_differ, states_short}
use Rattle.probing.specs.Calls.{round_in, round_running, choice_in, choosing}

pub record Row : Type 0 where
  pub got : Answer (List ℕ)
  pub said : Answer (List ℕ)

abbrev triangle : List ℕ
triangle = 3 ∷ 3 ∷ 3 ∷ 0 ∷ 2 ∷ 1 ∷ 3 ∷ 1 ∷ 2 ∷ 3 ∷ 2 ∷ 0 ∷ []

abbrev one_link : List ℕ
one_link = 3 ∷ 2 ∷ 1 ∷ 0 ∷ 2 ∷ 1 ∷ []

abbrev in_row : List ℕ
in_row = 3 ∷ 3 ∷ 2 ∷ 0 ∷ 2 ∷ 1 ∷ 3 ∷ 1 ∷ 2 ∷ []

-- the triangle with link 2 out of service: its trail and its round trail are those of `in_row`, and there are six state bytes
abbrev open_triangle : List ℕ
open_triangle = 3 ∷ 3 ∷ 3 ∷ 0 ∷ 2 ∷ 1 ∷ 3 ∷ 1 ∷ 2 ∷ 11 ∷ 2 ∷ 0 ∷ []

-- the round trail of the triangle, and state bytes: all six up, and label 3 alone down
abbrev whole : List ℕ
whole = 0 ∷ 2 ∷ 4 ∷ 5 ∷ 3 ∷ 1 ∷ []

abbrev all_up : List ℕ
all_up = 1 ∷ 1 ∷ 255 ∷ 1 ∷ 1 ∷ 7 ∷ []

abbrev down3 : List ℕ
down3 = 1 ∷ 1 ∷ 1 ∷ 0 ∷ 1 ∷ 1 ∷ []

-- ---- the round run: 1 if the packet is home, and else 0, then the hops made and the switch last reached

abbrev rounds : List ℕ → ℕ → List ℕ → List ℕ → Answer (List ℕ) → Row
rounds s x w states a = record { got = answer (round_running s x w states) >>= λ e. given (bit e.ended ∷ e.hops ∷ e.last ∷ []); said = a }

-- ---- the shorter of two lent trails, from switch x: 0 for the trail, 1 for the round trail, and the part of it that is handed back

abbrev which : Choice → ℕ
which (Trail k n) = 0
which (Round k n) = 1

abbrev picks : List ℕ → ℕ → List ℕ → List ℕ → Answer (List ℕ) → Row
picks s x w v a = record { got = answer (choosing s x w v) >>= λ c. given (which c ∷ hops_in w v c); said = a }

-- ---- one component

abbrev table : List Row
table =
    rounds triangle 0 whole all_up (given (1 ∷ 6 ∷ 0 ∷ []))
    ∷ rounds triangle 1 whole all_up (given (1 ∷ 6 ∷ 1 ∷ []))
    ∷ rounds triangle 0 whole down3 (given (0 ∷ 4 ∷ 2 ∷ []))
    ∷ rounds triangle 1 whole down3 (given (0 ∷ 3 ∷ 2 ∷ []))
    ∷ rounds triangle 1 (whole ++ (9 ∷ 9 ∷ [])) (all_up ++ (0 ∷ [])) (given (1 ∷ 6 ∷ 1 ∷ []))
    ∷ rounds triangle 3 [] [] (refused 11)
    ∷ rounds triangle 0 (0 ∷ 2 ∷ 4 ∷ 5 ∷ 3 ∷ []) [] (refused 12)
    ∷ rounds triangle 0 (0 ∷ 2 ∷ 4 ∷ 5 ∷ 3 ∷ 0 ∷ []) all_up (refused 12)
    ∷ rounds triangle 0 (0 ∷ 2 ∷ 4 ∷ []) all_up (refused 12)
    ∷ rounds triangle 0 whole (replicate 5 1) (refused 13)
    ∷ rounds triangle 0 whole (replicate 3 1) (refused 13)
    ∷ rounds open_triangle 0 (0 ∷ 2 ∷ 3 ∷ 1 ∷ []) (1 ∷ 1 ∷ 1 ∷ 1 ∷ 0 ∷ 0 ∷ []) (given (1 ∷ 4 ∷ 0 ∷ []))
    ∷ rounds open_triangle 2 (0 ∷ 2 ∷ 3 ∷ 1 ∷ []) down3 (given (0 ∷ 0 ∷ 2 ∷ []))
    ∷ rounds open_triangle 0 whole all_up (refused 12)
    ∷ rounds open_triangle 0 (0 ∷ 2 ∷ 3 ∷ 1 ∷ []) (replicate 4 1) (refused 13)
    ∷ picks triangle 2 (0 ∷ 2 ∷ 4 ∷ []) whole (given (0 ∷ 0 ∷ 2 ∷ 4 ∷ []))
    ∷ picks triangle 2 (0 ∷ 2 ∷ 4 ∷ 7 ∷ 7 ∷ 7 ∷ 7 ∷ []) whole (given (0 ∷ 0 ∷ 2 ∷ 4 ∷ []))
    ∷ picks one_link 1 (0 ∷ 1 ∷ 7 ∷ []) (0 ∷ 1 ∷ []) (given (0 ∷ 0 ∷ 1 ∷ []))
    ∷ picks in_row 0 (0 ∷ 1 ∷ 0 ∷ 2 ∷ 3 ∷ 1 ∷ []) (0 ∷ 2 ∷ 3 ∷ 1 ∷ []) (given (1 ∷ 0 ∷ 2 ∷ 3 ∷ 1 ∷ []))
    ∷ picks in_row 0 (0 ∷ 1 ∷ 0 ∷ 2 ∷ 3 ∷ 1 ∷ []) (0 ∷ 2 ∷ 3 ∷ 1 ∷ 8 ∷ 8 ∷ 8 ∷ []) (given (1 ∷ 0 ∷ 2 ∷ 3 ∷ 1 ∷ []))
    ∷ picks open_triangle 0 (0 ∷ 1 ∷ 0 ∷ 2 ∷ 3 ∷ 1 ∷ []) (0 ∷ 2 ∷ 3 ∷ 1 ∷ []) (given (1 ∷ 0 ∷ 2 ∷ 3 ∷ 1 ∷ []))
    ∷ picks (0 ∷ []) 0 [] [] (given (0 ∷ []))
    ∷ picks in_row 3 [] [] (refused 11)
    ∷ picks in_row 0 (0 ∷ 1 ∷ 0 ∷ 2 ∷ 3 ∷ []) (0 ∷ 2 ∷ 3 ∷ 1 ∷ []) (refused 12)
    ∷ picks in_row 0 (0 ∷ 1 ∷ 0 ∷ 2 ∷ 3 ∷ 1 ∷ []) (0 ∷ 2 ∷ 3 ∷ 0 ∷ []) (refused 12)
    ∷ []

-- ---- several components

-- a pair of switches, 3 and 4, joined by link 3, with the start, 4; the triangle; and the switch 5 alone
abbrev apart : List ℕ
apart = 7 ∷ 6 ∷ 4 ∷ 0 ∷ 4 ∷ 2 ∷ 1 ∷ 3 ∷ 1 ∷ 2 ∷ 3 ∷ 2 ∷ 0 ∷ 3 ∷ 3 ∷ 4 ∷ []

-- their trails and their round trails, one after another, and state bytes: all eight up, label 3 or 7 alone down
abbrev joined : List ℕ
joined = 7 ∷ 6 ∷ 0 ∷ 2 ∷ 4 ∷ []

abbrev joined_rounds : List ℕ
joined_rounds = 7 ∷ 6 ∷ whole

abbrev up8 : List ℕ
up8 = replicate 8 1

abbrev cut3 : List ℕ
cut3 = 1 ∷ 1 ∷ 1 ∷ 0 ∷ 1 ∷ 1 ∷ 1 ∷ 1 ∷ []

abbrev cut7 : List ℕ
cut7 = 1 ∷ 1 ∷ 1 ∷ 1 ∷ 1 ∷ 1 ∷ 1 ∷ 0 ∷ []

-- three switches in a row, 0 to 2, and a triangle of the others, with the start, 3: all trails together have fewer hops than all round trails, and those of the row have more
abbrev beside_row : List ℕ
beside_row = 7 ∷ 6 ∷ 5 ∷ 0 ∷ 3 ∷ 2 ∷ 1 ∷ 3 ∷ 1 ∷ 2 ∷ 3 ∷ 3 ∷ 4 ∷ 3 ∷ 4 ∷ 5 ∷ 3 ∷ 5 ∷ 3 ∷ []

abbrev row_trails : List ℕ
row_trails = 4 ∷ 6 ∷ 8 ∷ 0 ∷ 1 ∷ 0 ∷ 2 ∷ 3 ∷ 1 ∷ []

abbrev row_rounds : List ℕ
row_rounds = 4 ∷ 6 ∷ 8 ∷ 9 ∷ 7 ∷ 5 ∷ 0 ∷ 2 ∷ 3 ∷ 1 ∷ []

abbrev apart_table : List Row
apart_table =
    rounds apart 4 joined_rounds up8 (given (1 ∷ 2 ∷ 4 ∷ []))
    ∷ rounds apart 4 joined_rounds cut3 (given (1 ∷ 2 ∷ 4 ∷ []))
    ∷ rounds apart 4 joined_rounds cut7 (given (0 ∷ 0 ∷ 4 ∷ []))
    ∷ rounds apart 3 joined_rounds cut7 (given (0 ∷ 1 ∷ 4 ∷ []))
    ∷ rounds apart 1 joined_rounds up8 (given (1 ∷ 6 ∷ 1 ∷ []))
    ∷ rounds apart 1 joined_rounds cut7 (given (1 ∷ 6 ∷ 1 ∷ []))
    ∷ rounds apart 1 joined_rounds cut3 (given (0 ∷ 3 ∷ 2 ∷ []))
    ∷ rounds apart 1 (joined_rounds ++ (9 ∷ 9 ∷ [])) up8 (given (1 ∷ 6 ∷ 1 ∷ []))
    ∷ rounds apart 5 joined_rounds (replicate 8 0) (given (1 ∷ 0 ∷ 5 ∷ []))
    ∷ rounds apart 6 [] [] (refused 11)
    ∷ rounds apart 1 whole up8 (refused 12)
    ∷ rounds apart 4 (7 ∷ 6 ∷ []) up8 (refused 12)
    ∷ rounds apart 5 [] up8 (refused 12)
    ∷ rounds apart 4 joined_rounds (1 ∷ 1 ∷ []) (refused 13)
    ∷ rounds apart 5 joined_rounds (replicate 7 1) (refused 13)
    ∷ picks apart 4 joined joined_rounds (given (0 ∷ 7 ∷ 6 ∷ []))
    ∷ picks apart 1 joined joined_rounds (given (0 ∷ 0 ∷ 2 ∷ 4 ∷ []))
    ∷ picks apart 5 joined joined_rounds (given (0 ∷ []))
    ∷ picks apart 6 joined joined_rounds (refused 11)
    ∷ picks apart 1 (0 ∷ 2 ∷ 4 ∷ []) joined_rounds (refused 12)
    ∷ picks apart 1 joined whole (refused 12)
    ∷ picks beside_row 3 row_trails row_rounds (given (0 ∷ 4 ∷ 6 ∷ 8 ∷ []))
    ∷ picks beside_row 0 row_trails row_rounds (given (1 ∷ 0 ∷ 2 ∷ 3 ∷ 1 ∷ []))
    ∷ picks beside_row 2 (row_trails ++ (7 ∷ 7 ∷ [])) (row_rounds ++ (8 ∷ 8 ∷ [])) (given (1 ∷ 0 ∷ 2 ∷ 3 ∷ 1 ∷ []))
    ∷ []

-- ---- the test

as_said : map (λ r. r.got) (table ++ apart_table) ≡ map (λ r. r.said) (table ++ apart_table)
unfolding round_in round_running choice_in choosing choice_of hops_differ states_short switch_out_of_range planning_at root_of begun_at roots component_of trails_of rounds_of flatten begins_with plant_with taken value_of redundant map_missing map_undefined field_missing field_redundant field_values after_part part listing.value_out_of_range listing.end_out_of_range listing.self_link listing.bytes_remain listing.sound_link listing.header listing.link listing.links listing.with_links listing.linked listing.ended listing.reading run round_run ring_of read_from place ring up_by in_all rules_for trail legs nearest near route hops hop dist within sources arcs others visit_from bridge used_from round_from tour walk_at opposite tail head scan visit live least_from count every
as_said = refl
