-- What is printed for six listings is the text in the first rows of `text/specs/Cases`, and what is printed for document 02's `01 40` is a first line and a bare word for each
-- switch: two computed tests. Assumes nothing.
use Rattle.std.specs.Prelude.{◌≡◌, refl, ℕ, take}
use mathlib.Core.List.{List, [], ◌∷◌, ◌++◌, map, flatten}
use Rattle.lists.specs.Count.{count}
use Rattle.lists.specs.Least.{least_from}
use Rattle.lists.specs.Numbers.{range}
use Rattle.plant.specs.Links.{plant_with, live}
use Rattle.answers.specs.Tables.{byte}
use Rattle.codec.specs.Part.{taken, value_of, redundant, map_missing, map_undefined, field_missing, field_redundant, field_values, after_part, part}
use Rattle.listing.specs.Listing.{value_out_of_range, end_out_of_range, self_link, bytes_remain, sound_link, header, link, links, with_links, linked, ended, reading}
use Rattle.walks.specs.Visit.{scan, visit}
use Rattle.walks.specs.Arcs.{tail, head}
use Rattle.walks.specs.Graph.{arcs, others, visit_from, bridge, live_links, bridges, used_from}
use Rattle.walks.specs.Components.{root_of, begun_at, roots, used, arcs_used}
use Rattle.routes.specs.Distance.{sources, within, dist, hop, hops, route}
use Rattle.routes.specs.Trail.{near, nearest, legs, trail}
use Rattle.plan.specs.Plan.{trails_of}
use Rattle.table.specs.Rules.{rules_in}
use Rattle.text.specs.Decimal.{digits, decimal}
use Rattle.text.specs.Lines.{each, line, summary_line, trail_line, page_of}
use Rattle.text.specs.Cases.{rows}
use Rattle.printing.specs.Output.{plant_output, printed}

-- document 01's example, the triangle whose last link is out of service, the plant with no links; three switches with a link between the first two and the third as start; two
-- switches with no links; and the empty listing
abbrev listings : List (List ℕ)
listings =
    (3 ∷ 4 ∷ 4 ∷ 0 ∷ 2 ∷ 1 ∷ 3 ∷ 1 ∷ 2 ∷ 3 ∷ 2 ∷ 0 ∷ 3 ∷ 0 ∷ 3 ∷ [])
    ∷ (3 ∷ 3 ∷ 3 ∷ 0 ∷ 2 ∷ 1 ∷ 3 ∷ 1 ∷ 2 ∷ 11 ∷ 2 ∷ 0 ∷ [])
    ∷ (0 ∷ [])
    ∷ (7 ∷ 3 ∷ 1 ∷ 0 ∷ 2 ∷ 2 ∷ 1 ∷ [])
    ∷ (1 ∷ 2 ∷ [])
    ∷ []
    ∷ []

as_said : map printed listings ≡ map (λ r. r.1) (take 6 rows)
unfolding plant_with taken value_of redundant map_missing map_undefined field_missing field_redundant field_values after_part part value_out_of_range end_out_of_range self_link bytes_remain sound_link header link links with_links linked ended reading trail legs nearest near route hops hop dist within sources least_from count used_from bridge visit_from arcs others visit scan tail head live root_of begun_at roots used arcs_used flatten trails_of rules_in live_links bridges digits decimal line page_of plant_output
as_said = refl

-- "64 empty trails and 0 rules"
no_links_is : printed (1 ∷ byte 4 0 ∷ []) ≡ summary_line (byte 4 0) 0 0 0 0 ++ each (λ x. trail_line []) (range 0 (byte 4 0))
unfolding plant_with taken value_of redundant map_missing map_undefined field_missing field_redundant field_values after_part part value_out_of_range end_out_of_range self_link bytes_remain sound_link header link links with_links linked ended reading trail legs nearest near route hops hop dist within sources least_from count used_from bridge visit_from arcs others visit scan tail head live root_of begun_at roots used arcs_used flatten trails_of rules_in live_links bridges digits decimal line page_of plant_output
no_links_is = refl
