-- A case of document 02's orders 6 and 9 together, computed: the listing `03 04 02 00 02 01 03 02 03` has two components, links 0-1 and 2-3,
-- and by the states 1 1 1 0 label 3 alone is down. A search at switch 0 is over link 0, whose two directions are up together, so that
-- `ByLabel` speaks of it, and All up is right; at switch 2 it does not. Assumes nothing.
use native.Mathlib.Omega.{arith}
use mathlib.Core.Path.{◌≡◌, refl, sym}
use mathlib.Core.Bool.{true, false, false≢true}
use mathlib.Core.List.{List, [], ◌∷◌}
use Prim.Native.Nat.{ℕ, zero, suc}
use lib.Dec.{eqb}
use Rattle.lists.proofs.Tests.{and_left}
use Rattle.lists.specs.Count.{count}
use Rattle.lists.specs.Least.{least_from}
use Rattle.lists.specs.Numbers.{every}
use Rattle.answers.specs.Answers.{given}
use Rattle.answers.specs.Checks.{answer}
use Rattle.plant.specs.declared.Plant.{Plant}
use Rattle.plant.specs.Links.{plant_with, first, live}
use Rattle.limits.specs.Limits.{max_links}
use Rattle.codec.specs.Part.{taken, value_of, redundant, map_missing, map_undefined, field_missing, field_redundant, field_values, after_part, part}
use Rattle.listing.specs.Listing as listing
use Rattle.walks.specs.Visit.{scan, visit}
use Rattle.walks.specs.Arcs.{opposite, tail, head}
use Rattle.walks.specs.Graph.{arcs, others, visit_from, bridge, used_from, links_from}
use Rattle.walks.proofs.Live.{live_below}
use Rattle.walks.specs.Components.{root_of, begun_at, roots, used, link_with, links_with}
use Rattle.routes.specs.Distance.{sources, within, dist, hop, hops, route}
use Rattle.routes.specs.Trail.{near, nearest, legs, trail}
use Rattle.rings.specs.Packet.{run, rules_for}
use Rattle.rings.specs.Rules.{up_by, in_all}
use Rattle.rings.specs.Ring.{read_from, place, ring}
use Rattle.rings.specs.Injection.{ring_of, probe_rules, probe_of, probe_run}
use Rattle.rings.specs.Probe.{probe}
use Rattle.rings.specs.Round.{Together}
use Rattle.search.specs.declared.Outcome.TheVariants.{Returned}
use Rattle.search.specs.declared.Search.TheVariants.{AllUp}
use Rattle.search.specs.Search.{new_search, give}
use Rattle.search.specs.Calls.{gives, perform, begun}
use Rattle.demands.specs.Order6.{end_by_label}

abbrev bytes : List ℕ
bytes = 3 ∷ 4 ∷ 2 ∷ 0 ∷ 2 ∷ 1 ∷ 3 ∷ 2 ∷ 3 ∷ []

abbrev p : Plant
p = listing.with_links (plant_with max_links 4 2 0) (listing.link_of 0 1 0 false ∷ listing.link_of 2 3 0 false ∷ [])

abbrev states : List ℕ
states = 1 ∷ 1 ∷ 1 ∷ 0 ∷ []

is_read : answer (listing.reading bytes) ≡ given p
unfolding plant_with taken value_of redundant map_missing map_undefined field_missing field_redundant field_values after_part part listing.value_out_of_range listing.end_out_of_range listing.self_link listing.bytes_remain listing.sound_link listing.header listing.link listing.links listing.with_links listing.linked listing.ended listing.reading
is_read = refl

together : Together (link_with p 0) states
unfolding plant_with listing.with_links live root_of begun_at roots least_from visit_from visit scan arcs others tail head up_by
together zero h = refl
together (suc zero) h = absurd h
together (suc (suc l)) h = absurd (omega (arith, live_below p (suc (suc l)) (and_left (live p (suc (suc l))) (eqb (root_of p (first p (suc (suc l)))) (root_of p 0)) h)))

-- nor would all links in service do
not-elsewhere : Together (link_with p 2) states → ⊥
unfolding plant_with listing.with_links live root_of begun_at roots least_from visit_from visit scan arcs others tail head up_by
not-elsewhere t = false≢true (sym (t 1 tt))

not_everywhere : Together (live p) states → ⊥
unfolding plant_with listing.with_links live up_by
not_everywhere t = false≢true (sym (t 1 tt))

-- the one probe returns, and the search says All up
returns : end_by_label p 0 states 1 ≡ record { ended = true; hops = 2; last = 0 }
unfolding plant_with listing.with_links live root_of begun_at roots least_from visit_from visit scan arcs others tail head links_with links_from count used used_from bridge trail legs nearest near route hops hop dist within sources run ring_of read_from place ring up_by in_all rules_for opposite every probe_rules probe_of probe_run probe
returns = refl

says : (perform (begun (links_with p 0)) (gives Returned ∷ [])).state ≡ AllUp
unfolding plant_with listing.with_links live root_of begun_at roots least_from visit_from visit scan arcs others tail head links_with links_from count begun new_search give
says = refl
