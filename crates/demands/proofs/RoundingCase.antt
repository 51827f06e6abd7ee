-- A case of document 02's order 2, computed: the listing `03 02 01 00 02 01` has two switches and one link, and so one rule at each switch. With a spare of 10 percent that is 3
-- rules on the total, and 4 by switch. Assumes nothing.
use native.Mathlib.Omega.{arith}
use mathlib.Core.Path.{◌≡◌, refl}
use mathlib.Core.Bool.{false}
use mathlib.Core.List.{List, [], ◌∷◌}
use Prim.Native.Nat.{ℕ}
use Rattle.lists.specs.Arrays.{at}
use Rattle.lists.specs.Count.{count}
use Rattle.lists.specs.Least.{least_from}
use Rattle.lists.specs.Sum.{sum}
use Rattle.answers.specs.Answers.{given}
use Rattle.answers.specs.Checks.{answer}
use Rattle.plant.specs.declared.Plant.{Plant}
use Rattle.plant.specs.Links.{plant_with, live}
use Rattle.limits.specs.Limits.{max_links}
use Rattle.codec.specs.Part.{taken, value_of, redundant, map_missing, map_undefined, field_missing, field_redundant, field_values, after_part, part}
use Rattle.listing.specs.Listing as listing
use Rattle.walks.specs.Visit.{scan, visit}
use Rattle.walks.specs.Arcs.{opposite, tail, head}
use Rattle.walks.specs.Graph.{arcs, others, visit_from, bridge, used_from}
use Rattle.walks.specs.Components.{root_of, begun_at, roots, used}
use Rattle.table.specs.Rules.{table_with, rules_in}
use Rattle.senders.specs.Senders.{sent_by, by_switch}
use Rattle.quantity.specs.Quantity.{with_spare}
use Rattle.plan.specs.Plan.{table_of}
use Rattle.demands.specs.Order2.{MoreBySwitch}

abbrev bytes : List ℕ
bytes = 3 ∷ 2 ∷ 1 ∷ 0 ∷ 2 ∷ 1 ∷ []

abbrev p : Plant
p = listing.with_links (plant_with max_links 2 1 0) (listing.link_of 0 1 0 false ∷ [])

is_read : answer (listing.reading bytes) ≡ given p
unfolding plant_with taken value_of redundant map_missing map_undefined field_missing field_redundant field_values after_part part listing.value_out_of_range listing.end_out_of_range listing.self_link listing.bytes_remain listing.sound_link listing.header listing.link listing.links listing.with_links listing.linked listing.ended listing.reading
is_read = refl

on_total : with_spare (by_switch (table_of p)).total 10 ≡ 3
unfolding plant_with listing.with_links live root_of begun_at roots least_from visit_from visit scan arcs others opposite tail head count used used_from bridge rules_in table_with sent_by sum by_switch
on_total = refl

by_switch_is : sum p.switches (λ x. with_spare (at (by_switch (table_of p)).counts x) 10) ≡ 4
unfolding plant_with listing.with_links live root_of begun_at roots least_from visit_from visit scan arcs others opposite tail head count used used_from bridge rules_in table_with sent_by sum by_switch
by_switch_is = refl

pub more_by_switch : MoreBySwitch
more_by_switch = record {
  listing = bytes;
  plant = p;
  read = record { bytes = (omega arith, (omega arith, (omega arith, (omega arith, (omega arith, (omega arith, tt)))))); read = is_read };
  on_total = on_total;
  by_switch_is = by_switch_is;
}
