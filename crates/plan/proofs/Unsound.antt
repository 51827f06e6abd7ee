-- A plant value that is not sound can have a rule whose sending switch is not one of its S, here of one switch and a link from it to another. The total over the S switches
-- alone is then less than that over labels; the total over all that send is the same. Assumes nothing.
use mathlib.Core.Path.{◌≡◌, refl}
use mathlib.Core.Bool.{false}
use mathlib.Core.List.{[], ◌∷◌}
use Rattle.lists.specs.Count.{count}
use Rattle.lists.specs.Sum.{sum}
use Rattle.plant.specs.declared.Plant.{Plant}
use Rattle.plant.specs.Links.{live}
use Rattle.walks.specs.Visit.{scan, visit}
use Rattle.walks.specs.Arcs.{tail, head}
use Rattle.walks.specs.Graph.{arcs, others, visit_from, bridge, used_from}
use Rattle.walks.specs.Components.{root_of, used, arcs_used}
use Rattle.table.specs.Rules.{table_with, rules_in}
use Rattle.senders.specs.Senders.{sent_by, by_switch}
use Rattle.plan.specs.Plan.{rules_of, table_of}

abbrev outside : Plant
outside = record { switches = 1; count = 1; start = 0; links = record { first = 0; second = 1; tag = 0; out_of_service = false } ∷ [] }

over-own : sum outside.switches (sent_by (rules_of outside)) ≡ 1
unfolding sum sent_by rules_in used root_of used_from bridge visit_from arcs others visit scan tail head live
over-own = refl

over-all : ((by_switch (table_of outside)).total ≡ 2) × (arcs_used outside ≡ 2)
unfolding by_switch sum sent_by table_with rules_in arcs_used count used root_of used_from bridge visit_from arcs others visit scan tail head live
over-all = (refl, refl)
