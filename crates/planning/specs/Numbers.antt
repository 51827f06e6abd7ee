-- The numbers of a plant in the first line that `rules` prints: switches, links in service, bridges, rules and hops, over all components.
use Rattle.std.specs.Prelude.{length}
use Rattle.plant.specs.declared.Plant.{Plant}
use Rattle.walks.specs.Graph.{live_links, bridges}
use Rattle.walks.specs.Components.{arcs_used}
use Rattle.plan.specs.Plan.{trail_of}
use Rattle.planning.specs.declared.Numbers.{Numbers}

unfoldable pub numbers_of : Plant → Numbers
numbers_of p = record { switches = p.switches; links = live_links p; bridges = bridges p; rules = arcs_used p; hops = length (trail_of p) }
