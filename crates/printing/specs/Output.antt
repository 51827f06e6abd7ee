-- The bytes that the program `rules` prints (document 01, "Edges and marked cases"), by the definitions of the plan. Assumes nothing.
use Rattle.std.specs.Prelude.{List, map, ℕ, length}
use Rattle.plant.specs.declared.Plant.{Plant}
use Rattle.answers.specs.Answers.{Answer, given, refused}
use Rattle.walks.specs.Graph.{live_links, bridges}
use Rattle.walks.specs.Components.{roots, arcs_used}
use Rattle.routes.specs.Plants.{trail_from}
use Rattle.plan.specs.Plan.{trail_of, rules_of}
use Rattle.table.specs.declared.Rule.{Rule}
use Rattle.text.specs.Lines.{page_of, refusal_of}
use Rattle.answers.specs.Checks.{answer}
use Rattle.listing.specs.Listing.{reading}

-- a rule as three numbers: sending switch, label, receiving switch
abbrev pub triple : Rule → ℕ × ℕ × ℕ
triple r = (r.from, r.label, r.to)

-- the page of a plant: its numbers and its rules over all components, and a line for the trail of each (document 02, order 9)
unfoldable pub plant_output : Plant → List ℕ
plant_output p =
    page_of p.switches (live_links p) (bridges p) (arcs_used p) (length (trail_of p)) (map triple (rules_of p)) (map (trail_from p) (roots p))

-- the page of a plant, or the line of a refusal
abbrev pub output_of : Answer Plant → List ℕ
output_of (given p) = plant_output p
output_of (refused n) = refusal_of n

-- the bytes that `rules` prints for a listing
abbrev pub printed : List ℕ → List ℕ
printed s = output_of (answer (reading s))
