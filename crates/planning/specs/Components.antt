-- The components of a plant as a call answers them (document 02, order 9): how many, and for each its root, where its trail begins among
-- the trails of all and its hops, and the same of its round trail.
use Rattle.std.specs.Prelude.{List, map, ℕ, length, get_or}
use Rattle.lists.specs.Numbers.{range}
use Rattle.lists.specs.Padded.{padded}
use Rattle.plant.specs.declared.Plant.{Plant}
use Rattle.limits.specs.Limits.{max_switches}
use Rattle.walks.specs.Components.{roots, component_of}
use Rattle.walks.specs.Round.{round_from}
use Rattle.routes.specs.Plants.{trail_from}
use Rattle.plan.specs.Plan.{trail_begin, round_begin_of}
use Rattle.planning.specs.declared.Component.{Component}
use Rattle.planning.specs.declared.Components.{Components}

abbrev pub zero_component : Component
zero_component = record { first = 0; begin = 0; hops = 0; round_begin = 0; round_hops = 0 }

-- these components in their order, then unused places zero
unfoldable pub components_with : List Component → Components
components_with cs = record { count = length cs; list = padded max_switches zero_component cs }

module _ (p : Plant) where
  -- component i
  unfoldable pub component_at : ℕ → Component
  component_at i =
      let r = get_or (roots p) i 0 in
      record {
        first = r;
        begin = trail_begin p i;
        hops = length (trail_from p r);
        round_begin = round_begin_of p i;
        round_hops = length (round_from p r);
      }

  -- that of a switch
  abbrev pub component_with : ℕ → Component
  component_with x = component_at (component_of p x)

  unfoldable pub components_of : Components
  components_of = components_with (map component_at (range 0 (length (roots p))))
