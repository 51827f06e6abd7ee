-- The plan of a plant: what is said of all its components together, and of the component of a named switch. Below this, all is said from
-- any root, and of any arcs that have rules.
use Rattle.std.specs.Prelude.{Bool, ℕ, ◌*◌, length, take}
use mathlib.Core.List.{List, map, flatten}
use Rattle.plant.specs.declared.Plant.{Plant}
use Rattle.walks.specs.Arcs.{tail, head}
use Rattle.walks.specs.Graph.{AllFrom}
use Rattle.walks.specs.Components.{root_of, roots, used}
use Rattle.walks.specs.Round.{round_from}
use Rattle.routes.specs.Plants.{trail_from}
use Rattle.rings.specs.Packet.{rules_for}
use Rattle.table.specs.declared.Rule.{Rule}
use Rattle.table.specs.declared.Table.{Table}
use Rattle.table.specs.Rules.{rule_for, rules_in, table_in}

module _ (p : Plant) where
  -- every switch is reached from the start: there is one component
  abbrev pub Connected : Type 0
  Connected = AllFrom p p.start

  -- ---- the trails

  -- "trails follow one another in the buffer": those of these roots
  unfoldable pub trails_of : List ℕ → List ℕ
  trails_of rs = flatten (map (trail_from p) rs)

  -- of all components, and that of the component of x alone
  abbrev pub trail_of : List ℕ
  trail_of = trails_of (roots p)

  abbrev pub trail_with : ℕ → List ℕ
  trail_with x = trail_from p (root_of p x)

  -- where the trail of component i begins: after those of the components before it
  abbrev pub trail_begin : ℕ → ℕ
  trail_begin i = length (trails_of (take i (roots p)))

  -- ---- the round trails (document 02, order 6), likewise

  unfoldable pub rounds_of : List ℕ → List ℕ
  rounds_of rs = flatten (map (round_from p) rs)

  abbrev pub round_of : List ℕ
  round_of = rounds_of (roots p)

  abbrev pub round_with : ℕ → List ℕ
  round_with x = round_from p (root_of p x)

  abbrev pub round_begin_of : ℕ → ℕ
  round_begin_of i = length (rounds_of (take i (roots p)))

  -- ---- the forwarding table (rule page): a rule for each arc in use

  -- the rule for an arc: sending switch, label, receiving switch
  abbrev pub rule_of : ℕ → Rule
  rule_of = rule_for (tail p) (head p)

  -- those for the arcs in use, by rising label
  abbrev pub rules_of : List Rule
  rules_of = rules_in (2 * p.count) (tail p) (head p) (used p)

  abbrev pub table_of : Table
  table_of = table_in (2 * p.count) (tail p) (head p) (used p)

  -- as a test on switch and label: packets that are no probes, and the full check, run under these rules
  abbrev pub in_table : ℕ → ℕ → Bool
  in_table = rules_for (used p) (tail p)
