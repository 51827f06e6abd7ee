-- The rules that packets run under, and the states of links (document 01, "Rules, packets, ring").
use Rattle.std.specs.Prelude.{Bool, not, List, ℕ, ◌*◌, ◌/◌, eqb, get_or}
use Rattle.lists.specs.Count.{count}
use Rattle.plant.specs.declared.Plant.{Plant}
use Rattle.plant.specs.Links.{live}
use Rattle.walks.specs.Arcs.{tail}
use Rattle.rings.specs.Packet.{by_link, rules_for}

-- is link l up, by one byte for each link? 0 is down, any other value up
unfoldable pub up_by : List ℕ → ℕ → Bool
up_by states l = not (eqb (get_or states l 0) 0)

-- then either label of a link is up if the link is
abbrev pub up_by_link : List ℕ → ℕ → Bool
up_by_link states = by_link (up_by states)

module _ (p : Plant) where
  -- with the rules of the forwarding table, and those that opposite arcs have of their own, there is one for each arc: probes go out and
  -- back under these
  unfoldable pub in_all : ℕ → ℕ → Bool
  in_all = rules_for (λ a. live p (a / 2)) (tail p)

  -- how many these are in all, counted apart from the table
  unfoldable pub all_rules : ℕ
  all_rules = count (2 * p.count) (λ a. live p (a / 2))
