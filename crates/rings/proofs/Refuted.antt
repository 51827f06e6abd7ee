-- What looks sound and is not (document 01, "Miscounts that look sound"), each at one plant: link numbers as the order, halving the hops, the way back under the
-- forwarding table, and that a probe is never lost on its way back, where one direction of a link alone can be down. Assumes nothing.
use mathlib.Core.Path.{◌≡◌, refl}
use mathlib.Core.Bool.{true, false, not}
use mathlib.Core.List.{[], ◌∷◌}
use Prim.Native.Nat.{◌^◌, ◌≤◌, ◌<◌}
use native.Mathlib.Omega.{arith}
use lib.Dec.{eqb}
use lib.ListN.{length}
use Rattle.lists.proofs.Tests.{not_both}
use Rattle.lists.specs.Count.{count}
use Rattle.lists.specs.Numbers.{range}
use Rattle.lists.specs.Least.{least_from}
use Rattle.plant.specs.Links.{live}
use Rattle.walks.specs.Arcs.{opposite, tail, head}
use Rattle.walks.specs.Graph.{live_links}
use Rattle.rings.specs.Packet.{run, rules_for}
use Rattle.rings.specs.Rules.{up_by, in_all}
use Rattle.rings.specs.Ring as rings
use Rattle.rings.specs.Order as orders
use Rattle.rings.specs.Probe.{outward, probe}
use Rattle.rings.specs.FirstDown.{FirstDown}
use Rattle.rings.specs.Injection.{probe_rules, ring_of, order_of, probe_of, probe_run}
use Rattle.rings.specs.Cases.{crossed, triangle, one_link, ring_with_tail}

-- link 3 is down. From switch 3 it is the first of the order, and link 0, the first by number, is up
by_order : FirstDown (up_by (1 ∷ 1 ∷ 1 ∷ 0 ∷ [])) (order_of ring_with_tail.plant ring_with_tail.trail 3) 1
unfolding up_by order_of orders.order ring_of rings.ring rings.read_from rings.place least_from tail
by_order = record { from_one = omega arith; to_last = omega arith; down = refl; before = λ j a b. absurd (omega arith) }

by_number : FirstDown (up_by (1 ∷ 1 ∷ 1 ∷ 0 ∷ [])) (range 0 4) 1 → ⊥
unfolding up_by
by_number r = not_both true refl r.down

-- one link has two hops: no probe is allowed past the full check, since 1 ≤ 2 ^ 0, and the hops still take one
by_hops : (live_links one_link.plant ≤ 2 ^ 0) × (2 ^ 0 < length one_link.trail)
unfolding live_links count live
by_hops = (omega arith, omega arith)

-- all links are up, and probe 1 is lost on its way back for want of a rule
back_by_table : run (rules_for (crossed ring_with_tail.trail) (tail ring_with_tail.plant)) (λ l. true) (head ring_with_tail.plant) 0 0
    (probe_of ring_with_tail.plant ring_with_tail.trail 0 (live_links ring_with_tail.plant) 1)
    ≡ record { ended = false; hops = 1; last = 1 }
unfolding run probe_of ring_of probe outward orders.order rings.ring rings.read_from rings.place least_from rules_for opposite tail head live live_links count
back_by_table = refl

-- label 1 alone is down, the way back over link 0: probe 2 is lost on its way back, and has counted on, two hops out and one back
lost_on_way_back : probe_run triangle.plant (crossed triangle.trail) triangle.trail 0 (live_links triangle.plant) (λ a. not (eqb a 1)) 2
    ≡ record { ended = false; hops = 3; last = 1 }
unfolding run probe_run probe_rules probe_of ring_of probe outward orders.order rings.ring rings.read_from rings.place least_from rules_for in_all opposite tail head live live_links count
lost_on_way_back = refl
