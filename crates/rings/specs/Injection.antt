-- Injection at a switch of a plant with a trail: place, ring, order of links, probes and their runs (document 01, "Rules, packets, ring").
-- E, the number of links that a search is over, is the e of a probe, and `table` tells the arcs that the forwarding table (rule page) has a
-- rule for: the calls say what they are in a plant.
use Rattle.std.specs.Prelude.{Bool, List, ℕ, eqb}
use Rattle.lists.specs.Tests.{choose}
use Rattle.plant.specs.declared.Plant.{Plant}
use Rattle.walks.specs.Arcs.{tail, head}
use Rattle.rings.specs.Packet.{End, run, rules_for}
use Rattle.rings.specs.Rules.{in_all}
use Rattle.rings.specs.Ring.{place, ring}
use Rattle.rings.specs.Order.{order}
use Rattle.rings.specs.Probe.{probe}

-- the rules that probe m over e links runs under: the full check, m = e, under the forwarding table, every other probe under all rules
unfoldable pub probe_rules : Plant → (ℕ → Bool) → ℕ → ℕ → ℕ → ℕ → Bool
probe_rules p table e m = choose (eqb m e) (rules_for table (tail p)) (in_all p)

-- for the trail w and injection at switch s
module _ (p : Plant) (w : List ℕ) (s : ℕ) where
  abbrev pub place_of : ℕ
  place_of = place (tail p) s w

  unfoldable pub ring_of : List ℕ
  ring_of = ring (tail p) s w

  unfoldable pub order_of : List ℕ
  order_of = order ring_of

  unfoldable pub probe_of : ℕ → ℕ → List ℕ
  probe_of e m = probe e m ring_of

-- the run of probe m over e links, by the labels that are up
unfoldable pub probe_run : Plant → (ℕ → Bool) → List ℕ → ℕ → ℕ → (ℕ → Bool) → ℕ → End
probe_run p table w s e up m = run (probe_rules p table e m) up (head p) s 0 (probe_of p w s e m)
