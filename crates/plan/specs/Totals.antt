-- What document 02's order 2 says of the rules by sending switch, for a sound plant.
use Rattle.std.specs.Prelude.{◌≡◌, ℕ, ◌+◌, ◌≤◌, ◌<◌}
use Rattle.lists.specs.Arrays.{at}
use Rattle.lists.specs.Sum.{sum}
use Rattle.plant.specs.declared.Plant.{Plant}
use Rattle.walks.specs.Graph.{live_links, bridges}
use Rattle.senders.specs.declared.BySwitch.{BySwitch}
use Rattle.senders.specs.Senders.{sent_by}
use Rattle.walks.specs.Components.{arcs_used}
use Rattle.plan.specs.Plan.{rules_of}

pub record Totals (p : Plant) (b : BySwitch) : Type 0 where
  -- "the number of rules that each switch sends by": of the rules in the forwarding table, those that have it as sending switch
  pub each : (x : ℕ) → x < p.switches → at b.counts x ≡ sent_by (rules_of p) x
  pub zeros : (x : ℕ) → p.switches ≤ x → at b.counts x ≡ 0
  -- "the total taken over switches instead of over labels. Both totals must be the same number"
  pub over_switches_is : b.total ≡ sum p.switches (at b.counts)
  pub over_labels : b.total ≡ arcs_used p
  pub number : b.total ≡ live_links p + bridges p
