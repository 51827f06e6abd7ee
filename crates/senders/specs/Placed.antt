-- Inner: what counting by switch asks of a table. Assumes nothing.
use Rattle.std.specs.Prelude.{◌≡◌, ◌≤◌, length}
use Rattle.limits.specs.Limits.{max_switches, max_rules}
use Rattle.table.specs.declared.Table.{Table}
use Rattle.senders.specs.Senders.{rules_held, past_senders}

-- the table has a place for each of its rules, and there is one for each switch that sends by them
pub record Placed (t : Table) : Type 0 where
  pub places : length t.rules ≡ max_rules
  pub few : t.count ≤ max_rules
  pub senders : past_senders (rules_held t) ≤ max_switches
