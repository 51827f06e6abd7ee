-- The rules of a forwarding table by sending switch: how many each switch sends by, and the total over switches (document 02, order 2).
use Rattle.std.specs.Prelude.{List, [], ◌∷◌, map, ℕ, ◌+◌, max, eqb, take, replicate}
use Rattle.lists.specs.Count.{bit}
use Rattle.lists.specs.Numbers.{range}
use Rattle.lists.specs.Sum.{sum}
use Rattle.limits.specs.Limits.{max_switches}
use Rattle.table.specs.declared.Rule.{Rule}
use Rattle.table.specs.declared.Table.{Table}
use Rattle.senders.specs.declared.BySwitch.{BySwitch}

-- the rules that a table holds
abbrev pub rules_held : Table → List Rule
rules_held t = take t.count t.rules

-- how many of these rules have switch x as sending switch
unfoldable pub sent_by : List Rule → ℕ → ℕ
sent_by [] x = 0
sent_by (r ∷ rs) x = bit (eqb r.from x) + sent_by rs x

-- the number after the last switch that sends by one of these rules; 0 if none does
abbrev pub past_senders : List Rule → ℕ
past_senders [] = 0
past_senders (r ∷ rs) = max (r.from + 1) (past_senders rs)

-- the total over switches: over all up to the last that sends
abbrev pub over_switches : List Rule → ℕ
over_switches rs = sum (past_senders rs) (sent_by rs)

-- a place for each switch that a plant can have, and the total
unfoldable pub by_switch : Table → BySwitch
by_switch t = record { counts = map (sent_by (rules_held t)) (range 0 max_switches); total = over_switches (rules_held t) }

-- no switch sends by a rule
abbrev pub none_sent : BySwitch
none_sent = record { counts = replicate max_switches 0; total = 0 }
