-- The forwarding table (document 01's rule page): one rule for each arc of a kind, by rising label, then unused places zero.
use Rattle.std.specs.Prelude.{Bool, List, map, ℕ, length}
use Rattle.lists.specs.Numbers.{range, keep}
use Rattle.lists.specs.Padded.{padded}
use Rattle.limits.specs.Limits.{max_rules}
use Rattle.table.specs.declared.Rule.{Rule}
use Rattle.table.specs.declared.Table.{Table}

abbrev pub zero_rule : Rule
zero_rule = record { from = 0; label = 0; to = 0 }

-- the table with these rules
unfoldable pub table_with : List Rule → Table
table_with rs = record { count = length rs; rules = padded max_rules zero_rule rs }

-- the rule for an arc, by the tails and heads of the arcs: sending switch, label, receiving switch
abbrev pub rule_for : (ℕ → ℕ) → (ℕ → ℕ) → ℕ → Rule
rule_for tl hd a = record { from = tl a; label = a; to = hd a }

-- the labels below n, the tails and heads of their arcs, and which of these have a rule
module _ (n : ℕ) (tl hd : ℕ → ℕ) (ok : ℕ → Bool) where
  unfoldable pub rules_in : List Rule
  rules_in = map (rule_for tl hd) (keep ok (range 0 n))

  abbrev pub table_in : Table
  table_in = table_with rules_in
