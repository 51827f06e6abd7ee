-- Document 02, order 2: rules for each switch.
use Rattle.std.specs.Prelude.{◌≡◌, ◌≤◌, ◌*◌}
use Rattle.demands.specs.Vocabulary.{List, ℕ, at, count, sum, given, answer, Plant, used, sent_by, past_senders}
use Rattle.demands.specs.Vocabulary.{by_switch, rules_of, table_of, Totals, max_spare, with_spare, counting}
use Rattle.demands.specs.Names.{ReadAs}

-- for every plant value, sound or not: `table_of p` is its forwarding table, and `by_switch` what is answered of it
pub record SameTotals (p : Plant) : Type 0 where
  -- the total is over switches, each with the number of rules in the table which have it as sending switch, up to the last that sends
  -- (read aloud)
  pub total : (by_switch (table_of p)).total ≡ sum (past_senders (rules_of p)) (sent_by (rules_of p))
  -- "both totals must be the same number for every plant": that over switches, and that over labels
  pub same : sum (past_senders (rules_of p)) (sent_by (rules_of p)) ≡ count (2 * p.count) (used p)

-- for every listing that is read as a plant
pub record BySwitches (s : List ℕ) (p : Plant) : Type 0 where
  -- (read aloud)
  pub answers : answer (counting s) ≡ given (by_switch (table_of p))
  -- a number for each of the S switches, zeros from S on; the total over the S switches is that over labels, and links plus bridges
  pub totals : Totals p (by_switch (table_of p))
  -- "the spare is still laid on the total, since rounding per switch can give more": it never gives less, for any spare that is not refused
  pub spare_on_total : (spare : ℕ) → spare ≤ max_spare
      → with_spare (by_switch (table_of p)).total spare ≤ sum p.switches (λ x. with_spare (at (by_switch (table_of p)).counts x) spare)

-- and it "can give more": there is a listing that is read as a plant for which a spare of 10 percent on the total gives 3 rules, and on the
-- rules of each switch 4
pub record MoreBySwitch : Type 0 where
  pub listing : List ℕ
  pub plant : Plant
  pub read : ReadAs listing plant
  pub on_total : with_spare (by_switch (table_of plant)).total 10 ≡ 3
  pub by_switch_is : sum plant.switches (λ x. with_spare (at (by_switch (table_of plant)).counts x) 10) ≡ 4
