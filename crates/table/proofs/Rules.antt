-- Laws of the forwarding table: one rule more, how many rules there are, and that there is a place for each. Assumes nothing.
use mathlib.Core.Path.{◌≡◌, refl, sym, ap, ◌∙◌}
use mathlib.Core.Bool.{Bool, true, false}
use mathlib.Core.List.{[], ◌∷◌, ◌++◌, map, map-append}
use Prim.Native.Nat.{ℕ, ◌+◌, ◌≤◌, ◌<◌}
use native.Mathlib.Omega.{arith}
use lib.ListN.{length, set, length-append, length-map}
use Rattle.lists.proofs.Tests.{true_T, false_T}
use Rattle.lists.specs.Count.{count}
use Rattle.lists.specs.Numbers.{range, keep}
use Rattle.lists.proofs.Padded.{padded_put}
use Rattle.lists.proofs.Kept.{kept_yes, kept_no, kept-length, kept-room}
use Rattle.limits.specs.Limits.{max_rules}
use Rattle.table.specs.declared.Table.{Table}
use Rattle.table.specs.Rules.{zero_rule, table_with, rule_for, rules_in, table_in}

module _ (tl hd : ℕ → ℕ) (ok : ℕ → Bool) where
  -- the rules are as many as the arcs of the kind
  pub rules-count : (n : ℕ) → length (rules_in n tl hd ok) ≡ count n ok
  unfolding rules_in
  rules-count n = length-map (keep ok (range 0 n)) (rule_for tl hd) ∙ kept-length ok n

  rules_yes : (a : ℕ) → ok a ≡ true → rules_in (a + 1) tl hd ok ≡ rules_in a tl hd ok ++ (rule_for tl hd a ∷ [])
  unfolding rules_in
  rules_yes a e = ap (map (rule_for tl hd)) (kept_yes ok a (true_T (ok a) e)) ∙ map-append (rule_for tl hd) (keep ok (range 0 a)) (a ∷ [])

  rules_no : (a : ℕ) → ok a ≡ false → rules_in (a + 1) tl hd ok ≡ rules_in a tl hd ok
  unfolding rules_in
  rules_no a e = ap (map (rule_for tl hd)) (kept_no ok a (false_T (ok a) e))

  pub table_none : table_with [] ≡ table_in 0 tl hd ok
  unfolding rules_in
  table_none = refl

  -- the next arc has a rule, and there are places for all
  module _ (n : ℕ) (few : count n ok ≤ max_rules) (a : ℕ) (h : a < n) (e : ok a ≡ true) (t : Table) (q : t ≡ table_in a tl hd ok) where
    room : length (rules_in a tl hd ok) < max_rules
    room = omega (arith, few, rules-count a, kept-length ok a, kept-room ok a n h (true_T (ok a) e))

    pub table-place : t.count < max_rules
    unfolding table_with
    table-place = rw q room

    pub table_rule : record { count = t.count + 1; rules = set t.rules t.count (rule_for tl hd a) } ≡ table_in (a + 1) tl hd ok
    unfolding table_with
    table_rule =
        rw (q, rules_yes a e, padded_put max_rules zero_rule (rules_in a tl hd ok) (rule_for tl hd a) room, length-append (rules_in a tl hd ok) (rule_for tl hd a ∷ []))

  pub table-skip : (a : ℕ) (t : Table) → ok a ≡ false → t ≡ table_in a tl hd ok → t ≡ table_in (a + 1) tl hd ok
  table-skip a t e q = q ∙ ap table_with (sym (rules_no a e))
