-- Laws of the rules by sending switch: the total over switches is the number of rules, whatever the rules are; and the counts after one rule more. Assumes nothing.
use mathlib.Core.Path.{◌≡◌, refl, sym, ap, ◌∙◌}
use mathlib.Core.Logic.{inl, inr}
use mathlib.Core.Bool.{Bool}
use mathlib.Core.List.{List, [], ◌∷◌, ◌++◌, map}
use Prim.Native.Nat.{ℕ, zero, suc, ◌+◌, ◌≤◌, ◌<◌}
use native.Mathlib.Numerals.{add-one}
use native.Mathlib.Omega.{arith}
use borrow.Author.Tests.{ne_eqb}
use lib.Dec.{T, eqb}
use lib.ListN.{length, get_or, set, take, replicate, length-set, length-replicate}
use lib.Seq.{length-take-le, take_all, take-append_seam}
use Rattle.std.specs.List as std
use Rattle.std.proofs.lemmas.List.Sums.{sum_by_more}
use Rattle.lists.specs.Arrays.{at}
use Rattle.lists.specs.Count.{bit}
use Rattle.lists.specs.Members.{In}
use Rattle.lists.specs.Numbers.{range, keep}
use Rattle.lists.specs.Sum.{sum}
use Rattle.lists.proofs.Count.{bit_le_one}
use Rattle.lists.proofs.Members.{get_d_same}
use Rattle.lists.proofs.Numbers.{keep_in, values-are, values_length, values-at}
use Rattle.lists.proofs.Arrays.{take_next, at_more}
use Rattle.lists.proofs.Sum.{sum_same, sum_plus, sum-none, sum_one}
use Rattle.limits.specs.Limits.{max_switches, max_rules}
use Rattle.table.specs.declared.Rule.{Rule}
use Rattle.table.specs.declared.Table.{Table}
use Rattle.table.specs.Rules.{zero_rule, table_with, rule_for, rules_in}
use Rattle.senders.specs.Senders.{rules_held, sent_by, past_senders, over_switches, by_switch}
use Rattle.senders.specs.Placed.{Placed}

-- the table with these rules holds them
pub held : (rs : List Rule) → rules_held (table_with rs) ≡ rs
unfolding table_with
held rs = take-append_seam rs _

-- ---- the total over switches

-- a switch past those that send by some rule sends by none
pub sent-none : (rs : List Rule) (x : ℕ) → past_senders rs ≤ x → sent_by rs x ≡ 0
unfolding sent_by
sent-none [] x h = refl
sent-none (r ∷ rs) x h = omega (arith, ap bit (ne_eqb r.from x (λ e. omega arith)), sent-none rs x (omega arith))

-- over any switches, those that send among them: each rule has one sending switch
pub sent-all : (rs : List Rule) (n : ℕ) → past_senders rs ≤ n → sum n (sent_by rs) ≡ length rs
unfolding sent_by
sent-all [] n h = sum-none n (λ x. 0) (λ k l. refl)
sent-all (r ∷ rs) n h =
    sum_plus n (λ x. bit (eqb r.from x)) (λ x. sent_by rs x) ∙ omega (arith, sum_one r.from n (omega arith), sent-all rs n (omega arith))

pub over_switches_is : (rs : List Rule) → over_switches rs ≡ length rs
over_switches_is rs = sent-all rs (past_senders rs) (omega arith)

-- where the arcs of the kind ok leave switches below m
pub senders-below : (tl hd : ℕ → ℕ) (ok : ℕ → Bool) (n m : ℕ) → ((a : ℕ) → T (ok a) → tl a < m) → past_senders (rules_in n tl hd ok) ≤ m
unfolding rules_in
senders-below tl hd ok n m h = go (keep ok (range 0 n)) (λ a i. h a (keep_in ok a (range 0 n) i).1)
  where
    go : (xs : List ℕ) → ((a : ℕ) → In a xs → tl a < m) → past_senders (map (rule_for tl hd) xs) ≤ m
    go [] f = omega arith
    go (a ∷ xs) f = omega (arith, f a (inl refl), go xs (λ b i. f b (inr i)))

-- ---- the rules counted one after the other

-- the sending switch of one of the rules
sender_before : (rs : List Rule) (i : ℕ) (d : Rule) → i < length rs → (get_or rs i d).from < past_senders rs
sender_before [] i d h = absurd (omega arith)
sender_before (r ∷ rs) zero d h = omega arith
sender_before (r ∷ rs) (suc i) d h = omega (arith, sender_before rs i d (omega arith))

sent-next : (rs : List Rule) (r : Rule) (x : ℕ) → sent_by (rs ++ (r ∷ [])) x ≡ sent_by rs x + bit (eqb r.from x)
unfolding sent_by
sent-next [] r x = omega arith
sent-next (q ∷ rs) r x = omega (arith, sent-next rs r x)

sent-most : (rs : List Rule) (x : ℕ) → sent_by rs x ≤ length rs
unfolding sent_by
sent-most [] x = omega arith
sent-most (r ∷ rs) x = omega (arith, bit_le_one (eqb r.from x), sent-most rs x)

-- the array l has the counts of these rules
pub record CountsOf (rs : List Rule) (l : List ℕ) : Type 0 where
  pub places : length l ≡ max_switches
  pub tells : (x : ℕ) → x < max_switches → at l x ≡ sent_by rs x

pub counts_none : CountsOf [] (replicate max_switches 0)
unfolding sent_by
counts_none = record { places = length-replicate {A = ℕ} max_switches 0; tells = λ x h. get_d_same max_switches x 0 }

counts-next : (rs : List Rule) (r : Rule) (l : List ℕ) → r.from < max_switches → CountsOf rs l → CountsOf (rs ++ (r ∷ [])) (set l r.from (at l r.from + 1))
counts-next rs r l h c = record {
  places = length-set l r.from (at l r.from + 1) ∙ c.places;
  tells = λ x i. at_more l r.from x (omega (arith, c.places)) ∙ omega (arith, c.tells x i, sent-next rs r x);
}

pub counts_are : (rs : List Rule) (l : List ℕ) → CountsOf rs l → l ≡ map (sent_by rs) (range 0 max_switches)
counts_are rs l c = values-are (sent_by rs) 0 max_switches l c.places c.tells

-- ---- the sum of an array

-- as the library says it
abbrev pub total : List ℕ → ℕ
total = std.sum

total_front : (l : List ℕ) (n : ℕ) → n ≤ length l → total (take n l) ≡ sum n (at l)
unfolding sum
total_front l zero h = refl
total_front l (suc n) h =
    omega (arith, total_front l n (omega arith), sum_by_more (λ x. x) l n 0 (omega arith), ap (λ (k : ℕ). total (take k l)) (add-one n))

total-of : (n : ℕ) (l : List ℕ) → length l ≡ n → total l ≡ sum n (at l)
total-of n l e = ap total (sym (take_all n l (omega (arith, e)))) ∙ total_front l n (omega (arith, e))

-- ---- of a table

module _ (t : Table) (f : Placed t) where
  -- the rules that it holds, as the code reads them
  module _ {n : ℕ} (all : n ≡ t.count) where
    abbrev rs : List Rule
    rs = take n t.rules

    holds : rs ≡ rules_held t
    holds = ap (λ (i : ℕ). take i t.rules) all

    pub few_held : length rs ≤ max_rules
    few_held = omega (arith, f.few, ap length holds, length-take-le t.count t.rules (omega (arith, f.few, f.places)))

    -- the rule at place k
    module _ (k : ℕ) (h : k < length rs) where
      pub sender_in : (x : ℕ) → x ≡ (get_or rs k zero_rule).from → x < max_switches
      sender_in x e = omega (arith, e, sender_before rs k zero_rule h, ap past_senders holds, f.senders)

      module _ (l : List ℕ) (c : CountsOf (take k rs) l) where
        pub counts-after : (x : ℕ) → x ≡ (get_or rs k zero_rule).from → CountsOf (take (k + 1) rs) (set l x (at l x + 1))
        counts-after x e =
            rw (take_next zero_rule rs k h, e)
            (counts-next (take k rs) (get_or rs k zero_rule) l (sender_in (get_or rs k zero_rule).from refl) c)

        -- a count stays small
        pub count_most : (x : ℕ) → x < max_switches → at l x ≤ k
        count_most x i = omega (arith, c.tells x i, sent-most (take k rs) x, length-take-le k rs (omega arith))

        -- so there is room to count the next rule
        pub count_fits : (x : ℕ) → x ≡ (get_or rs k zero_rule).from → at l x < max_rules
        count_fits x e = omega (arith, count_most x (sender_in x e), h, few_held)

    -- with all of them
    pub counts_all : (k : ℕ) (l : List ℕ) → length rs ≤ k → CountsOf (take k rs) l → l ≡ (by_switch t).counts
    unfolding by_switch
    counts_all k l h c = counts_are (rules_held t) l (rw (take_all k rs h, holds) at c)

  -- the sum of the places is the total over switches
  pub places-total : (l : List ℕ) → l ≡ (by_switch t).counts → total l ≡ over_switches (rules_held t)
  unfolding by_switch
  places-total l e =
      rw e (
      total-of max_switches (map (sent_by (rules_held t)) (range 0 max_switches)) (values_length (sent_by (rules_held t)) 0 max_switches)
      ∙ sum_same max_switches (at (map (sent_by (rules_held t)) (range 0 max_switches))) (sent_by (rules_held t)) (λ x h. values-at (sent_by (rules_held t)) 0 max_switches x h)
      ∙ omega (arith, sent-all (rules_held t) max_switches f.senders, over_switches_is (rules_held t))
      )

  pub total-most : over_switches (rules_held t) ≤ t.count
  total-most = omega (arith, over_switches_is (rules_held t), length-take-le t.count t.rules (omega (arith, f.few, f.places)))

  -- so it is at most as many as there are places for rules
  pub total-fits : over_switches (rules_held t) ≤ max_rules
  total-fits = omega (arith, total-most, f.few)
