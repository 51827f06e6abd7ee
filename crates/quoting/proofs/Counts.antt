-- The counts of a sound plant are such as a buying page can hold: three digits suffice for each of them, and the rules add up to the total. Assumes nothing.
use mathlib.Core.Path.{◌≡◌, sym, ◌∙◌, subst}
use mathlib.Core.Logic.{◌⊎◌, inl, inr}
use mathlib.Core.List.{map}
use Prim.Native.Nat.{ℕ, ◌+◌, ◌*◌, ◌≤◌, ◌<◌}
use native.Mathlib.Omega.{arith}
use borrow.Author.Tests.{ltb-false}
use lib.ListN.{get_or-eq_default}
use Rattle.lists.specs.Arrays.{at}
use Rattle.lists.specs.Numbers.{range}
use Rattle.lists.specs.Sum.{sum}
use Rattle.lists.proofs.Count.{count-all}
use Rattle.lists.proofs.Numbers.{values_length, values-at}
use Rattle.lists.proofs.Sum.{sum-next, sum_more}
use Rattle.lists.proofs.Tests.{below?}
use Rattle.answers.specs.Answers.{given}
use Rattle.answers.specs.Checks.{answer}
use Rattle.answers.proofs.Checks.{given-exactly, was_given}
use Rattle.limits.specs.Limits.{max_switches, max_links, max_rules}
use Rattle.limits.specs.Sound.{Sound}
use Rattle.plant.specs.declared.Plant.{Plant}
use Rattle.plant.specs.Links.{live}
use Rattle.walks.specs.Graph.{live_links, links_at}
use Rattle.walks.proofs.Limits.{few-used}
use Rattle.walks.proofs.LinksAt.{links-most, links-none}
use Rattle.senders.specs.Senders.{rules_held, sent_by, by_switch}
use Rattle.quantity.specs.Quantity.{max_spare, spare_above, order_quantity}
use Rattle.quantity.proofs.Spare.{product_most}
use Rattle.plan.specs.Plan.{table_of}
use Rattle.plan.specs.Totals.{Totals}
use Rattle.plan.proofs.Totals.{totals}
use Rattle.sheet.specs.declared.Sheet.{Sheet}
use Rattle.sheet.specs.Shown.{ThreeDigits, Shown}
use Rattle.quoting.specs.Quotes.{sheet_with, pricing}

-- a term of a sum
term_most : (f : ℕ → ℕ) (n x : ℕ) → x < n → f x ≤ sum n f
term_most f n x h = omega (arith, sum-next f x, sum_more f (x + 1) n (omega arith))

-- the order quantity for a rules is at most twice that
quantity-most : (a spare n : ℕ) → answer (order_quantity a spare) ≡ given n → n ≤ 2 * a
unfolding order_quantity spare_above
quantity-most a spare n e =
    let g = (given-exactly (order_quantity a spare).checks (order_quantity a spare).result n).0 e in
    omega (arith, g.1, product_most a spare (ltb-false max_spare spare g.0.0))

module _ (p : Plant) (ok : Sound p) where
  t : Totals p (by_switch (table_of p))
  t = totals p ok

  -- at most as many rules as a plant can have, and links at a switch as it can have links
  few-rules : (by_switch (table_of p)).total ≤ max_rules
  few-rules = omega (arith, t.over_labels, few-used p ok)

  rules-few : (x : ℕ) → x < p.switches → at (by_switch (table_of p)).counts x ≤ max_rules
  rules-few x h = omega (arith, t.over_switches_is, term_most (at (by_switch (table_of p)).counts) p.switches x h, few-rules)

  links-at : (x : ℕ) → x < max_switches → at (map (links_at p) (range 0 max_switches)) x ≡ links_at p x
  links-at x h = values-at (links_at p) 0 max_switches x h

  links-few : (x : ℕ) → x < p.switches → at (map (links_at p) (range 0 max_switches)) x ≤ max_links
  unfolding live_links
  links-few x h = omega (arith, links-at x (omega (arith, ok.few_switches)), links-most p x, count-all p.count (live p), ok.few_links)

  links_past : (x : ℕ) → p.switches ≤ x → at (map (links_at p) (range 0 max_switches)) x ≡ 0
  links_past x h = go (below? x max_switches)
    where
      go : (x < max_switches) ⊎ (max_switches ≤ x) → at (map (links_at p) (range 0 max_switches)) x ≡ 0
      go (inl i) = links-at x i ∙ links-none p ok x h
      go (inr i) = get_or-eq_default (map (links_at p) (range 0 max_switches)) 0 {n = x} (omega (arith, values_length (links_at p) 0 max_switches))

  module _ (spare : ℕ) (n : ℕ) (e : answer (order_quantity (by_switch (table_of p)).total spare) ≡ given n) where
    digits : ThreeDigits (sheet_with p (by_switch (table_of p)) n)
    digits = record {
      rules = λ x h. omega (arith, rules-few x h);
      links = λ x h. omega (arith, links-few x h);
      total = omega (arith, few-rules);
      quantity = omega (arith, few-rules, quantity-most (by_switch (table_of p)).total spare n e);
    }

    shown : Shown (sheet_with p (by_switch (table_of p)) n)
    unfolding by_switch
    shown = record {
      some = ok.some_switch;
      few = ok.few_switches;
      rules_places = values_length (sent_by (rules_held (table_of p))) 0 max_switches;
      links_places = values_length (links_at p) 0 max_switches;
      rules_past = t.zeros;
      links_past = links_past;
      digits = digits;
      adds_up = sym t.over_switches_is;
    }

  -- the counts that are answered
  pub priced_shown : (spare : ℕ) (s : Sheet) → answer (pricing p spare) ≡ given s → Shown s
  unfolding pricing
  priced_shown spare s e =
      let g = was_given (order_quantity (by_switch (table_of p)).total spare) (sheet_with p (by_switch (table_of p))) s e in
      subst Shown g.2 (shown spare g.0 g.1)
