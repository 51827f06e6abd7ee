-- Each test in turn.
use Rattle.std.proofs.Common.{◌≡◌, Bool, true, List, ℕ, ◌+◌, ◌<◌, eqb, sym, ap, ap₂, ◌∙◌, arith}
use Rattle.lists.specs.Sum.{sum}
use Rattle.lists.proofs.Tests.{not_both}
use Rattle.sheet.specs.Form.{of_total, lines_in, switches_in, whole_lines, plain_lines, rising, total_last, rules_add_up, line_at, rules_on}
use Rattle.sheet.proofs.Form.{whole_is, lines_plain, formed_rest, not_formed}
use Rattle.readback.specs.Held.{Lines}
use Rattle.readback.proofs.Lines.{held-rules}
use Rattle.readback.proofs.is_formed.Goals as goal

module _ (b : List ℕ) (e : whole_lines b ≡ true) where
  -- the last line is one of the lines
  last_in : switches_in b < lines_in b
  last_in = omega (arith, (whole_is b e).1)

  all_lines : Lines b (switches_in b + 1)
  all_lines = omega (arith, (whole_is b e).0, (whole_is b e).1)

-- what the last line's test comes to
total-told : (b : List ℕ) {l : List ℕ} {r : Bool} → l ≡ line_at b (switches_in b) → r ≡ of_total l → total_last b ≡ r
unfolding total_last
total-told b e f = sym (f ∙ ap of_total e)

-- the sum, and then the total
adds_up : (b : List ℕ) {s t : ℕ} → s ≡ sum (switches_in b) (rules_on b) → t ≡ rules_on b (switches_in b) → eqb s t ≡ rules_add_up b
unfolding rules_add_up
adds_up b e f = ap₂ eqb e f

pub returns-then-not-whole_lines : goal.returns-then-not-whole_lines
returns-then-not-whole_lines c =
    let b = c.args.page.now in
    sym (not_formed b (λ p. not_both (whole_lines b) p.whole (sym c.whole_lines.ensures ∙ c.if-not-whole_lines.true)))

pub overflow_sub-last : goal.overflow_sub-last
overflow_sub-last c = omega (arith, (whole_is c.args.page.now (sym c.whole_lines.ensures ∙ c.if-not-whole_lines.false)).1)

pub plain_lines-requires : goal.plain_lines-requires
plain_lines-requires c = omega (arith, (whole_is c.args.page.now (sym c.whole_lines.ensures ∙ c.if-not-whole_lines.false)).0)

pub returns-then-not-plain_lines : goal.returns-then-not-plain_lines
unfolding plain_lines
returns-then-not-plain_lines c =
    let b = c.args.page.now in
    sym (not_formed b (λ p. not_both (plain_lines b) p.plain (sym c.plain_lines.ensures ∙ c.if-not-plain_lines.true)))

pub rising-requires : goal.rising-requires
rising-requires c = omega (arith, (whole_is c.args.page.now (sym c.whole_lines.ensures ∙ c.if-not-whole_lines.false)).0)

pub returns-then-not-rising : goal.returns-then-not-rising
unfolding rising
returns-then-not-rising c =
    let b = c.args.page.now in
    sym (not_formed b (λ p. not_both (rising b) p.rise (sym c.rising.ensures ∙ c.if-not-rising.true)))

pub line_at-requires : goal.line_at-requires
line_at-requires c = all_lines c.args.page.now (sym c.whole_lines.ensures ∙ c.if-not-whole_lines.false)

pub returns-then-not-of_total : goal.returns-then-not-of_total
returns-then-not-of_total c =
    let b = c.args.page.now in
    sym (not_formed b (λ p. not_both (total_last b) p.total (total-told b c.line_at.ensures.value c.of_total.ensures ∙ c.if-not-of_total.true)))

pub rules_sum-sum-requires-clause-n_le_max_switches : goal.rules_sum-sum-requires-clause-n_le_max_switches
rules_sum-sum-requires-clause-n_le_max_switches c =
    let w = whole_is c.args.page.now (sym c.whole_lines.ensures ∙ c.if-not-whole_lines.false) in
    (omega (arith, w.2), omega (arith, w.0))

pub rules_sum-sum-requires-clause-all_held : goal.rules_sum-sum-requires-clause-all_held
unfolding plain_lines
rules_sum-sum-requires-clause-all_held c =
    let b = c.args.page.now in
    let w = whole_is b (sym c.whole_lines.ensures ∙ c.if-not-whole_lines.false) in
    λ x h. held-rules b (lines_plain b (sym c.plain_lines.ensures ∙ c.if-not-plain_lines.false)) x (omega (arith, w.1))

pub number_on-total-requires-clause-lines : goal.number_on-total-requires-clause-lines
number_on-total-requires-clause-lines c = all_lines c.args.page.now (sym c.whole_lines.ensures ∙ c.if-not-whole_lines.false)

pub number_on-total-requires-clause-held : goal.number_on-total-requires-clause-held
unfolding plain_lines
number_on-total-requires-clause-held c =
    let b = c.args.page.now in
    held-rules b (lines_plain b (sym c.plain_lines.ensures ∙ c.if-not-plain_lines.false)) (switches_in b)
    (last_in b (sym c.whole_lines.ensures ∙ c.if-not-whole_lines.false))

pub returns : goal.returns
unfolding plain_lines rising
returns c =
    let b = c.args.page.now in
    adds_up b c.rules_sum-sum.ensures c.number_on-total.ensures.value
    ∙ formed_rest b (sym c.whole_lines.ensures ∙ c.if-not-whole_lines.false) (sym c.plain_lines.ensures ∙ c.if-not-plain_lines.false)
    (sym c.rising.ensures ∙ c.if-not-rising.false) (total-told b c.line_at.ensures.value c.of_total.ensures ∙ c.if-not-of_total.false)
