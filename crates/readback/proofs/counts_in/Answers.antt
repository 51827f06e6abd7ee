-- Each number is that of its line.
use Rattle.std.proofs.Common.{◌≡◌, true, List, ℕ, ◌+◌, ◌≤◌, ◌<◌, refl, arith}
use Rattle.limits.specs.Limits.{max_switches}
use Rattle.sheet.specs.Columns.{switch_end, rules_end, links_end}
use Rattle.sheet.specs.Form.{lines_in, switches_in, formed, counts_in}
use Rattle.sheet.proofs.Form.{Formed, formed_is}
use Rattle.readback.specs.Held.{Lines, AllHeld}
use Rattle.readback.proofs.Lines.{held-rules, held-links}
use Rattle.readback.proofs.counts_in.Goals as goal

module _ (b : List ℕ) (e : formed b ≡ true) where
  f : Formed b
  f = formed_is b e

  -- the last line is one of the lines
  last_in : switches_in b < lines_in b
  last_in = omega (arith, f.some)

  few : (switches_in b ≤ max_switches) × Lines b (switches_in b)
  few = (omega (arith, f.few), omega (arith, f.bytes))

  all_lines : Lines b (switches_in b + 1)
  all_lines = omega (arith, f.bytes, f.some)

  rules : AllHeld b switch_end rules_end (switches_in b)
  rules x h = held-rules b f.plain x (omega (arith, last_in))

  links : AllHeld b rules_end links_end (switches_in b)
  links x h = held-links b f.plain x (omega (arith, last_in))

pub overflow_sub-last : goal.overflow_sub-last
overflow_sub-last c = omega (arith, (f c.args.page.now c.requires).some)

pub column-rules-requires-clause-n_le_max_switches : goal.column-rules-requires-clause-n_le_max_switches
column-rules-requires-clause-n_le_max_switches c = few c.args.page.now c.requires

pub column-rules-requires-clause-all_held : goal.column-rules-requires-clause-all_held
column-rules-requires-clause-all_held c = rules c.args.page.now c.requires

pub column-links-requires-clause-n_le_max_switches : goal.column-links-requires-clause-n_le_max_switches
column-links-requires-clause-n_le_max_switches c = few c.args.page.now c.requires

pub column-links-requires-clause-all_held : goal.column-links-requires-clause-all_held
column-links-requires-clause-all_held c = links c.args.page.now c.requires

pub number_on-total-requires-clause-lines : goal.number_on-total-requires-clause-lines
number_on-total-requires-clause-lines c = all_lines c.args.page.now c.requires

pub number_on-total-requires-clause-held : goal.number_on-total-requires-clause-held
number_on-total-requires-clause-held c =
    let b = c.args.page.now in
    held-rules b (f b c.requires).plain (switches_in b) (last_in b c.requires)

pub number_on-quantity-requires-clause-lines : goal.number_on-quantity-requires-clause-lines
number_on-quantity-requires-clause-lines c = all_lines c.args.page.now c.requires

pub number_on-quantity-requires-clause-held : goal.number_on-quantity-requires-clause-held
number_on-quantity-requires-clause-held c =
    let b = c.args.page.now in
    held-links b (f b c.requires).plain (switches_in b) (last_in b c.requires)

pub overflow_cast-result : goal.overflow_cast-result
overflow_cast-result c = omega (arith, (few c.args.page.now c.requires).0)

pub returns : goal.returns
unfolding counts_in
returns c = rw (c.column-rules.ensures, c.column-links.ensures, c.number_on-total.ensures.value, c.from.ensures, c.number_on-quantity.ensures.value) refl
