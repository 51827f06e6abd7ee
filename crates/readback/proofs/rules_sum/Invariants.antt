-- Before each turn the total is the sum of the rules in the first x lines.
use Rattle.std.proofs.Common.{◌≡◌, ◌*◌, ◌≤◌}
use Rattle.lists.specs.Sum.{sum}
use Rattle.sheet.specs.Form.{rules_on}
use Rattle.readback.proofs.rules_sum.Given as goal

abbrev pub invariant-loop-x : goal.invariant-loop-x
invariant-loop-x l = (l.total ≡ sum l.x (rules_on l.page)) × (l.total ≤ 1000 * l.x)
