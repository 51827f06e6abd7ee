-- Before each turn the numbers of the first x lines are at their places.
use Rattle.lists.proofs.Laid.{Laid}
use Rattle.limits.specs.Limits.{max_switches}
use Rattle.columns.specs.Fields.{number_in}
use Rattle.sheet.specs.Columns.{columns_of}
use Rattle.sheet.specs.Form.{line_at}
use Rattle.readback.proofs.column.Given as goal

abbrev pub invariant-loop-x : goal.invariant-loop-x
invariant-loop-x l = Laid 0 max_switches (λ k. number_in (columns_of l.from l.to (line_at l.page k))) l.x l.numbers
