-- What is laid before a turn and the line that the turn lays are what is laid after it.
use Rattle.std.proofs.Common.{arith}
use Rattle.text.proofs.LaidLaws.{laid_then}
use Rattle.sheet.specs.Page.{switch_line}
use Rattle.sheet.proofs.Page.{switches-size, lines_after}
use Rattle.sheet.proofs.put_switches.Goals as goal

pub put_switch-next-requires-clause-line_columns_in_bounds : goal.put_switch-next-requires-clause-line_columns_in_bounds
put_switch-next-requires-clause-line_columns_in_bounds c =
    omega (arith, switches-size c.args.quote.now.sheet c.args.quote.now.three_digits c.args.quote.now.few c.loop-x.x (omega arith), c.loop-x.invariant.place)

pub loop-x-preserved : goal.loop-x-preserved
loop-x-preserved c = rw (lines_after (switch_line c.args.quote.now.sheet) c.loop-x.x) (laid_then c.loop-x.invariant c.put_switch-next.ensures)
