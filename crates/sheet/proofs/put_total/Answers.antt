-- The word, and then the numbers.
use Rattle.std.proofs.Common.{arith}
use Rattle.text.proofs.LaidLaws.{laid_then}
use Rattle.sheet.proofs.Page.{total-is, numbers-size}
use Rattle.sheet.proofs.put_total.Goals as goal

pub put_numbers-requires-clause-room : goal.put_numbers-requires-clause-room
put_numbers-requires-clause-room c =
    omega (arith, numbers-size _ _ c.args.quote.now.three_digits.total c.args.quote.now.three_digits.quantity)

pub returns : goal.returns
returns c = rw (total-is c.args.quote.now.sheet c.args.quote.now.three_digits) (laid_then c.put_left-next.ensures c.put_numbers.ensures)
