-- The switch, and then its numbers.
use Rattle.std.proofs.Common.{arith}
use Rattle.text.proofs.LaidLaws.{laid_then}
use Rattle.sheet.proofs.Page.{switch_field_lem, switch_is, numbers-size}
use Rattle.sheet.proofs.put_switch.Goals as goal

pub put_right-next-requires-clause-room : goal.put_right-next-requires-clause-room
put_right-next-requires-clause-room c =
    let q = c.args.quote.now in
    omega (arith, switch_field_lem q.sheet q.three_digits q.few c.args.x c.requires.x_lt_switches)

pub put_numbers-requires-clause-room : goal.put_numbers-requires-clause-room
put_numbers-requires-clause-room c =
    let h = c.requires.x_lt_switches in
    let q = c.args.quote.now in
    omega (arith, switch_field_lem q.sheet q.three_digits q.few c.args.x h, numbers-size _ _ (q.three_digits.rules c.args.x h) (q.three_digits.links c.args.x h))

pub returns : goal.returns
returns c =
    let q = c.args.quote.now in
    rw (switch_is q.sheet q.three_digits q.few c.args.x c.requires.x_lt_switches) (laid_then c.put_right-next.ensures c.put_numbers.ensures)
