-- The lines of the switches and the last one, one after the other.
use Rattle.std.proofs.Common.{arith}
use Rattle.sheet.proofs.Page.{switches-size, page-laid}
use Rattle.sheet.proofs.put_page.Goals as goal

pub put_total-requires : goal.put_total-requires
put_total-requires c =
    let q = c.args.quote.now in
    omega (arith, switches-size q.sheet q.three_digits q.few q.sheet.switches (omega arith), c.put_switches-last.ensures.place)

pub returns : goal.returns
returns c =
    let q = c.args.quote.now in
    page-laid q.sheet c.args.buf.now q.three_digits q.few c.requires c.put_switches-last.ensures c.put_total.ensures
