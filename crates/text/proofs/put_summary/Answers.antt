-- A number of 16 bits has at most five digits.
use Rattle.std.proofs.Common.{arith}
use Rattle.text.proofs.SizeLaws.{summary_most_lem}
use Rattle.text.proofs.put_summary.Goals as goal

pub put_line-requires : goal.put_line-requires
put_line-requires c =
    let f = c.ranges in
    omega (arith, summary_most_lem c.args.switches c.args.links c.args.bridges c.args.rules c.args.hops f.switches f.links f.bridges f.rules f.hops)

pub returns-clause-upper_bound : goal.returns-clause-upper_bound
returns-clause-upper_bound c =
    let f = c.ranges in
    omega (arith, c.put_line.ensures.place, summary_most_lem c.args.switches c.args.links c.args.bridges c.args.rules c.args.hops f.switches f.links f.bridges f.rules f.hops)
