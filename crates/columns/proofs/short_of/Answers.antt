-- The number so far has at most two digits, and the next byte is one.
use Rattle.std.proofs.Common.{◌≡◌, ap, ◌∙◌, arith}
use Rattle.std.proofs.Math.Seq.{take_all}
use Rattle.text.specs.Decimal.{read_decimal}
use Rattle.columns.proofs.Fields.{front_below, digit_at, read_next, short-below}
use Rattle.columns.proofs.short_of.Goals as goal

pub overflow_mul-n : goal.overflow_mul-n
overflow_mul-n c = omega (arith, front_below c.args.bytes.now c.requires c.loop-b.b-index c.loop-b-test.true)

pub overflow_sub-b : goal.overflow_sub-b
overflow_sub-b c = (digit_at c.args.bytes.now c.requires c.loop-b.b-index c.loop-b-test.true).0

pub overflow_add-n : goal.overflow_add-n
overflow_add-n c =
    omega (arith, c.from.ensures, front_below c.args.bytes.now c.requires c.loop-b.b-index c.loop-b-test.true, (digit_at c.args.bytes.now c.requires c.loop-b.b-index c.loop-b-test.true).1)

pub loop-b-preserved : goal.loop-b-preserved
loop-b-preserved c = omega (arith, c.loop-b.invariant, c.from.ensures, read_next c.args.bytes.now c.loop-b.b-index c.loop-b-test.true)

pub returns-clause-upper_bound : goal.returns-clause-upper_bound
returns-clause-upper_bound c =
    let bs = c.args.bytes.now in
    let e : c.loop-b.n ≡ read_decimal bs = c.loop-b.invariant ∙ ap read_decimal (take_all c.loop-b.b-index bs c.loop-b-test.false) in
    omega (arith, e, short-below bs c.requires)
