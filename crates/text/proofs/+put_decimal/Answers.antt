-- After the digits of the tenth there is room for the last digit.
use Rattle.std.proofs.Common.{List, ℕ, ◌≤◌, ◌<◌, ◌/◌, ◌%◌, length, arith}
use Rattle.text.specs.Decimal.{digit, decimal}
use Rattle.text.specs.Laid.{Room, Laid}
use Rattle.text.proofs.DecimalLaws.{decimal_more, length_more}
use Rattle.text.proofs.LaidLaws.{laid-byte, laid_same, laid_then}
use Rattle.text.proofs.+put_decimal.Goals as goal

last-in : (n : ℕ) {b c : List ℕ} {at next : ℕ} → 1000 ≤ n → Room b at (decimal n) → Laid b at (decimal (n / 10)) c next → next < length c
last-in n h r l = omega (arith, length_more n (omega arith), laid_same l, l.place)

pub put_decimal-last-requires : goal.put_decimal-last-requires
put_decimal-last-requires t c = (omega (arith, c.decreases), omega (arith, length_more c.args.n (omega arith)))

pub bounds-buf-last : goal.bounds-buf-last
bounds-buf-last t c = last-in c.args.n c.if-n-lt1000.false c.requires c.put_decimal-last.ensures

pub returns : goal.returns
returns t c =
    let l = c.put_decimal-last.ensures in
    rw (decimal_more c.args.n (omega arith)) (laid_then l (laid-byte _ _ (digit (c.args.n % 10)) (last-in c.args.n c.if-n-lt1000.false c.requires l)))
