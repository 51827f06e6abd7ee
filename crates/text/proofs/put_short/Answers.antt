-- By cases one, two or three bytes.
use Rattle.std.proofs.Common.{List, ◌+◌, ◌≤◌, ◌<◌, length, ℕ, ◌/◌, ◌%◌, ap, arith, length-set}
use Rattle.text.specs.Decimal.{digit, decimal}
use Rattle.text.specs.Laid.{Room}
use Rattle.text.proofs.DecimalLaws.{decimal-last, decimal-two, decimal-three}
use Rattle.text.proofs.LaidLaws.{laid-byte, laid-two, laid-three}
use Rattle.text.proofs.put_short.Goals as goal

one-in : (b : List ℕ) (at n : ℕ) → n < 10 → Room b at (decimal n) → at < length b
one-in b at n h r = omega (arith, ap length (decimal-last n h))

two-in : (b : List ℕ) (at n : ℕ) → 10 ≤ n → n < 100 → Room b at (decimal n) → at + 1 < length b
two-in b at n h k r = omega (arith, ap length (decimal-two n h k))

three-in : (b : List ℕ) (at n : ℕ) → 100 ≤ n → n < 1000 → Room b at (decimal n) → at + 2 < length b
three-in b at n h k r = omega (arith, ap length (decimal-three n h k))

pub returns-then-n-lt100 : goal.returns-then-n-lt100
returns-then-n-lt100 c =
    rw (decimal-two c.args.n (omega arith) (omega arith)) (laid-two c.args.buf.now c.args.at (digit (c.args.n / 10)) (digit (c.args.n % 10)) (two-in _ _ _ (omega arith) (omega arith) c.requires.1))

pub bounds-buf-at : goal.bounds-buf-at
bounds-buf-at c = one-in _ _ _ (omega arith) c.requires.1

pub returns-then-n-lt10 : goal.returns-then-n-lt10
returns-then-n-lt10 c =
    rw (decimal-last c.args.n (omega arith)) (laid-byte c.args.buf.now c.args.at (digit c.args.n) (one-in _ _ _ (omega arith) c.requires.1))

pub bounds-buf-at-then-n-lt100 : goal.bounds-buf-at-then-n-lt100
bounds-buf-at-then-n-lt100 c = omega (arith, two-in _ _ _ (omega arith) (omega arith) c.requires.1)

pub bounds-buf-at-then-n-lt100-2 : goal.bounds-buf-at-then-n-lt100-2
bounds-buf-at-then-n-lt100-2 c = simp length-set (two-in _ _ _ (omega arith) (omega arith) c.requires.1)

pub bounds-buf-at-2 : goal.bounds-buf-at-2
bounds-buf-at-2 c = omega (arith, three-in _ _ _ (omega arith) c.requires.0 c.requires.1)

pub bounds-buf-at-3 : goal.bounds-buf-at-3
bounds-buf-at-3 c = simp length-set (omega (arith, three-in _ _ _ (omega arith) c.requires.0 c.requires.1))

pub bounds-buf-at-4 : goal.bounds-buf-at-4
bounds-buf-at-4 c = simp length-set (three-in _ _ _ (omega arith) c.requires.0 c.requires.1)

pub returns : goal.returns
returns c =
    rw (decimal-three c.args.n (omega arith) c.requires.0) (laid-three c.args.buf.now c.args.at (digit (c.args.n / 100)) (digit (c.args.n / 10 % 10)) (digit (c.args.n % 10)) (three-in _ _ _ (omega arith) c.requires.0 c.requires.1))
