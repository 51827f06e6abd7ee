-- k is at most the allowance, and that at most 16: a shift of 1 by k drops nothing. As long as 2 ^ k is below the number of links, k is below the allowance; where 2 ^ k is
-- enough, k is no less than it.
use Rattle.std.proofs.Common.{ℕ, ◌^◌, ◌<◌, ◌≤◌, arith}
use lib.Pow.{pow_pos, pow_mono}
use Rattle.allowance.specs.Allowance.{allowance}
use Rattle.allowance.proofs.Ceiling.{allowance-least, allowance-above}
use Rattle.allowance.proofs.allowance.Goals as goal

few : (links k : ℕ) → links < 65536 → k ≤ allowance links → k ≤ 16
few links k h i = omega (arith, allowance-least links 16 (omega arith))

-- so 2 ^ k is from 1 to 2 ^ 16
power : (links k : ℕ) → links < 65536 → k ≤ allowance links → (1 ≤ 2 ^ k) × (2 ^ k ≤ 65536)
power links k h i = (pow_pos k, pow_mono (few links k h i))

pub loop-k-preserved : goal.loop-k-preserved
loop-k-preserved c =
    let e = power c.args.links c.loop-k.k (omega arith) c.loop-k.invariant in
    omega (arith, allowance-above c.args.links c.loop-k.k (omega arith))

pub overflow_shl-k : goal.overflow_shl-k
overflow_shl-k c = omega (arith, few c.args.links c.loop-k.k (omega arith) c.loop-k.invariant)

pub overflow_add-k : goal.overflow_add-k
overflow_add-k c = record { fits = omega (arith, few c.args.links c.loop-k.k (omega arith) c.loop-k.invariant) }

pub loop-k-smaller : goal.loop-k-smaller
loop-k-smaller c =
    let e = power c.args.links c.loop-k.k (omega arith) c.loop-k.invariant in
    omega (arith, allowance-above c.args.links c.loop-k.k (omega arith))

pub returns : goal.returns
returns c =
    let e = power c.args.links c.loop-k.k (omega arith) c.loop-k.invariant in
    omega (arith, allowance-least c.args.links c.loop-k.k (omega arith))
