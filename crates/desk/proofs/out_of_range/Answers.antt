-- Refusal 20: no set has a bit past the switches that a plant can have, and else the bits at or above S are what is left by a shift. Assumes nothing.
use Rattle.std.proofs.Common.{arith, ◌≤◌}
use lib.Pow.{pow_mono}
use Rattle.limits.specs.Limits.{max_switches}
use Rattle.desk.proofs.Sets.{none_above, shifted_out}
use Rattle.desk.proofs.out_of_range.Goals as goal

pub returns-then-not-all : goal.returns-then-not-all
returns-then-not-all c = shifted_out c.args.set c.args.switches

pub returns-else-not-all : goal.returns-else-not-all
returns-else-not-all c =
    let many : max_switches ≤ c.args.switches = omega arith in
    grind (arith, none_above c.args.set c.args.switches (omega (arith, c.ranges.set, pow_mono many)))
