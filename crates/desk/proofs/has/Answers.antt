-- A number below 2 ^ x has no bit x, which is so of every set where x is no switch that a plant can have. Assumes nothing.
use Rattle.std.proofs.Common.{arith, ◌∙◌, ◌≤◌}
use borrow.Author.Tests.{le-ltb}
use lib.Pow.{pow_mono}
use Rattle.limits.specs.Limits.{max_switches}
use Rattle.desk.proofs.Sets.{small_has}
use Rattle.desk.proofs.has.Goals as goal

pub returns-else-x-lt-MAX_SWITCHES : goal.returns-else-x-lt-MAX_SWITCHES
returns-else-x-lt-MAX_SWITCHES c =
    let past : max_switches ≤ c.args.x = c.if-x-lt-MAX_SWITCHES.false in
    le-ltb c.args.x max_switches past ∙ small_has c.args.set c.args.x (omega (arith, c.ranges.set, pow_mono past))
