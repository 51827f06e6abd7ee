-- The legs of the trails from the roots before number i are found.
use Rattle.std.proofs.Common.{◌≡◌, length}
use Rattle.limits.specs.Limits.{max_switches, max_rules}
use Rattle.legs.specs.Several.{Several}
use Rattle.legs.proofs.Several.{Listed}
use Rattle.legs.proofs.legs_of.Given as goal

abbrev pub invariant-loop-i : goal.invariant-loop-i
invariant-loop-i l = (length l.aims ≡ max_rules) × (length l.list ≡ max_switches) × ((w : Several l.net l.tails l.heads l.chains.first l.chains.after l.t l.roots) → Listed w l.i l.aims l.list l.from)
