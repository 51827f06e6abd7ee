use Rattle.std.proofs.Common.{length, ◌≤◌}
use Rattle.caseform.proofs.input.packet.Given as goal

abbrev pub invariant-loop : goal.invariant-loop
invariant-loop l = l.at ≤ length l.places
