use Rattle.std.proofs.Common.{◌≡◌, ◌<◌, ℕ, drop, get_or}
use Rattle.caseform.proofs.input.Input.set.Given as goal

abbrev pub invariant-loop-byte : goal.invariant-loop-byte
invariant-loop-byte l =
    (l.self.rest.now ≡ drop l.byte-index l.fn.self.rest.now)
    × ((k d : ℕ) → k < l.byte-index → get_or l.byte-items k d ≡ get_or l.fn.self.rest.now k 0)
