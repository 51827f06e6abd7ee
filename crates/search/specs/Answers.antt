-- What the code's answers say. Contracts go by it, and no promise needs it. Assumes nothing.
use Rattle.std.specs.Prelude.{[], ◌∷◌, List, ℕ, ◌≤◌, eqb}
use Rattle.lists.specs.Tests.{choose}
use Rattle.search.specs.declared.Said.{Said}
use Rattle.search.specs.declared.Said.TheVariants as said
use Rattle.search.specs.declared.Outcome.{Outcome}
use Rattle.search.specs.declared.Outcome.TheVariants.{Returned, Lost}
use Rattle.search.specs.Calls.{Call, asks, gives}

-- what it says names no place, or one of the places 1 .. e
abbrev pub SaysIn : ℕ → Said → Type 0
SaysIn e said.Open = Unit
SaysIn e said.AllUp = Unit
SaysIn e (said.Down place) = (1 ≤ place) × (place ≤ e)

-- a call as a byte: 0 asks for a probe, 1 gives returned, any other gives lost
abbrev pub outcome_in : ℕ → Outcome
outcome_in b = choose (eqb b 1) Returned Lost

unfoldable pub call_in : ℕ → Call
call_in b = choose (eqb b 0) asks (gives (outcome_in b))

abbrev pub calls_in : List ℕ → List Call
calls_in [] = []
calls_in (b ∷ bs) = call_in b ∷ calls_in bs
