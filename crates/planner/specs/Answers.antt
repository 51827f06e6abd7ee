-- What document 02's order 2 says of the rules by sending switch.
use Rattle.std.specs.Prelude.{◌≡◌, List, ℕ, Result, IsOkAnd}
use Rattle.plant.specs.declared.Plant.{Plant}
use Rattle.answers.specs.declared.Refusal.{Refusal}
use Rattle.answers.specs.Answers.{given}
use Rattle.answers.specs.Checks.{answer}
use Rattle.listing.specs.Listing.{reading}
use Rattle.senders.specs.declared.BySwitch.{BySwitch}
use Rattle.plan.specs.Totals.{Totals}

-- of those that a listing s gives which is read as a plant p
abbrev pub AddsUp : List ℕ → Result BySwitch Refusal → Type 0
AddsUp s r = (p : Plant) → answer (reading s) ≡ given p → IsOkAnd r (λ b. Totals p b)
