-- What a call begins with that is given a listing and a switch, but for the calls of a console: refusals 1 to 8, then 11 (document 01,
-- "Refusals in checking order").
use Rattle.std.specs.Prelude.{Bool, List, [], ◌∷◌, ℕ, leb}
use Rattle.plant.specs.declared.Plant.{Plant}
use Rattle.answers.specs.Checks.{Checked, check, ◌then◌}
use Rattle.listing.specs.Listing.{reading}

-- 11: a named switch is not below S
unfoldable pub switch_out_of_range : Plant → ℕ → Bool
switch_out_of_range p x = leb p.switches x

-- 1 to 8, then 11, or the plant
unfoldable pub planning_at : List ℕ → ℕ → Checked Plant
planning_at s x = reading s then λ p. check ((11, switch_out_of_range p x) ∷ []) p
