-- The values of a search and of an outcome, as the papers number and name them. The promises speak of a state and of an outcome by these,
-- whatever the code calls its cases. Assumes nothing.
use Rattle.std.specs.Prelude.{◌≡◌, List, [], ◌∷◌, ℕ}
use Rattle.search.specs.declared.Search.{Search}
use Rattle.search.specs.declared.Search.TheVariants as state
use Rattle.search.specs.declared.Outcome.{Outcome}
use Rattle.search.specs.declared.Outcome.TheVariants as fate

-- ---- a state: the number of its kind (document 02, order 14: "0 Checking, 1 Halving, 2 All up, 3 Down"), then its values by document 01's
-- names, in order

abbrev pub Values : Type 0
Values = ℕ × List ℕ

-- "Checking (count), Halving (low, high), All up, or Down (place in the order, from 1)"; "Checking and Halving carry the sendings lost so
-- far" (document 02, order 4)
abbrev pub checking : ℕ → ℕ → Values
checking count lost = (0, count ∷ lost ∷ [])

abbrev pub halving : ℕ → ℕ → ℕ → Values
halving low high lost = (1, low ∷ high ∷ lost ∷ [])

abbrev pub all_up : Values
all_up = (2, [])

abbrev pub down : ℕ → Values
down place = (3, place ∷ [])

-- those of each case
abbrev pub values_of : Search → Values
values_of (state.Checking count lost) = checking count lost
values_of (state.Halving low high lost) = halving low high lost
values_of state.AllUp = all_up
values_of (state.Down place) = down place

abbrev pub IsAllUp : Search → Type 0
IsAllUp q = values_of q ≡ all_up

abbrev pub IsDown : ℕ → Search → Type 0
IsDown place q = values_of q ≡ down place

-- ---- an outcome (document 01: a fate): 0 lost, 1 home, which is returned here

abbrev pub outcome_number : Outcome → ℕ
outcome_number fate.Lost = 0
outcome_number fate.Returned = 1

abbrev pub IsLost : Outcome → Type 0
IsLost o = outcome_number o ≡ 0

abbrev pub IsReturned : Outcome → Type 0
IsReturned o = outcome_number o ≡ 1
