-- Values tell states and outcomes apart. Assumes nothing.
use mathlib.Core.Path.{◌≡◌, refl, sym, ap, ◌∙◌}
use mathlib.Core.List.{List}
use Prim.Native.Nat.{ℕ, zero, suc}
use lib.ListN.{get_or}
use Rattle.search.specs.declared.Search.{Search}
use Rattle.search.specs.declared.Search.TheVariants.{Checking, Halving, AllUp, Down}
use Rattle.search.specs.declared.Outcome.{Outcome}
use Rattle.search.specs.declared.Outcome.TheVariants.{Returned, Lost}
use Rattle.search.specs.Values.{Values, values_of, IsAllUp, IsDown, outcome_number, IsReturned, IsLost}

-- the state of given values, and the outcome of a number
abbrev state_of : ℕ → List ℕ → Search
state_of zero vs = Checking (get_or vs 0 0) (get_or vs 1 0)
state_of (suc zero) vs = Halving (get_or vs 0 0) (get_or vs 1 0) (get_or vs 2 0)
state_of (suc (suc zero)) vs = AllUp
state_of (suc (suc (suc n))) vs = Down (get_or vs 0 0)

state_again : (q : Search) → state_of (values_of q).0 (values_of q).1 ≡ q
state_again (Checking count lost) = refl
state_again (Halving low high lost) = refl
state_again AllUp = refl
state_again (Down place) = refl

pub same-state : (q r : Search) → values_of q ≡ values_of r → q ≡ r
same-state q r e = sym (state_again q) ∙ ap (λ (v : Values). state_of v.0 v.1) e ∙ state_again r

pub is-all_up : (q : Search) → IsAllUp q → q ≡ AllUp
is-all_up q e = same-state q AllUp e

pub is_down : (q : Search) (k : ℕ) → IsDown k q → q ≡ Down k
is_down q k e = same-state q (Down k) e

abbrev outcome_of : ℕ → Outcome
outcome_of zero = Lost
outcome_of (suc n) = Returned

outcome_again : (o : Outcome) → outcome_of (outcome_number o) ≡ o
outcome_again Lost = refl
outcome_again Returned = refl

pub same_outcome : (o u : Outcome) → outcome_number o ≡ outcome_number u → o ≡ u
same_outcome o u e = sym (outcome_again o) ∙ ap outcome_of e ∙ outcome_again u

pub is-returned : (o : Outcome) → IsReturned o → o ≡ Returned
is-returned o e = same_outcome o Returned e

pub is_lost : (o : Outcome) → IsLost o → o ≡ Lost
is_lost o e = same_outcome o Lost e
