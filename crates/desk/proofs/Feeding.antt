-- An outcome that is given to a console's search in a call with a listing: refusal 14 by the listing and then what the search's own call answers, and what the console
-- answers by that. Assumes nothing.
use mathlib.Core.Path.{◌≡◌, sym, ◌∙◌}
use mathlib.Core.Bool.{true}
use Prim.Native.Nat.{ℕ}
use Rattle.std.specs.Prelude.{Result, Ok, Err, IsErrAnd}
use Rattle.std.proofs.Math.Bool.{and-true}
use Rattle.answers.specs.declared.Refusal.{Refusal}
use Rattle.answers.specs.Answers.{given}
use Rattle.answers.specs.Checks.{answer, trying}
use Rattle.answers.specs.Results.{answer_of, Judges}
use Rattle.answers.proofs.Results.{exit, err_giving, passed}
use Rattle.search.specs.declared.Search.{Search}
use Rattle.search.specs.declared.Outcome.{Outcome}
use Rattle.search.specs.Search.{sound_for, next, give}
use Rattle.judging.specs.Conditions.{search_unsound, wanted_checks}
use Rattle.desk.specs.declared.Console.{Console}
use Rattle.desk.specs.Console.{switch_checks, console_with, search_from}
use Rattle.desk.specs.Inner.{giving_to, feeding}

module _ (e : ℕ) (q : Search) (o : Outcome) where
  pub given-sound : sound_for e q ≡ true → answer (give q o) ≡ answer (giving_to e q o)
  unfolding giving_to give search_unsound
  given-sound t = rw (t, and-true)

  -- a console with that search at switch x: 11 and 21 of the switch, then that
  pub fed-refused : (s set x : ℕ) (v : Result Unit Refusal) → Judges (switch_checks s set x) v → (u : Unit) → v ≡ Ok u → (a : Result Search Refusal)
      → answer_of a ≡ answer (giving_to e q o) → (k : Refusal) → a ≡ Err k → (r : Result Console Refusal) → IsErrAnd r (λ y. y ≡ k) → answer_of r ≡ answer (feeding s e o set x q)
  unfolding feeding giving_to
  fed-refused s set x v j u f a g k h r i =
      exit (λ y. y) r k i
      ∙ sym (passed (switch_checks s set x) v j (trying (wanted_checks e q) (given (console_with set (search_from x (next q o))))) u f
      ∙ err_giving (λ y. y) (giving_to e q o) a g (λ (p : Search). console_with set (search_from x p)) k h)
