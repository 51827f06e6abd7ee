-- A call's result in the code: what it gives, or its refusal and nothing else. Contracts go by these, and no promise needs them. Assumes
-- nothing.
use Rattle.std.specs.Prelude.{◌≡◌, Result, Ok, Err}
use Rattle.answers.specs.declared.Refusal.{Refusal}
use Rattle.answers.specs.Answers.{Answer, given, number_of, refused}
use Rattle.answers.specs.Checks.{Conditions, trying}

-- the answer that a result is, where what it gives stands for f of it
abbrev pub answer_as : {A B : Type 0} → (A → B) → Result A Refusal → Answer B
answer_as f (Ok a) = given (f a)
answer_as f (Err k) = refused (number_of k)

-- the answer that a result is
abbrev pub answer_of : {A : Type 0} → Result A Refusal → Answer A
answer_of r = answer_as (λ a. a) r

-- the result r is that of these conditions
pub record Judges (cs : Conditions) (r : Result Unit Refusal) : Type 0 where
  pub first : answer_of r ≡ trying cs (given tt)
