-- What a call comes to: the conditions of its refusals, each with its number, in the order in which they are tried, and its result where
-- none of them holds. What a call answers is read off that. Assumes nothing.
use Rattle.std.specs.Prelude.{◌≡◌, Bool, true, false, List, [], ◌∷◌, ◌++◌, ℕ}
use Rattle.answers.specs.Answers.{Answer, given, refused, refuse}

-- each with its number
abbrev pub Conditions : Type 0
Conditions = List (ℕ × Bool)

-- none of them holds
abbrev pub NoneHolds : Conditions → Type 0
NoneHolds [] = Unit
NoneHolds (c ∷ cs) = (c.1 ≡ false) × NoneHolds cs

-- condition n holds, and none that is tried before it does
pub record FirstHolds (n : ℕ) (cs : Conditions) : Type 0 where
  pub before : Conditions
  pub after : Conditions
  pub tried : cs ≡ before ++ (n, true) ∷ after
  pub none_before : NoneHolds before

-- the answer a, once these conditions were tried: the refusal of the first that holds, or a
abbrev pub trying : {A : Type 0} → Conditions → Answer A → Answer A
trying [] a = a
trying (c ∷ cs) a = refuse c.0 c.1 (trying cs a)

-- ---- a call

pub record Checked (A : Type 0) : Type 0 where
  pub checks : Conditions
  pub result : A

abbrev pub check : {A : Type 0} → Conditions → A → Checked A
check cs a = record { checks = cs; result = a }

-- the refusal of the first condition that holds, or the result
abbrev pub answer : {A : Type 0} → Checked A → Answer A
answer c = trying c.checks (given c.result)

-- what the one tries, and then what the other does with its result
infixl 1 ◌then◌
abbrev pub ◌then◌ : {A B : Type 0} → Checked A → (A → Checked B) → Checked B
c then f = check (c.checks ++ (f c.result).checks) (f c.result).result

-- what it tries, with another result
infixl 1 ◌giving◌
abbrev pub ◌giving◌ : {A B : Type 0} → Checked A → (A → B) → Checked B
c giving f = check c.checks (f c.result)

-- what a call leaves of what it is lent, a buffer or a desk, b before: something by its result; at a refusal b as it was
abbrev pub leaves : {A B : Type 0} → (A → B) → B → Answer A → B
leaves f b (given a) = f a
leaves f b (refused n) = b
