-- The numbers of the refusals, and what a call answers: its result or the number of a refusal (document 01, "Refusals in checking order").
-- Assumes nothing.
use Rattle.std.specs.Prelude.{Bool, true, false, ℕ}
use Rattle.answers.specs.declared.Refusal.{Refusal}
use Rattle.answers.specs.declared.Refusal.TheVariants as is

-- no refusal has the number 9 (document 02, order 9)
abbrev pub number_of : Refusal → ℕ
number_of is.MapMissing = 1
number_of is.MapUndefined = 2
number_of is.FieldMissing = 3
number_of is.FieldRedundant = 4
number_of is.ValueOutOfRange = 5
number_of is.EndOutOfRange = 6
number_of is.SelfLink = 7
number_of is.BytesRemain = 8
number_of is.TrailBufferShort = 10
number_of is.SwitchOutOfRange = 11
number_of is.TrailDiffers = 12
number_of is.StatesShort = 13
number_of is.SearchUnsound = 14
number_of is.SearchEnded = 15
number_of is.ListingBufferShort = 16
number_of is.SpareTooLarge = 17
number_of is.BuyingPageUnfit = 18
number_of is.ConsoleOutOfRange = 19
number_of is.SetOutOfRange = 20
number_of is.SwitchOutsideSet = 21

-- what a call answers: its result, or the number of its refusal and nothing else
pub data Answer (A : Type 0) : Type 0 where
  given : A → Answer A
  refused : ℕ → Answer A

-- a condition that is tried: where it holds, the call is refused with its number
abbrev pub refuse : {A : Type 0} → ℕ → Bool → Answer A → Answer A
refuse n true a = refused n
refuse n false a = a

-- what follows an answer: a result goes on, a refusal stands
infixl 1 ◌>>=◌
abbrev pub ◌>>=◌ : {A B : Type 0} → Answer A → (A → Answer B) → Answer B
given a >>= f = f a
refused n >>= f = refused n
