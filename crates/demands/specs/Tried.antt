-- What demand 1 says of a call: which conditions it tries, each with its number and in which order, and that it is refused by the first
-- that holds and by nothing else. What each condition says is in `Conditions`. Assumes nothing.
use Rattle.std.specs.Prelude.{◌≡◌, ◌↔◌, ◌&&◌, ◌||◌}
use Rattle.demands.specs.Vocabulary.{true, false, Bool, List, ℕ, T, leb, In, given, refused, Answer, Conditions}
use Rattle.demands.specs.Vocabulary.{answer, NoneHolds, FirstHolds, Plant, reading, console_out_of_range}

-- the numbers of refusals: 1 to 8, and 10 to 21
abbrev pub is_refusal : ℕ → Bool
is_refusal n = (leb 1 n && leb n 8) || (leb 10 n && leb n 21)

-- the answer a is that of a call which tries these conditions in this order: it is refusal n exactly if condition n holds and none before
-- it does, and a result where none holds
pub record Tries {A : Type 0} (cs : Conditions) (a : Answer A) : Type 0 where
  pub refusals : (n : ℕ) → (a ≡ refused n) ↔ FirstHolds n cs
  pub otherwise : NoneHolds cs → (r : A) × (a ≡ given r)
  -- no refusal has another number
  pub no_other : (n : ℕ) → a ≡ refused n → T (is_refusal n)

-- of a call that is given a listing s: "every call given a listing first tries 1 to 8", and then, of one that is read as a plant, these
pub record TriesListing {A : Type 0} (s : List ℕ) (cs : Plant → Conditions) (a : Answer A) : Type 0 where
  pub listing_first : (n : ℕ) → answer (reading s) ≡ refused n → a ≡ refused n
  pub then_tries : (p : Plant) → answer (reading s) ≡ given p → Tries (cs p) a

-- of a call of console k that is given a listing: 19, "tried before every listing refusal", then these
pub record TriesConsole {A : Type 0} (k : ℕ) (s : List ℕ) (cs : Plant → Conditions) (a : Answer A) : Type 0 where
  pub console_first : console_out_of_range k ≡ true → a ≡ refused 19
  pub then_tries : console_out_of_range k ≡ false → TriesListing s cs a

-- a reading and a writing themselves are refused by these numbers alone; how their conditions follow each other is in `CheckingOrder`
abbrev pub RefusedBy : {A : Type 0} → List ℕ → Answer A → Type 0
RefusedBy ns a = (n : ℕ) → a ≡ refused n → In n ns

-- one answer is refused exactly as another is
abbrev pub RefusedAs : {A B : Type 0} → Answer A → Answer B → Type 0
RefusedAs a b = (n : ℕ) → (a ≡ refused n) ↔ (b ≡ refused n)
