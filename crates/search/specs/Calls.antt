-- A list of calls to a search, as document 01 tells it for demand 3: each call is handed the state that the last accepted outcome returned,
-- at first the new search; a call for a probe and a refused call leave that state as it is. The number of packets is the number of accepted
-- outcomes, and the number of probes that of those which settle their probe. What holds of outcomes is said of the sendings of the list:
-- the accepted outcomes in their order, each with its probe. Assumes nothing.
use Rattle.std.specs.Prelude.{◌≡◌, ◌⊎◌, Bool, ◌||◌, List, [], ◌∷◌, ◌++◌, ℕ, ◌+◌, eqb, leb, ltb}
use Rattle.lists.specs.Tests.{choose}
use Rattle.lists.specs.Count.{bit}
use Rattle.answers.specs.Answers.{Answer, given, refused}
use Rattle.answers.specs.Checks.{answer}
use Rattle.search.specs.declared.Search.{Search}
use Rattle.search.specs.declared.Outcome.{Outcome}
use Rattle.search.specs.declared.Outcome.TheVariants.{Returned, Lost}
use Rattle.search.specs.declared.Progress.{Progress}
use Rattle.search.specs.Search.{tries, new_search, settles, ask, give}
use Rattle.search.specs.Values.{IsReturned}

pub data Call : Type 0 where
  asks : Call
  gives : Outcome → Call

-- after an outcome: an accepted one is a packet, and counts its probe if it settles it; a refusal changes nothing
abbrev pub counted : Progress → Outcome → Answer Search → Progress
counted p o (given s) = record { state = s; probes = p.probes + bit (settles p.state o); packets = p.packets + 1 }
counted p o (refused n) = p

abbrev pub step : Progress → Call → Progress
step p asks = p
step p (gives o) = counted p o (answer (give p.state o))

abbrev pub perform : Progress → List Call → Progress
perform p [] = p
perform p (c ∷ cs) = perform (step p c) cs

-- a new search over e links
unfoldable pub begun : ℕ → Progress
begun e = record { state = new_search e; probes = 0; packets = 0 }

-- ---- the sendings of a list of calls

-- a probe, by its m, and the outcome of one of its sendings
pub data Sending : Type 0 where
  sent : ℕ → Outcome → Sending

-- an accepted outcome is of the probe whose m a call for a probe answers in the state that the outcome is given to
abbrev pub sending_of : Answer ℕ → Outcome → Answer Search → List Sending
sending_of (given m) o (given s) = sent m o ∷ []
sending_of (given m) o (refused n) = []
sending_of (refused n) o a = []

-- calls for a probe and refused calls are no sendings
abbrev pub sending_by : Search → Call → List Sending
sending_by s asks = []
sending_by s (gives o) = sending_of (answer (ask s)) o (answer (give s o))

abbrev pub sendings : Progress → List Call → List Sending
sendings p [] = []
sendings p (c ∷ cs) = sending_by p.state c ++ sendings (step p c) cs

-- how many of probe m returned, and how many were lost
abbrev pub returns_of : ℕ → List Sending → ℕ
returns_of m [] = 0
returns_of m (sent k Returned ∷ l) = bit (eqb m k) + returns_of m l
returns_of m (sent k Lost ∷ l) = returns_of m l

abbrev pub losses_of : ℕ → List Sending → ℕ
losses_of m [] = 0
losses_of m (sent k Returned ∷ l) = losses_of m l
losses_of m (sent k Lost ∷ l) = bit (eqb m k) + losses_of m l

-- were three sendings in a row of probe m lost, where n in a row were lost just before the list? A sending that returned, or of another
-- probe, ends a row
abbrev pub lost_in_row : ℕ → ℕ → List Sending → Bool
lost_in_row m n [] = leb tries n
lost_in_row m n (sent k Returned ∷ l) = leb tries n || lost_in_row m 0 l
lost_in_row m n (sent k Lost ∷ l) = leb tries n || lost_in_row m (choose (eqb m k) (n + 1) 0) l

-- is probe m counted? "As lost when three sendings in a row were lost, and as home at the first that returns"
abbrev pub counted_in : List Sending → ℕ → Bool
counted_in l m = ltb 0 (returns_of m l) || lost_in_row m 0 l

-- ---- what can be assumed of them, where `home m` is that the packet rule brings probe m home

module _ (home : ℕ → Type 0) where
  -- an outcome of returned is true if the packet rule says so, and lost always: "a fate of lost is then true over sound links too"
  abbrev pub TrueSending : Sending → Type 0
  TrueSending (sent m Returned) = home m
  TrueSending (sent m Lost) = Unit

  -- "of three sendings in a row of one probe over sound links, one returns", wherever in the list they stand
  abbrev pub OneReturns : List Sending → Type 0
  OneReturns l = (before after : List Sending) (m : ℕ) (a b c : Outcome) → l ≡ before ++ (sent m a ∷ sent m b ∷ sent m c ∷ after)
      → home m → IsReturned a ⊎ (IsReturned b ⊎ IsReturned c)
