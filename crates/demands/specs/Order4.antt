-- Document 02, order 4: packets that vanish. What a search does with them is in `Searches` of probing/specs/Searches; here what counts as a
-- probe, of any list of sendings, and what the two premises of its verdict say.
use Rattle.std.specs.Prelude.{◌≡◌, ◌⊎◌, ◌↔◌, ◌∷◌, ◌++◌}
use Rattle.demands.specs.Vocabulary.{true, List, ℕ, T, Each, Plant, links_with, up_by_link, Outcome, Call}
use Rattle.demands.specs.Vocabulary.{perform, begun, Sending, sent, counted_in, TrueSending, OneReturns, ended, IsReturned, IsLost}
use Rattle.demands.specs.Vocabulary.{probe_end, AllTrue, OneOfThree, sent_over}
use Rattle.demands.specs.Names.{probe_run_at}

-- a sending of probe m returned
pub record ReturnedIn (m : ℕ) (l : List Sending) : Type 0 where
  pub before : List Sending
  pub after : List Sending
  pub o : Outcome
  pub returned : IsReturned o
  pub there : l ≡ before ++ (sent m o ∷ after)

-- three sendings in a row of probe m were lost
pub record LostInRow (m : ℕ) (l : List Sending) : Type 0 where
  pub before : List Sending
  pub after : List Sending
  pub a : Outcome
  pub b : Outcome
  pub c : Outcome
  pub lost : IsLost a × IsLost b × IsLost c
  pub there : l ≡ before ++ (sent m a ∷ sent m b ∷ sent m c ∷ after)

-- "a probe now counts as lost when three sendings in a row were lost, and as home at the first that returns": when it counts; what it then
-- counts as is in `SearchIs`
abbrev pub Counted : Type 0
Counted = (l : List Sending) (m : ℕ) → T (counted_in l m) ↔ (ReturnedIn m l ⊎ LostInRow m l)

-- ---- the premises

-- what is assumed of a list of sendings, where probe m has the outcome `actual m` by the packet rule, and comes home if that is returned
pub record TrueSendings (actual : ℕ → Outcome) (l : List Sending) : Type 0 where
  -- every sending is true: one that returned is of a probe that comes home; nothing is asked of one that was lost, since "a fate of lost is
  -- then true over sound links too"
  pub all_true : Each (TrueSending (λ m. IsReturned (actual m))) l ↔ ((m : ℕ) → ReturnedIn m l → IsReturned (actual m))
  -- "of three sendings in a row of one probe over sound links, one returns": no three in a row of a probe that comes home were lost
  pub one_returns : OneReturns (λ m. IsReturned (actual m)) l ↔ ((m : ℕ) → IsReturned (actual m) → LostInRow m l → ⊥)

-- so the premises of demand 3, of a list of calls after a new search from injection switch x, by the states of the links: `sent_over p x cs`
-- has its accepted outcomes, each with its probe, and the packet rule brings probe m home if its run has ended
pub record Premises (p : Plant) (x : ℕ) (states : List ℕ) (cs : List Call) : Type 0 where
  pub all_true : AllTrue p x states cs ↔ ((m : ℕ) → ReturnedIn m (sent_over p x cs) → (probe_end p x states m).ended ≡ true)
  -- that is the run of `InjectionIs` (read aloud)
  pub probe_end_is : (m : ℕ) → probe_end p x states m ≡ probe_run_at p x (up_by_link states) m
  pub one_of_three : OneOfThree p x states cs ↔ ((m : ℕ) → (probe_end p x states m).ended ≡ true → LostInRow m (sent_over p x cs) → ⊥)

-- a sending of probe m was lost
pub record LostIn (m : ℕ) (l : List Sending) : Type 0 where
  pub before : List Sending
  pub after : List Sending
  pub o : Outcome
  pub lost : IsLost o
  pub there : l ≡ before ++ (sent m o ∷ after)

-- a search that ends, of which both premises hold, and in which a sending of a probe that comes home was lost
pub record LostOverSound (p : Plant) (x : ℕ) (states : List ℕ) : Type 0 where
  pub calls : List Call
  pub all_true : AllTrue p x states calls
  pub one_of_three : OneOfThree p x states calls
  pub ends : ended (perform (begun (links_with p x)) calls).state ≡ true
  pub probe : ℕ
  pub home : (probe_end p x states probe).ended ≡ true
  pub lost : LostIn probe (sent_over p x calls)
