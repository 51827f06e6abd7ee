-- Document 01's section "Search", with the sendings lost of document 02's order 4, in the values of states and outcomes
-- (search/specs/Values): of what the calls answer on every sound state that has not ended. An ended one is refused (15 of `ConditionsAre`),
-- and so is an unsound one (14). All but `between` and that values tell states apart is the definition of the calls read aloud.
use Rattle.std.specs.Prelude.{◌≡◌, ◌≤◌, ◌<◌, ◌+◌, ◌/◌}
use Rattle.demands.specs.Vocabulary.{ℕ, given, ◌>>=◌, Answer, answer, max_links, Outcome, Search, ask, give}
use Rattle.demands.specs.Vocabulary.{new_search, IsReturned, IsLost, Values, values_of, halving, all_up, down, outcome_number}
use Rattle.search.specs.Values.{checking}

-- what the call that gives an outcome answers, in values
abbrev pub after : Search → Outcome → Answer Values
after q o = answer (give q o) >>= λ r. given (values_of r)

-- q is Checking (E), with so many sendings lost
pub record CheckingIs (q : Search) (e lost : ℕ) : Type 0 where
  -- "Checking sends probe E"
  pub asks : answer (ask q) ≡ given e
  -- "home gives All up", "at the first that returns"
  pub home : (o : Outcome) → IsReturned o → after q o ≡ given all_up
  -- "lost gives Halving (1, E), or Down (1) if E = 1", "when three sendings in a row were lost"; no sending of the next probe is lost
  pub third_lost : (o : Outcome) → IsLost o → lost ≡ 2 → 2 ≤ e → after q o ≡ given (halving 1 e 0)
  pub third_lost_one : (o : Outcome) → IsLost o → lost ≡ 2 → e ≡ 1 → after q o ≡ given (down 1)
  -- "short of the third" only the sendings lost are one more
  pub lost_short : (o : Outcome) → IsLost o → lost < 2 → after q o ≡ given (checking e (lost + 1))

-- q is Halving (low, high), with so many sendings lost; it sends m
pub record HalvingIs (q : Search) (low high lost m : ℕ) : Type 0 where
  pub asks : answer (ask q) ≡ given m
  -- "home sets low to m + 1"; "when both agree, the state is Down"
  pub home : (o : Outcome) → IsReturned o → m + 1 < high → after q o ≡ given (halving (m + 1) high 0)
  pub home_agree : (o : Outcome) → IsReturned o → m + 1 ≡ high → after q o ≡ given (down high)
  -- "lost sets high to m"; "when both agree, the state is Down"
  pub third_lost : (o : Outcome) → IsLost o → lost ≡ 2 → low < m → after q o ≡ given (halving low m 0)
  pub third_lost_agree : (o : Outcome) → IsLost o → lost ≡ 2 → low ≡ m → after q o ≡ given (down low)
  pub lost_short : (o : Outcome) → IsLost o → lost < 2 → after q o ≡ given (halving low high (lost + 1))
  -- no other case is left: m is one of low .. high - 1
  pub between : (low ≤ m) × (m < high)

pub record SearchIs : Type 0 where
  -- values tell states and outcomes apart
  pub states_apart : (q r : Search) → values_of q ≡ values_of r → q ≡ r
  pub outcomes_apart : (o u : Outcome) → outcome_number o ≡ outcome_number u → o ≡ u
  -- "a new search is Checking (E), or All up with E = 0"; no sending is lost
  pub new : (e : ℕ) → 1 ≤ e → values_of (new_search e) ≡ checking e 0
  pub new_none : values_of (new_search 0) ≡ all_up
  -- what it sends, and where home and lost lead to, for up to 256 links and 0 to 2 sendings lost
  pub checking_is : (q : Search) (e lost : ℕ) → values_of q ≡ checking e lost → 1 ≤ e → e ≤ max_links → lost ≤ 2 → CheckingIs q e lost
  -- "Halving sends m = ⌊(low + high) ÷ 2⌋"
  pub halving_is : (q : Search) (low high lost : ℕ) → values_of q ≡ halving low high lost → 1 ≤ low → low < high → high ≤ max_links → lost ≤ 2
      → HalvingIs q low high lost ((low + high) / 2)
