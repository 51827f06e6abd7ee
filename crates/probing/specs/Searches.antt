-- What demand 3 says of a list of calls to a search, document 02's order 4 included, as one statement: `Searches`. Demand 3
-- (demands/specs/Demand3) is this for every list of calls, and the contract of the call `perform` is this of what it answers. Assumes
-- nothing.
use Rattle.std.specs.Prelude.{◌≡◌, ◌↔◌, true, false, List, ℕ, ◌+◌, ◌*◌, ◌^◌, ◌≤◌, T, length}
use Rattle.lists.specs.Members.{Each}
use Rattle.lists.specs.Count.{count}
use Rattle.plant.specs.declared.Plant.{Plant}
use Rattle.answers.specs.Answers.{given}
use Rattle.answers.specs.Checks.{answer}
use Rattle.walks.specs.Components.{link_with, links_with}
use Rattle.plan.specs.Plan.{trail_with}
use Rattle.rings.specs.Rules.{up_by}
use Rattle.rings.specs.Injection.{order_of}
use Rattle.rings.specs.FirstDown.{FirstDown}
use Rattle.packet.specs.Outcome.{outcome_of}
use Rattle.search.specs.declared.Search.{Search}
use Rattle.search.specs.declared.Outcome.{Outcome}
use Rattle.search.specs.declared.Progress.{Progress}
use Rattle.search.specs.Search.{ended, ask, give}
use Rattle.search.specs.Values.{IsAllUp, IsDown, IsReturned}
use Rattle.search.specs.Calls.{Call, begun, Sending, sendings, returns_of, losses_of, counted_in, TrueSending, OneReturns}
use Rattle.search.specs.Limit.{limit}
use Rattle.probing.specs.Calls.{probe_end}

-- ---- the most probes

-- k is ⌈log2 e⌉: the least number with 2 ^ k at least e
pub record CeilLog (e k : ℕ) : Type 0 where
  pub enough : e ≤ 2 ^ k
  pub least : (j : ℕ) → e ≤ 2 ^ j → k ≤ j

-- n is "1 + ⌈log2 E⌉, or none for E = 0"
pub record MostProbes (e n : ℕ) : Type 0 where
  pub none : e ≡ 0 → n ≡ 0
  pub some : 1 ≤ e → (k : ℕ) × CeilLog e k × (n ≡ 1 + k)

-- ---- the sendings, and what is assumed of them

-- the accepted outcomes of a list of calls after a new search from injection switch x, each with the m of its probe; E, the links in
-- service of the component of x, is `links_with p x`
abbrev pub sent_over : Plant → ℕ → List Call → List Sending
sent_over p x cs = sendings (begun (links_with p x)) cs

-- injection switch x, and the states of the links, a byte for each, which do not change during the list
module _ (p : Plant) (x : ℕ) (states : List ℕ) where
  -- no link is broken, where a link is broken if its state is down: its byte is 0. "A search's verdict speaks of its island's links in
  -- service alone"
  abbrev pub NoneBroken : Type 0
  NoneBroken = (l : ℕ) → T (link_with p x l) → up_by states l ≡ false → ⊥

  -- the outcome (fate) that probe m has by the packet rule
  unfoldable pub actual_outcome : ℕ → Outcome
  actual_outcome m = outcome_of (probe_end p x states m)

  -- the packet rule brings probe m home: it goes over sound links alone
  abbrev pub ComesHome : ℕ → Type 0
  ComesHome m = IsReturned (actual_outcome m)

  -- the first premise: every accepted outcome is true; returned is true if the packet rule says so, and lost always
  abbrev pub AllTrue : List Call → Type 0
  AllTrue cs = Each (TrueSending ComesHome) (sent_over p x cs)

  -- the second: "of three sendings in a row of one probe over sound links, one returns". It goes by the list of the accepted outcomes,
  -- whatever the state holds, so that a search with a broken counter does not meet the demand for nothing: one that gave a probe up after
  -- two losses, or took the losses of one probe for those of the next, would have no three in a row there, and its verdict would be wrong;
  -- one that never gave it up would pass the bound on packets
  abbrev pub OneOfThree : List Call → Type 0
  OneOfThree cs = OneReturns ComesHome (sent_over p x cs)

  -- "all up exactly when no link is broken, and otherwise names the first broken link in the trail's order from the injection switch"
  pub record Says (state : Search) : Type 0 where
    pub all_up : IsAllUp state ↔ NoneBroken
    pub first_broken : (NoneBroken → ⊥) → (k : ℕ) × IsDown k state × FirstDown (up_by states) (order_of p (trail_with p x) x) k

-- ---- the statement

-- what holds of r, where the calls cs led to after a new search from injection switch x, over the E links of its component
pub record Searches (p : Plant) (x : ℕ) (cs : List Call) (r : Progress) : Type 0 where
  -- what is counted, by the sendings alone: a probe is told by its m, and counts if one of its sendings returned or three in a row were
  -- lost; each sending is a packet
  pub probes_are : r.probes ≡ count (links_with p x + 1) (counted_in (sent_over p x cs))
  pub packets_are : r.packets ≡ length (sent_over p x cs)
  -- "whatever fates are given, the probes number at most 1 + ⌈log2 E⌉, or none for E = 0, and with that many the search has ended"
  pub limit_is : MostProbes (links_with p x) (limit (links_with p x))
  pub few : r.probes ≤ limit (links_with p x)
  pub enough : r.probes ≡ limit (links_with p x) → ended r.state ≡ true
  -- "packets are at most three times that", three at most of one probe
  pub packets_few : r.packets ≤ 3 * limit (links_with p x)
  pub thrice : (m : ℕ) → returns_of m (sent_over p x cs) + losses_of m (sent_over p x cs) ≤ 3
  -- until it has ended, a call for a probe answers one of 1 .. E, and an outcome is accepted
  pub goes_on : ended r.state ≡ false → (m : ℕ) × (1 ≤ m) × (m ≤ links_with p x) × (answer (ask r.state) ≡ given m)
  pub accepts : ended r.state ≡ false → (o : Outcome) → (s : Search) × (answer (give r.state o) ≡ given s)
  -- "the search's verdict, all up included, holds provided that, of three sendings in a row of one probe over sound links, one returns"
  pub says : (states : List ℕ) → AllTrue p x states cs → OneOfThree p x states cs → ended r.state ≡ true → Says p x states r.state
  -- All up is right by the first premise alone
  pub up_right : (states : List ℕ) → AllTrue p x states cs → IsAllUp r.state → NoneBroken p x states
