-- Document 02, order 8: four consoles, each with its own switches.
use Rattle.std.specs.Prelude.{◌≡◌, ◌∷◌, ◌++◌, ◌≤◌, ◌<◌, ◌^◌}
use Rattle.demands.specs.Vocabulary.{true, false, List, [], ℕ, given, refused, ◌>>=◌, Answer, answer}
use Rattle.demands.specs.Vocabulary.{Plant, max_switches, Bytes, reading, links_with, Outcome, Search, Call, gives, perform, begun}
use Rattle.demands.specs.Vocabulary.{give, new_search, sound_for, Searches, Console, Desk, Held, Option, None, search_from, set_out_of_range, has}
use Rattle.demands.specs.Vocabulary.{console_with, idle, fresh_desk, console_of, new_set, start, outcome, Request, switch_of, asking}
use Rattle.demands.specs.Vocabulary.{calling, DeskCall, answer_to, after, after_all, calls_of, answers_of, unknown, since, fed_in}

-- sets of switches, and a fresh desk
pub record Sets : Type 0 where
  -- 20, a bit at or above S (`ConditionsAre`): with as many switches as a plant can have, no set of 64 bits has one
  pub none_beyond : (set : ℕ) → set < 2 ^ max_switches → set_out_of_range max_switches set ≡ false
  -- "a fresh desk has empty sets and no search" (read aloud)
  pub fresh : (k : ℕ) → k ≤ 3 → console_of fresh_desk k ≡ idle
  pub empty : (k : ℕ) → k ≤ 3 → (x : ℕ) → has (console_of fresh_desk k).set x ≡ false
  pub no_search : (k : ℕ) → k ≤ 3 → (console_of fresh_desk k).search ≡ None

-- for a console k of the four, and a listing s that is read as a plant p: what a call does goes by S of p, and by E of the component of the
-- switch that it goes by, that of a start or of its search. `asks`, `keeps_search` and `replaces` are the definition of a call read aloud
pub record ConsoleCalls (k : ℕ) (s : List ℕ) (p : Plant) : Type 0 where
  pub asks : (r : Request) (c : Console) → answer (calling k s r c) ≡ answer (asking p.switches (links_with p (switch_of r c)) r c)
  -- "a console replaces its set": its search stays as it is, whatever it is
  pub keeps_search : (set : ℕ) (c a : Console) → answer (calling k s (new_set set) c) ≡ given a → a ≡ console_with set c.search
  -- "starts a search, which replaces its own", whatever that is; "injection must be at a switch of its set"
  pub replaces : (x set : ℕ) (h h' : Option Held)
      → answer (calling k s (start x) (console_with set h)) ≡ answer (calling k s (start x) (console_with set h'))
  pub in_set : (x : ℕ) (c a : Console) → answer (calling k s (start x) c) ≡ given a
      → (x < p.switches) × (has c.set x ≡ true) × (a ≡ console_with c.set (search_from x (new_search (links_with p x))))
  -- "or gives a fate to it": a search at a switch of the set that is sound for the listing is fed as by its own call, 14 and 15 included
  pub feeds : (o : Outcome) (set x : ℕ) (q : Search) → set_out_of_range p.switches set ≡ false → x < p.switches → has set x ≡ true
      → sound_for (links_with p x) q ≡ true
      → answer (calling k s (outcome o) (console_with set (search_from x q))) ≡ (answer (give q o) >>= λ r. given (console_with set (search_from x r)))

-- "a call touches only its console's set and search, and answers with both as they then stand"
pub record Isolated : Type 0 where
  -- what a call answers, and its console's set and search afterwards, are a function of that console's set and search and of the call
  pub own : (q : DeskCall) → (f : Console → Answer Console × Console)
      × ((d : Desk)
      → (answer_to d q ≡ (f (console_of d q.console)).0) × (console_of (after d q) q.console ≡ (f (console_of d q.console)).1))
  -- "as they then stand"
  pub stands : (d : Desk) (q : DeskCall) (c : Console) → answer_to d q ≡ given c → console_of (after d q) q.console ≡ c
  -- the other three are equal before and after
  pub others : (d : Desk) (q : DeskCall) (k : ℕ) → k ≤ 3 → (q.console ≡ k → ⊥) → console_of (after d q) k ≡ console_of d k

-- "two desks that agree on one console's set and search give that console equal answers for equal calls, whatever the other three hold":
-- for all lists of calls that have the same calls of console k, with any calls of the others between, on desks d and e; and they agree on
-- it afterwards
pub record Agreement (k : ℕ) (d e : Desk) (cs ds : List DeskCall) : Type 0 where
  pub answers : answers_of k d cs ≡ answers_of k e ds
  pub afterwards : console_of (after_all d cs) k ≡ console_of (after_all e ds) k

abbrev pub Agreeing : Type 0
Agreeing = (k : ℕ) → k ≤ 3 → (d e : Desk) (cs ds : List DeskCall) → console_of d k ≡ console_of e k → calls_of k cs ≡ calls_of k ds
    → Agreement k d e cs ds

-- `fed_in k d cs`, the calls of the list cs on a desk d that start and feed the search of console k: `since s x os`, the last start that was
-- not refused, at switch x with the listing s, and the outcomes os after it that were not refused, or `unknown` without such a start. What
-- it is before every call, and after one more call c
pub record FedCalls (k : ℕ) (d : Desk) (cs : List DeskCall) (c : DeskCall) : Type 0 where
  -- (read aloud)
  pub none : fed_in k d [] ≡ unknown
  -- a start of console k that is not refused, whatever was before it
  pub started : c.console ≡ k → (x : ℕ) → c.request ≡ start x → (a : Console) → answer_to (after_all d cs) c ≡ given a
      → fed_in k d (cs ++ c ∷ []) ≡ since c.listing x []
  -- an outcome of console k that is not refused is one more after the same start
  pub fed : c.console ≡ k → (o : Outcome) → c.request ≡ outcome o → (a : Console) → answer_to (after_all d cs) c ≡ given a
      → (s : List ℕ) (x : ℕ) (os : List Call) → fed_in k d cs ≡ since s x os → fed_in k d (cs ++ c ∷ []) ≡ since s x (os ++ gives o ∷ [])
  -- without a start before it, it tells nothing
  pub fed_unknown : c.console ≡ k → (o : Outcome) → c.request ≡ outcome o → fed_in k d cs ≡ unknown → fed_in k d (cs ++ c ∷ []) ≡ unknown
  -- a new set, a refused call and a call of another console leave it
  pub set_leaves : (set : ℕ) → c.request ≡ new_set set → fed_in k d (cs ++ c ∷ []) ≡ fed_in k d cs
  pub refusal_leaves : (n : ℕ) → answer_to (after_all d cs) c ≡ refused n → fed_in k d (cs ++ c ∷ []) ≡ fed_in k d cs
  pub others_leave : (c.console ≡ k → ⊥) → fed_in k d (cs ++ c ∷ []) ≡ fed_in k d cs

-- demand 3 of a console's search, for every list cs of calls on a desk d: where the calls that start and feed the search of console k are
-- the start at switch x with the listing s, and then the outcomes os, they do what demand 3 says of them, whatever the other consoles do
-- between
pub record ConsoleSearch (k : ℕ) (d : Desk) (cs : List DeskCall) (s : List ℕ) (x : ℕ) (os : List Call) : Type 0 where
  pub plant : Plant
  pub read : answer (reading s) ≡ given plant
  pub at_switch : x < plant.switches
  -- the console has the search from x to which the outcomes lead
  pub stands : (console_of (after_all d cs) k).search ≡ search_from x (perform (begun (links_with plant x)) os).state
  pub searches : Searches plant x os (perform (begun (links_with plant x)) os)

abbrev pub ConsoleSearches : Type 0
ConsoleSearches = (k : ℕ) → k ≤ 3 → (d : Desk) (cs : List DeskCall) (s : List ℕ) (x : ℕ) (os : List Call) → Bytes s
    → fed_in k d cs ≡ since s x os → ConsoleSearch k d cs s x os
