-- Demand 3: the rule page and the search.
use Rattle.std.specs.Prelude.{◌≡◌, ◌↔◌, ◌∷◌, ◌++◌, ◌≤◌, ◌<◌, ◌+◌, ◌*◌}
use Rattle.demands.specs.Vocabulary.{true, List, [], map, flatten, ℕ, T, length, get_or, count}
use Rattle.demands.specs.Vocabulary.{Each, In, memb, given, refused, answer, Plant, live, max_rules, tail, head, links_with, roots}
use Rattle.demands.specs.Vocabulary.{live_links, Crosses, ClosedWalk, ClosedWalks, bridges, trail_from, FirstDown, nth, up_by, Table}
use Rattle.demands.specs.Vocabulary.{zero_rule, trail_of, rules_of, Outcome, Search, Call, asks, gives, perform, begun, Sending, sent}
use Rattle.demands.specs.Vocabulary.{ended, ask, give, new_search, IsDown, IsReturned, tabling, naming, beginning, performing, link}
use Rattle.demands.specs.Vocabulary.{probe_end, AllTrue, OneOfThree, Searches, sent_over, Says}
use Rattle.demands.specs.Names.{order_at}

-- the labels of the rules
abbrev pub rule_labels : Plant → List ℕ
rule_labels p = map (λ r. r.label) (rules_of p)

-- how many different arcs a walk crosses
abbrev pub arcs_crossed : Plant → List ℕ → ℕ
arcs_crossed p w = count (2 * p.count) (λ a. memb a w)

-- "its rules are those for the arcs that the trail crosses, they number its links plus its bridges", and they are "the fewest that any set
-- of closed walks crossing every link in service can use"
pub record RulePage (p : Plant) : Type 0 where
  -- a rule is the sending switch, the label and the receiving switch of its arc; there is one for each arc that the trails cross, and no
  -- other
  pub of_arcs : rules_of p ≡ map (λ a. record { from = tail p a; label = a; to = head p a }) (rule_labels p)
  pub crossed : (a : ℕ) → In a (rule_labels p) ↔ In a (trail_of p)
  -- "by rising label": so each once
  pub rising : (i j : ℕ) → i < j → j < length (rule_labels p) → get_or (rule_labels p) i 0 < get_or (rule_labels p) j 0
  pub number : length (rules_of p) ≡ live_links p + bridges p
  -- every list of closed walks which together cross every link in service, either way, uses at least as many different directed arcs; one
  -- closed walk is such a list
  pub fewest : (ws : List (List ℕ)) → ClosedWalks p ws → ((l : ℕ) → T (live p l) → Crosses l (flatten ws))
      → length (rules_of p) ≤ arcs_crossed p (flatten ws)
  pub fewest_one : (w : List ℕ) → ClosedWalk p w → ((l : ℕ) → T (live p l) → Crosses l w) → length (rules_of p) ≤ arcs_crossed p w
  -- the trails are such a list, and use just as many
  pub attained : ClosedWalks p (map (trail_from p) (roots p)) × ((l : ℕ) → T (live p l) → Crosses l (trail_of p))
      × (arcs_crossed p (trail_of p) ≡ length (rules_of p))

-- the rule page as it is handed back, "by value with its count, unused places zero"
pub record PageHanded (p : Plant) (t : Table) : Type 0 where
  pub page_count : t.count ≡ length (rules_of p)
  pub page_places : length t.rules ≡ max_rules
  -- its rules are those of `RulePage`, in their order
  pub page_each : (i : ℕ) → i < length (rules_of p) → get_or t.rules i zero_rule ≡ get_or (rules_of p) i zero_rule
  pub page_zeros : (i : ℕ) → length (rules_of p) ≤ i → get_or t.rules i zero_rule ≡ record { from = 0; label = 0; to = 0 }

-- "a fate is true if it is the one that probe m … has by the packet rule under the link states": returned exactly if its packet has ended,
-- and else lost
abbrev pub ByRule : Plant → ℕ → List ℕ → Sending → Type 0
ByRule p x states (sent m o) = IsReturned o ↔ ((probe_end p x states m).ended ≡ true)

-- what one more call does after a list of calls cs, from injection switch x; `sent_over p x cs` has the sendings of the list, which its
-- packets and probes and the premises of its verdict are said of
pub record CallByCall (p : Plant) (x : ℕ) (cs : List Call) : Type 0 where
  -- "each call is handed the state that the last accepted fate returned, at first the new search" (read aloud)
  pub first : ((perform (begun (links_with p x)) []).state ≡ new_search (links_with p x)) × (sent_over p x [] ≡ [])
  pub accepted : (o : Outcome) (q : Search) (m : ℕ) → answer (give (perform (begun (links_with p x)) cs).state o) ≡ given q
      → answer (ask (perform (begun (links_with p x)) cs).state) ≡ given m
      → ((perform (begun (links_with p x)) (cs ++ gives o ∷ [])).state ≡ q)
      × (sent_over p x (cs ++ gives o ∷ []) ≡ sent_over p x cs ++ sent m o ∷ [])
  -- "a call for a probe and a refused call leave that state as it is", and are no sendings
  pub asked : (perform (begun (links_with p x)) (cs ++ asks ∷ []) ≡ perform (begun (links_with p x)) cs)
      × (sent_over p x (cs ++ asks ∷ []) ≡ sent_over p x cs)
  pub refusal : (o : Outcome) (n : ℕ) → answer (give (perform (begun (links_with p x)) cs).state o) ≡ refused n
      → (perform (begun (links_with p x)) (cs ++ gives o ∷ []) ≡ perform (begun (links_with p x)) cs)
      × (sent_over p x (cs ++ gives o ∷ []) ≡ sent_over p x cs)

-- for every listing that is read as a plant
pub record Demand3 (s : List ℕ) (p : Plant) : Type 0 where
  -- "the rule page is document 01's"
  pub page : (t : Table) × (answer (tabling s) ≡ given t) × PageHanded p t
  pub rules : RulePage p
  -- "for every list of calls that ask for a probe or give a fate, refused ones included, after a new search over E links from any injection
  -- switch": the search begins, the calls lead to r (these two are read aloud), and what holds of r is one statement, `Searches` of
  -- probing/specs/Searches
  pub begins : (x : ℕ) → x < p.switches → answer (beginning s x) ≡ given (new_search (links_with p x))
  pub performs : (x : ℕ) → x < p.switches → (cs : List Call) → answer (performing s x cs) ≡ given (perform (begun (links_with p x)) cs)
  pub call_by_call : (x : ℕ) → x < p.switches → (cs : List Call) → CallByCall p x cs
  pub searches : (x : ℕ) → x < p.switches → (cs : List Call) → Searches p x cs (perform (begun (links_with p x)) cs)
  -- both premises can hold of a search that ends, whatever the states are
  pub reached : (x : ℕ) → x < p.switches → (states : List ℕ)
      → (cs : List Call) × AllTrue p x states cs × OneOfThree p x states cs × (ended (perform (begun (links_with p x)) cs).state ≡ true)
  -- "names the first broken link in the trail's order from the injection switch": with Down k under both premises, the call that names a
  -- link answers that one
  pub names : (x : ℕ) → x < p.switches → (cs : List Call) (states : List ℕ) → AllTrue p x states cs → OneOfThree p x states cs
      → (k : ℕ) → IsDown k (perform (begun (links_with p x)) cs).state
      → (answer (naming s x (trail_of p) (perform (begun (links_with p x)) cs).state) ≡ given (link (nth (order_at p x) k)))
      × FirstDown (up_by states) (order_at p x) k
  -- where every accepted fate is true in document 01's sense, so that no packet vanishes, both premises hold, and so does the verdict of an
  -- ended search; and there is such a list of calls that ends the search, whatever the states are
  pub by_rule : (x : ℕ) → x < p.switches → (cs : List Call) (states : List ℕ) → Each (ByRule p x states) (sent_over p x cs)
      → AllTrue p x states cs × OneOfThree p x states cs
  pub says_by_rule : (x : ℕ) → x < p.switches → (cs : List Call) (states : List ℕ) → Each (ByRule p x states) (sent_over p x cs)
      → ended (perform (begun (links_with p x)) cs).state ≡ true → Says p x states (perform (begun (links_with p x)) cs).state
  pub reached_by_rule : (x : ℕ) → x < p.switches → (states : List ℕ)
      → (cs : List Call) × Each (ByRule p x states) (sent_over p x cs) × (ended (perform (begun (links_with p x)) cs).state ≡ true)
