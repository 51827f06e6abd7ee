-- Demand 1: each call answers a result, or a refusal exactly under its condition. That a refusal leaves what is lent as it was is in
-- `Untouched`, what each condition says in `Conditions`.
use Rattle.std.specs.Prelude.{◌∷◌, ◌*◌}
use Rattle.demands.specs.Vocabulary.{true, not, List, [], ℕ, given, Conditions, answer, Plant, reading, buffer_short}
use Rattle.demands.specs.Vocabulary.{writing, links_with, End, trail_of, round_of, switch_out_of_range, Span, stretch_of, front_of, Choice}
use Rattle.demands.specs.Vocabulary.{hops_in, spare_above, order_quantity, allowance, Outcome, Search, Call, sound, ended, ask, give}
use Rattle.demands.specs.Vocabulary.{outcome_of, trail_differs, hops_differ, states_short, search_unsound, formed, reading_page, page_short}
use Rattle.demands.specs.Vocabulary.{places_short, rewriting, rereading, summing, bridging, parting, tabling, counting, trailing}
use Rattle.demands.specs.Vocabulary.{round_trailing, buying, running, checking, round_running, choosing, ordering, outgoing, probing}
use Rattle.demands.specs.Vocabulary.{naming, beginning, performing, Desk, Held, Option, None, Some, set_out_of_range, outside_set, fresh_desk}
use Rattle.demands.specs.Vocabulary.{console_of, new_set, start, outcome, serving}
use Rattle.demands.specs.Tried.{Tries, TriesListing, TriesConsole, RefusedBy, RefusedAs}

-- what an outcome tries of the search that a console holds, with this set, in a plant: 15 if it has none
abbrev pub of_held : Plant → ℕ → Option Held → Conditions
of_held p set None = (15, true) ∷ []
of_held p set (Some h) =
    (11, switch_out_of_range p h.switch) ∷ (21, outside_set set h.switch) ∷ (14, search_unsound (links_with p h.switch) h.search)
    ∷ (15, ended h.search) ∷ []

-- A field for each call, as in docs/CALLS.md: the conditions that it tries, each with its number, in their order; of a reading and a
-- writing the numbers alone, since their conditions and order are `CheckingOrder`. Each is the call's definition read aloud, condition by
-- condition; of a call that tries nothing it says no more than that it gives a result.
pub record Demand1 : Type 0 where
  -- calls that are given a listing s or a plant p, and lent a buffer b
  pub read : (s : List ℕ) → RefusedBy (1 ∷ 2 ∷ 3 ∷ 4 ∷ 5 ∷ 6 ∷ 7 ∷ 8 ∷ []) (answer (reading s))
  pub write : (p : Plant) (b : List ℕ) → RefusedBy (5 ∷ 6 ∷ 7 ∷ 16 ∷ []) (answer (writing p b))
  pub rewrite : (s b : List ℕ) → TriesListing s (λ p. (16, buffer_short s b) ∷ []) (answer (rewriting s b))
  pub reread : (p : Plant) (b : List ℕ)
      → RefusedBy (5 ∷ 6 ∷ 7 ∷ 16 ∷ []) (answer (rereading p b)) × RefusedAs (answer (rereading p b)) (answer (writing p b))
  pub summarize : (s : List ℕ) → TriesListing s (λ p. []) (answer (summing s))
  pub find_bridges : (s : List ℕ) → TriesListing s (λ p. []) (answer (bridging s))
  pub find_components : (s : List ℕ) → TriesListing s (λ p. []) (answer (parting s))
  pub forwarding_table : (s : List ℕ) → TriesListing s (λ p. []) (answer (tabling s))
  pub rules_by_switch : (s : List ℕ) → TriesListing s (λ p. []) (answer (counting s))
  pub lay_trail : (s b : List ℕ) → TriesListing s (λ p. (10, places_short (trail_of p) b) ∷ []) (answer (trailing s b))
  pub lay_round_trail : (s b : List ℕ) → TriesListing s (λ p. (10, places_short (round_of p) b) ∷ []) (answer (round_trailing s b))
  pub write_buying_page : (s : List ℕ) (spare : ℕ) (b : List ℕ)
      → TriesListing s (λ p. (17, spare_above spare) ∷ (18, page_short p.switches b) ∷ []) (answer (buying s spare b))
  pub read_buying_page : (page : List ℕ) → Tries ((18, not (formed page)) ∷ []) (answer (reading_page page))
  pub order_quantity_is : (rules spare : ℕ) → Tries ((17, spare_above spare) ∷ []) (answer (order_quantity rules spare))
  pub allowance : (n : ℕ) → Tries [] (given (allowance n))
  -- calls that are given a listing s and a switch x, with labels, states, a lent trail w, a lent round trail or a search q
  pub run : (s : List ℕ) (x : ℕ) (labels states : List ℕ)
      → TriesListing s (λ p. (11, switch_out_of_range p x) ∷ (13, states_short p.count states) ∷ []) (answer (running s x labels states))
  pub outcome_of_is : (e : End) → Tries [] (given (outcome_of e))
  pub full_check : (s : List ℕ) (x : ℕ) (w states : List ℕ)
      → TriesListing s (λ p. (11, switch_out_of_range p x) ∷ (12, trail_differs p w) ∷ (13, states_short p.count states) ∷ [])
      (answer (checking s x w states))
  pub round_run_is : (s : List ℕ) (x : ℕ) (w states : List ℕ)
      → TriesListing s (λ p. (11, switch_out_of_range p x) ∷ (12, hops_differ (round_of p) w) ∷ (13, states_short (2 * p.count) states) ∷ [])
      (answer (round_running s x w states))
  pub shorter_trail : (s : List ℕ) (x : ℕ) (w v : List ℕ)
      → TriesListing s (λ p. (11, switch_out_of_range p x) ∷ (12, hops_differ (trail_of p) w) ∷ (12, hops_differ (round_of p) v) ∷ [])
      (answer (choosing s x w v))
  pub chosen : (w v : List ℕ) (c : Choice) → Tries [] (given (hops_in w v c))
  pub order_of_links : (s : List ℕ) (x : ℕ) (w : List ℕ)
      → TriesListing s (λ p. (11, switch_out_of_range p x) ∷ (12, trail_differs p w) ∷ []) (answer (ordering s x w))
  pub outward_labels : (s : List ℕ) (x : ℕ) (w : List ℕ) (q : Search)
      → TriesListing s
      (λ p. (11, switch_out_of_range p x) ∷ (12, trail_differs p w) ∷ (14, search_unsound (links_with p x) q) ∷ (15, ended q) ∷ [])
      (answer (outgoing s x w q))
  pub stretch : (w : List ℕ) (b : Span) → Tries [] (given (stretch_of w b))
  pub front : (w : List ℕ) (b : Span) → Tries [] (given (front_of w b))
  pub run_probe : (s : List ℕ) (x : ℕ) (w states : List ℕ) (q : Search)
      → TriesListing s
      (λ p. (11, switch_out_of_range p x) ∷ (12, trail_differs p w) ∷ (13, states_short p.count states)
      ∷ (14, search_unsound (links_with p x) q) ∷ (15, ended q) ∷ [])
      (answer (probing s x w states q))
  pub link_named : (s : List ℕ) (x : ℕ) (w : List ℕ) (q : Search)
      → TriesListing s (λ p. (11, switch_out_of_range p x) ∷ (12, trail_differs p w) ∷ (14, search_unsound (links_with p x) q) ∷ [])
      (answer (naming s x w q))
  pub new_search_is : (s : List ℕ) (x : ℕ) → TriesListing s (λ p. (11, switch_out_of_range p x) ∷ []) (answer (beginning s x))
  pub ask : (q : Search) → Tries ((14, not (sound q)) ∷ (15, ended q) ∷ []) (answer (ask q))
  pub give : (q : Search) (o : Outcome) → Tries ((14, not (sound q)) ∷ (15, ended q) ∷ []) (answer (give q o))
  pub perform : (s : List ℕ) (x : ℕ) (cs : List Call)
      → TriesListing s (λ p. (11, switch_out_of_range p x) ∷ []) (answer (performing s x cs))
  -- calls that are lent a desk d, and given a listing s and the number k of a console, with a set, a switch x or an outcome o
  pub fresh_desk_is : Tries [] (given fresh_desk)
  pub replace_set : (d : Desk) (s : List ℕ) (k set : ℕ)
      → TriesConsole k s (λ p. (20, set_out_of_range p.switches set) ∷ []) (answer (serving d k s (new_set set)))
  pub start_search : (d : Desk) (s : List ℕ) (k x : ℕ)
      → TriesConsole k s
      (λ p. (20, set_out_of_range p.switches (console_of d k).set) ∷ (11, switch_out_of_range p x)
      ∷ (21, outside_set (console_of d k).set x) ∷ [])
      (answer (serving d k s (start x)))
  pub give_outcome : (d : Desk) (s : List ℕ) (k : ℕ) (o : Outcome)
      → TriesConsole k s
      (λ p. (20, set_out_of_range p.switches (console_of d k).set) ∷ of_held p (console_of d k).set (console_of d k).search)
      (answer (serving d k s (outcome o)))
