-- All that is promised, each as a statement that has its premises here: the three demands, and the promises of document 02's orders.
-- `promises` of proofs/Promises has this type and no other, which the gate holds: so nothing of it can be left out or weakened in a proof.
-- Document 01's links are those in service (document 02, order 7): `live p l` says whether link l is, `live_links p` counts them, and
-- `p.count` all links of the listing. What document 01 says of a connected plant is said of each component (order 9): `roots p` has the
-- switch at which each begins, `trail_of p` their trails one after another; of a named switch x, `trail_with p x` is the trail of its
-- component, `link_with p x l` says whether link l is one of it, and `links_with p x` is E.
use Rattle.std.specs.Prelude.{◌≡◌, ◌≤◌, ◌<◌}
use Rattle.demands.specs.Vocabulary.{true, false, Bool, List, ℕ, T, given, answer, Plant, is_out_of_service, reading}
use Rattle.demands.specs.Vocabulary.{links_with, link_with, End, run, Together, Connected, Outcome, Call, Sending, Sheet, Shown}
use Rattle.demands.specs.Vocabulary.{NoneBroken, Desk, DeskCall}
use Rattle.demands.specs.Names.{ReadAs}
use Rattle.demands.specs.Conditions.{ConditionsAre}
use Rattle.demands.specs.CheckingOrder.{CheckingOrder}
use Rattle.demands.specs.Demand1.{Demand1}
use Rattle.demands.specs.Untouched.{Untouched}
use Rattle.demands.specs.Demand2.{Demand2}
use Rattle.demands.specs.ListingBytes.{ListingBytes}
use Rattle.demands.specs.SearchIs.{SearchIs}
use Rattle.demands.specs.Demand3.{Demand3}
use Rattle.demands.specs.Answered.{Answered, AnsweredAlways}
use Rattle.demands.specs.Order1.{GotTo, PacketsTell, TwoWay}
use Rattle.demands.specs.Order2.{SameTotals, BySwitches, MoreBySwitch}
use Rattle.demands.specs.Order3.{PageWritten, PageLines, PageForm}
use Rattle.demands.specs.Order4.{Counted, TrueSendings, Premises, LostOverSound}
use Rattle.demands.specs.Ceilings.{Ceilings}
use Rattle.demands.specs.Order6.{RoundTrail, RoundRun, ShorterTrail, ByLabel}
use Rattle.demands.specs.Order7.{Marks, OutOfService, StatesOf, AllInService}
use Rattle.demands.specs.Order8.{Sets, ConsoleCalls, Isolated, Agreeing, FedCalls, ConsoleSearches}
use Rattle.demands.specs.Order9.{NeverNine, Parted, Elsewhere, NoLinks, OneComponent}

pub record Promises : Type 0 where
  pub demand_1 : Demand1
  pub untouched : Untouched
  -- what the conditions that it tries say
  pub conditions : ConditionsAre
  -- the order in which the reader and the writer try them
  pub checking_order : CheckingOrder
  pub demand_2 : Demand2
  -- what the bytes of a listing say
  pub listing_bytes : ListingBytes
  -- the search is document 01's, in its values
  pub search_is : SearchIs
  -- "the rule page is document 01's", and what a search does; order 4's promises with it
  pub demand_3 : (s : List ℕ) (p : Plant) → ReadAs s p → Demand3 s p
  -- what calls answer that these say nothing of, and what `rules` prints
  pub answered : (s : List ℕ) (p : Plant) → ReadAs s p → Answered s p
  pub answered_always : AnsweredAlways
  -- order 1: where a packet got to, whatever the rules are; and what the calls tell
  pub got_to : (rule : ℕ → ℕ → Bool) (up : ℕ → Bool) (hd : ℕ → ℕ) (at : ℕ) (w : List ℕ) → GotTo rule up hd at w (run rule up hd at 0 w)
  pub two_way : (e : End) → TwoWay e
  pub packets_tell : (s : List ℕ) (p : Plant) → ReadAs s p → (x : ℕ) → x < p.switches → PacketsTell s p x
  -- order 2: rules for each switch; "both totals must be the same number for every plant", sound or not
  pub same_totals : (p : Plant) → SameTotals p
  pub by_switches_is : (s : List ℕ) (p : Plant) → ReadAs s p → BySwitches s p
  pub more_by_switch : MoreBySwitch
  -- order 3: for every spare of 0 to 100 there are counts c, whose page is written; and what a reader accepts
  pub page_written : (s : List ℕ) (p : Plant) → ReadAs s p → (spare : ℕ) → spare ≤ 100 → (c : Sheet) × PageWritten s p spare c
  pub page_lines : (c : Sheet) → Shown c → PageLines c
  pub page_form : (b : List ℕ) → PageForm b
  -- order 4: what counts as a probe
  pub counted : Counted
  -- what its premises say; and they can hold of a search that ends where a sending over sound links was lost: for every plant and switch
  -- whose component has a link, if none of them is broken
  pub true_sendings : (actual : ℕ → Outcome) (l : List Sending) → TrueSendings actual l
  pub premises : (p : Plant) (x : ℕ) (states : List ℕ) (cs : List Call) → Premises p x states cs
  pub lost_over_sound : (s : List ℕ) (p : Plant) → ReadAs s p → (x : ℕ) → x < p.switches → 1 ≤ links_with p x → (states : List ℕ)
      → NoneBroken p x states → LostOverSound p x states
  -- order 5: the allowance keeps its meaning, as the order quantity has document 01's
  pub ceilings : Ceilings
  -- order 6: links that fail one way
  pub round_trail : (s : List ℕ) (p : Plant) → ReadAs s p → RoundTrail s p
  pub round_run_is : (s : List ℕ) (p : Plant) → ReadAs s p → (x : ℕ) → x < p.switches → RoundRun s p x
  pub shorter_trail : (s : List ℕ) (p : Plant) → ReadAs s p → (x : ℕ) → x < p.switches → ShorterTrail s p x
  pub by_label_is : (s : List ℕ) (p : Plant) → ReadAs s p → (x : ℕ) → x < p.switches → (states : List ℕ) → Together (link_with p x) states
      → ByLabel p x states
  -- order 7: links out of service
  pub marks : Marks
  pub out_of_service : (s : List ℕ) (p : Plant) → ReadAs s p → (l : ℕ) → is_out_of_service p l ≡ true → OutOfService p l
  pub states_of : (s : List ℕ) (p : Plant) → ReadAs s p → (x : ℕ) → x < p.switches → StatesOf s p x
  pub all_in_service : (p : Plant) → ((l : ℕ) → l < p.count → is_out_of_service p l ≡ false) → AllInService p
  -- order 8: four consoles
  pub sets : Sets
  pub console_calls : (k : ℕ) → k ≤ 3 → (s : List ℕ) (p : Plant) → answer (reading s) ≡ given p → ConsoleCalls k s p
  pub isolated : Isolated
  pub agreeing : Agreeing
  pub fed_calls : (k : ℕ) (d : Desk) (cs : List DeskCall) (c : DeskCall) → FedCalls k d cs c
  pub console_searches : ConsoleSearches
  -- order 9: plants in several components
  pub never_nine : NeverNine
  pub parted : (s : List ℕ) (p : Plant) → ReadAs s p → Parted s p
  pub elsewhere : (s : List ℕ) (p : Plant) → ReadAs s p → (x : ℕ) → x < p.switches → (l : ℕ) → (T (link_with p x l) → ⊥) → Elsewhere s p x l
  pub no_links_is : (s : List ℕ) (p : Plant) → ReadAs s p → (x : ℕ) → x < p.switches → links_with p x ≡ 0 → NoLinks s p x
  pub one_component : (s : List ℕ) (p : Plant) → ReadAs s p → Connected p → OneComponent s p
