-- Document 02, order 7: links laid up, here out of service.
use Rattle.std.specs.Prelude.{◌≡◌, ◌↔◌, ◌∷◌, ◌≤◌, ◌<◌, ◌+◌, ◌*◌, ◌/◌}
use Rattle.demands.specs.Vocabulary.{true, false, Bool, List, [], ℕ, T, ltb, length, In}
use Rattle.demands.specs.Vocabulary.{given, refused, ◌>>=◌, answer, check, ◌then◌, Link, Plant, live, marked, part, part_bytes}
use Rattle.demands.specs.Vocabulary.{link_with, bridge, live_links, Crosses, ClosedWalk, up_by_label, in_all, up_by, trail_of}
use Rattle.demands.specs.Vocabulary.{round_of, in_table, Search, running, checking, round_running, probing, Says}
use Rattle.listing.specs.Listing as listing
use Rattle.demands.specs.Names.{probe_at}
use Rattle.demands.specs.Demand3.{rule_labels}

-- how a listing marks them
pub record Marks : Type 0 where
  -- "bit 3 of a link's map, with no field, marks the link laid up. Its ends are still tested": a record with it is tried as the record
  -- without it, gives the same link with the mark, and ends at the same byte; without it the link is in service
  pub set : (switches : ℕ) (before : Link) (m : ℕ) (s : List ℕ) → m < 8
      → answer (listing.link switches before ((m + 8) ∷ s))
      ≡ (answer (listing.link switches before (m ∷ s)) >>= λ r. given (marked true r.0, r.1))
  pub not_set : (switches : ℕ) (before : Link) (m : ℕ) (s : List ℕ) → m < 8 → (l : Link) (t : List ℕ)
      → answer (listing.link switches before (m ∷ s)) ≡ given (l, t) → l.out_of_service ≡ false
  -- a record without it is read and written by document 01's three fields, first end, second end and tag, as without this order
  pub plain_read : (switches : ℕ) (before : Link) (m : ℕ) (s : List ℕ) → m < 8
      → listing.link switches before (m ∷ s)
      ≡ (part (listing.plain_fields before) (m ∷ s)
      then λ r. listing.sound_link switches (marked false (listing.link_from r.0))
      then λ _. check [] (marked false (listing.link_from r.0), r.1))
  pub plain_written : (before l : Link) → l.out_of_service ≡ false
      → listing.link_bytes before l ≡ part_bytes (listing.plain_fields before) (l.first ∷ l.second ∷ l.tag ∷ [])
  -- the record after a marked one takes its ends from it, as from any other (read aloud)
  pub next : (switches : ℕ) (mark : Bool) (before : Link) (s : List ℕ)
      → listing.link switches (marked mark before) s ≡ listing.link switches before s
  -- "in a link's map refusal 2 now covers bits 4 to 7"; a header has no bit 3
  pub undefined : (switches : ℕ) (before : Link) (m : ℕ) (s : List ℕ)
      → (answer (listing.link switches before (m ∷ s)) ≡ refused 2) ↔ (16 ≤ m)
  pub undefined_header : (m : ℕ) (s : List ℕ) → (answer (listing.header (m ∷ s)) ≡ refused 2) ↔ (8 ≤ m)

-- for every plant p that a listing is read as, and a link l of it that is marked
pub record OutOfService (p : Plant) (l : ℕ) : Type 0 where
  -- "it joins nothing", so that it is no bridge, whatever its ends are (read aloud)
  pub no_bridge : bridge p l ≡ false
  -- "no trail, closed walk or rule crosses it", nor does a round trail or a probe
  pub no_trail : Crosses l (trail_of p) → ⊥
  pub no_round : Crosses l (round_of p) → ⊥
  pub no_closed_walk : (w : List ℕ) → ClosedWalk p w → Crosses l w → ⊥
  pub no_probe : (x : ℕ) → x < p.switches → (m : ℕ) → Crosses l (probe_at p x m) → ⊥
  pub no_rule : (a at : ℕ) → a / 2 ≡ l → (In a (rule_labels p) → ⊥) × (in_table p at a ≡ false) × (in_all p at a ≡ false)
  -- it is a link of no component: so it is in no order of links and no search names it, by `Elsewhere` of order 9 (read aloud)
  pub no_component : (x : ℕ) → T (link_with p x l) → ⊥

-- two lists of state bytes, one for each link number in both, that tell the same of these links: those of the others may differ
pub record SameByLink (p : Plant) (links : ℕ → Bool) (states states' : List ℕ) : Type 0 where
  pub enough : (p.count ≤ length states) × (p.count ≤ length states')
  pub same : (l : ℕ) → T (links l) → up_by states l ≡ up_by states' l

-- so with one for each label
pub record SameByLabel (p : Plant) (links : ℕ → Bool) (states states' : List ℕ) : Type 0 where
  pub enough : (2 * p.count ≤ length states) × (2 * p.count ≤ length states')
  pub same : (a : ℕ) → T (links (a / 2)) → up_by_label states a ≡ up_by_label states' a

-- for every listing s that is read as a plant p, and one of its switches x
pub record StatesOf (s : List ℕ) (p : Plant) (x : ℕ) : Type 0 where
  -- "state bytes still cover every link number", in the round run every label: 13 of demand 1 goes by the listing's link count. But that of
  -- a link out of service is looked at by nobody; nor is that of a link elsewhere by the full check, by probes and by the round run (order
  -- 9)
  pub run : (labels states states' : List ℕ) → SameByLink p (live p) states states'
      → answer (running s x labels states) ≡ answer (running s x labels states')
  pub full_check : (w states states' : List ℕ) → SameByLink p (link_with p x) states states'
      → answer (checking s x w states) ≡ answer (checking s x w states')
  pub run_probe : (w states states' : List ℕ) (q : Search) → SameByLink p (link_with p x) states states'
      → answer (probing s x w states q) ≡ answer (probing s x w states' q)
  pub round_run_is : (w states states' : List ℕ) → SameByLabel p (link_with p x) states states'
      → answer (round_running s x w states) ≡ answer (round_running s x w states')
  -- nor does it matter for what a search says
  pub says : (states states' : List ℕ) (q : Search) → SameByLink p (link_with p x) states states' → Says p x states q → Says p x states' q

-- a plant without a mark: every link of its listing is in service, and what is said of the links in service is said of them all
pub record AllInService (p : Plant) : Type 0 where
  pub links : live p ≡ λ l. ltb l p.count
  pub number : live_links p ≡ p.count
