-- Document 02, order 1: where the packet got to.
use Rattle.std.specs.Prelude.{◌≡◌, ◌⊎◌, ◌↔◌, ◌≤◌, ◌<◌, ◌*◌, ◌/◌}
use Rattle.demands.specs.Vocabulary.{true, false, Bool, List, ℕ, length, get_or, take, given, answer}
use Rattle.demands.specs.Vocabulary.{Plant, head, links_with, used, FirstDown, probe_rules, nth, End, run, leads_to, back, in_all, up_by}
use Rattle.demands.specs.Vocabulary.{up_by_link, in_table, Search, wanted, IsReturned, IsLost, outcome_of, running, checking, probing}
use Rattle.demands.specs.Vocabulary.{out_labels, actual_outcome}
use Rattle.demands.specs.Names.{ring_at, order_at, probe_at, probe_run_at}

-- what the answer e of a run tells: of a packet from switch `at` with labels w, under these rules, by the labels that are up
pub record GotTo (rule : ℕ → ℕ → Bool) (up : ℕ → Bool) (hd : ℕ → ℕ) (at : ℕ) (w : List ℕ) (e : End) : Type 0 where
  -- "the hops made are the labels before the first one that has no rule at the switch then reached or whose link is down"
  pub crossed : (i : ℕ) → i < e.hops → (rule (leads_to hd at (take i w)) (get_or w i 0) ≡ true) × (up (get_or w i 0) ≡ true)
  pub stopped : e.hops < length w
      → (rule (leads_to hd at (take e.hops w)) (get_or w e.hops 0) ≡ false) ⊎ (up (get_or w e.hops 0) ≡ false)
  pub most : e.hops ≤ length w
  -- "the switch last reached" is where they lead
  pub reached : e.last ≡ leads_to hd at (take e.hops w)
  -- the packet has ended exactly if they are all its labels
  pub ended : (e.ended ≡ true) ↔ (e.hops ≡ length w)

-- what the answer e of probe m tells, from injection switch x and by one byte for each link; `out_labels p x m` is its way out, for the full
-- check the whole ring
pub record ProbeGotTo (p : Plant) (x : ℕ) (states : List ℕ) (m : ℕ) (e : End) : Type 0 where
  -- one that has returned is back at its switch, and "the way back counts on": as many hops as out; the full check has no way back
  pub there_and_back : m < links_with p x → e.ended ≡ true → e ≡ record { ended = true; hops = 2 * length (out_labels p x m); last = x }
  pub round : m ≡ links_with p x → e.ended ≡ true → e ≡ record { ended = true; hops = length (ring_at p x); last = x }
  -- one that is lost is lost on its way out, since it comes back over the links that it went out by
  pub lost_out : e.ended ≡ false → (e.hops < length (out_labels p x m)) × (e.last ≡ leads_to (head p) x (take e.hops (out_labels p x m)))
  -- the label that it did not cross is of the first broken link in the order, which is the one that the search names
  pub lost_at : e.ended ≡ false
      → (k : ℕ) × FirstDown (up_by states) (order_at p x) k × (nth (order_at p x) k ≡ get_or (out_labels p x m) e.hops 0 / 2)

-- "who used the old two-way fate reads it out of the new one", of every answer e of a run: returned exactly if it has ended, else lost
pub record TwoWay (e : End) : Type 0 where
  pub returned : IsReturned (outcome_of e) ↔ (e.ended ≡ true)
  pub lost : IsLost (outcome_of e) ↔ (e.ended ≡ false)

-- for every listing that is read as a plant, and every one of its switches: what the calls that run a packet tell
pub record PacketsTell (s : List ℕ) (p : Plant) (x : ℕ) : Type 0 where
  -- whatever labels are up: with all labels of its way out crossed, a probe goes back from where they lead, and counts on from as many hops
  -- as they are
  pub counts_on : (up : ℕ → Bool) (m : ℕ) → m < links_with p x → (run (in_all p) up (head p) x 0 (out_labels p x m)).ended ≡ true
      → probe_run_at p x up m
      ≡ run (in_all p) up (head p) (leads_to (head p) x (out_labels p x m)) (length (out_labels p x m)) (back (out_labels p x m))
  -- the answers of the calls: packets of free labels and the full check run under the rule page, every other probe under the rules of all
  -- arcs
  pub run : (labels states : List ℕ) (e : End) → answer (running s x labels states) ≡ given e
      → GotTo (in_table p) (up_by_link states) (head p) x labels e
  pub full_check : (w states : List ℕ) (e : End) → answer (checking s x w states) ≡ given e
      → GotTo (in_table p) (up_by_link states) (head p) x (ring_at p x) e × ProbeGotTo p x states (links_with p x) e
  pub run_probe : (w states : List ℕ) (q : Search) (e : End) → answer (probing s x w states q) ≡ given e
      → GotTo (probe_rules p (used p) (links_with p x) (wanted q)) (up_by_link states) (head p) x (probe_at p x (wanted q)) e
      × ProbeGotTo p x states (wanted q) e
  -- the two-way outcome of the answer is the one that demand 3 speaks of
  pub outcome : (w states : List ℕ) (q : Search) (e : End) → answer (probing s x w states q) ≡ given e
      → outcome_of e ≡ actual_outcome p x states (wanted q)
