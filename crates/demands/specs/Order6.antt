-- Document 02, order 6: links that fail one way.
use Rattle.std.specs.Prelude.{◌≡◌, ◌↔◌, ◌∷◌, ◌++◌, ◌≤◌, ◌<◌, ◌+◌, ◌*◌, ◌/◌}
use Rattle.demands.specs.Vocabulary.{true, List, ℕ, T, length, drop, take, Each, In}
use Rattle.demands.specs.Vocabulary.{given, answer, Plant, tail, head, opposite, links_with, root_of, roots, component_of, link_with}
use Rattle.demands.specs.Vocabulary.{live_links, visited_from, entered_from, earlier_from, ClosedWalk, tour_from, round_from, ByRoundRule}
use Rattle.demands.specs.Vocabulary.{End, FirstHop, up_by_label, EveryUp, Vouches, link_bytes, in_all, up_by, trail_of, round_of, trail_with}
use Rattle.demands.specs.Vocabulary.{round_with, round_begin_of, AreRounds, Choice, hops_in, Call, perform, begun, TrueSending, OneReturns}
use Rattle.demands.specs.Vocabulary.{ended, IsReturned, outcome_of, round_trailing, round_laid_out, round_running, choosing, probe_end}
use Rattle.demands.specs.Vocabulary.{sent_over, Says}
use Rattle.demands.specs.Names.{probe_run_at, round_ring_at, round_place_at}
use Rattle.demands.specs.Order1.{GotTo}

-- for every listing s that is read as a plant p: its round trails, of two hops to each link in service
pub record RoundTrail (s : List ℕ) (p : Plant) : Type 0 where
  -- "visit as in document 01": the switches and the entered arcs that each goes by are those of the plan
  pub visit : (r : ℕ) → In r (roots p) → (tour_from p r).seen ≡ visited_from p r
  -- "an entered link is crossed, its far side finished, then crossed back; any other link is crossed and crossed back from the end where it
  -- is first met": each goes by this rule, and no other list of labels does
  pub by_rule : (r : ℕ) → In r (roots p) → ByRoundRule p r (round_from p r)
  pub only : (r : ℕ) → In r (roots p) → (w : List ℕ) → ByRoundRule p r w → w ≡ round_from p r
  -- a link that is not entered "is crossed and crossed back from the end where it is first met": its later visited end, and at once
  pub first_met_is : (r : ℕ) → In r (roots p) → (x y : List ℕ) (a : ℕ) → round_from p r ≡ x ++ (a ∷ y) → (In (opposite a) x → ⊥)
      → (T (entered_from p r (a / 2)) → ⊥)
      → T (earlier_from p r (head p a) (tail p a)) × ((z : List ℕ) × (y ≡ opposite a ∷ z))
  -- "a round trail that crosses each of the 2×E arcs just once": so each of its component, and all together of the plant
  pub are : AreRounds p
  -- "no closed walk with that property", that its packet comes home exactly if every direction of a component is up, "has fewer hops",
  -- wherever the packet is injected
  pub fewest : (x y : ℕ) (w : List ℕ) → x < p.switches → ClosedWalk p w → Vouches p (link_with p x) y w → length (round_with p x) ≤ length w
  -- "round trails are made and laid likewise": a buffer with enough places begins with them, and places past them stay; one with fewer is
  -- 10, by demand 1
  pub laid : (b : List ℕ) → 2 * live_links p ≤ length b
      → (answer (round_trailing s b) ≡ given (2 * live_links p)) × (round_laid_out s b ≡ round_of p ++ drop (2 * live_links p) b)

-- for every switch x of it: the round run, over the round trail of its component
pub record RoundRun (s : List ℕ) (p : Plant) (x : ℕ) : Type 0 where
  -- that stands among the round trails of all, from the hops of those before it on
  pub stretch : take (length (round_with p x)) (drop (round_begin_of p (component_of p x)) (round_of p)) ≡ round_with p x
  -- it begins at the place of the switch on it; at the root that is the round trail itself
  pub place : 1 ≤ links_with p x → FirstHop (tail p) x (round_with p x) (round_place_at p x)
  pub place_lent : 1 ≤ links_with p x → FirstHop (tail p) x (round_of p) (round_begin_of p (component_of p x) + round_place_at p x)
  pub at_root : x ≡ root_of p x → round_ring_at p x ≡ round_with p x
  -- "its packet comes home exactly if every direction is up": it "vouches for its island alone"
  pub vouches : Vouches p (link_with p x) x (round_ring_at p x)
  -- "a lent trail may have spare places here": the round trails with any places after them are taken, with a byte for each label at least
  pub taken : (spare states : List ℕ) → 2 * p.count ≤ length states
      → (e : End) × (answer (round_running s x (round_of p ++ spare) states) ≡ given e)
  -- and whatever was lent, the answer is of the component's own hops
  pub home : (w states : List ℕ) (e : End) → answer (round_running s x w states) ≡ given e
      → (e.ended ≡ true) ↔ EveryUp p (link_with p x) states
  pub back_home : (w states : List ℕ) (e : End) → answer (round_running s x w states) ≡ given e → e.ended ≡ true
      → e ≡ record { ended = true; hops = 2 * links_with p x; last = x }
  pub got_to : (w states : List ℕ) (e : End) → answer (round_running s x w states) ≡ given e
      → GotTo (in_all p) (up_by_label states) (head p) x (round_ring_at p x) e

-- the choice "for the ordinary check", from a switch x, "within a named switch's island"
pub record ShorterTrail (s : List ℕ) (p : Plant) (x : ℕ) : Type 0 where
  -- the trails and the round trails of all components are taken with any places after them
  pub taken : (spare spare' : List ℕ) → (c : Choice) × (answer (choosing s x (trail_of p ++ spare) (round_of p ++ spare')) ≡ given c)
  -- what is handed back of two lent trails is "the trail's own stretch of whichever of the two lent trails has fewer hops, document 01's if
  -- equal", and no spare place
  pub trail : (w v : List ℕ) (c : Choice) → answer (choosing s x w v) ≡ given c → length (trail_with p x) ≤ length (round_with p x)
      → hops_in w v c ≡ trail_with p x
  pub round : (w v : List ℕ) (c : Choice) → answer (choosing s x w v) ≡ given c → length (round_with p x) < length (trail_with p x)
      → hops_in w v c ≡ round_with p x

-- how probe m comes out by a byte for each label
abbrev pub end_by_label : Plant → ℕ → List ℕ → ℕ → End
end_by_label p x states m = probe_run_at p x (up_by_label states) m

-- "searches keep one byte a link, and their verdicts hold for links whose two directions are up or down together": from injection switch x,
-- by states of labels that are so for the links of its component (`Together` of rings/specs/Round)
pub record ByLabel (p : Plant) (x : ℕ) (states : List ℕ) : Type 0 where
  -- a byte for each link tells of both its directions
  pub links : (l : ℕ) → T (link_with p x l)
      → (up_by (link_bytes p states) l ≡ up_by_label states (2 * l)) × (up_by (link_bytes p states) l ≡ up_by_label states (2 * l + 1))
  -- so a run by label is the run by link
  pub runs : (m : ℕ) → end_by_label p x states m ≡ probe_end p x (link_bytes p states) m
  -- and after any list of calls, with demand 3's two premises on its sendings by the runs by label, the verdict is demand 3's
  pub says : (cs : List Call)
      → Each (TrueSending (λ m. IsReturned (outcome_of (end_by_label p x states m)))) (sent_over p x cs)
      → OneReturns (λ m. IsReturned (outcome_of (end_by_label p x states m))) (sent_over p x cs)
      → ended (perform (begun (links_with p x)) cs).state ≡ true → Says p x (link_bytes p states) (perform (begun (links_with p x)) cs).state
