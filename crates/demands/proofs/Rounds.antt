-- What document 02's order 6 promises holds: of the round trail, of its run from any switch, of the choice between two lent trails, and of searches by states of labels.
-- Assumes a sound plant, and one of its switches where it speaks of one.
use mathlib.Core.Path.{◌≡◌, refl, sym, ap, ◌∙◌, subst}
use mathlib.Core.Logic.{◌⊎◌, inl, inr}
use mathlib.Core.Bool.{true}
use mathlib.Core.List.{List, [], ◌∷◌, ◌++◌}
use Prim.Native.Nat.{ℕ, ◌+◌, ◌*◌, ◌/◌, ◌≤◌, ◌<◌}
use native.Mathlib.Omega.{arith}
use borrow.Author.Tests.{lt-ltb, le-ltb}
use lib.Dec.{T, eqb}
use lib.ListN.{length, drop}
use Rattle.lists.specs.Members.{In, Each}
use Rattle.plant.specs.declared.Plant.{Plant}
use Rattle.lists.proofs.Tests.{and_left}
use Rattle.plant.specs.Links.{first, live}
use Rattle.limits.specs.Sound.{Sound}
use Rattle.answers.specs.Answers.{given}
use Rattle.answers.specs.Checks.{answer}
use Rattle.answers.proofs.Checks.{goes_on, result-given}
use Rattle.codec.specs.Field.{Bytes}
use Rattle.listing.specs.Listing.{reading}
use Rattle.listing.proofs.RoundTrip.{decode_sound}
use Rattle.walks.specs.Walk.{Walk}
use Rattle.walks.specs.Arcs.{tail, head, Valid}
use Rattle.walks.specs.Graph.{live_links}
use Rattle.walks.specs.Components.{root_of, link_with, links_with, used}
use Rattle.walks.proofs.Components.{listed_in, links_with_lem}
use Rattle.walks.proofs.Round.{round_visits, first_met_is}
use Rattle.walks.proofs.RoundRule.{round_by_rule, round_only}
use Rattle.walks.proofs.Valid.{sound_valid}
use Rattle.walks.proofs.Labels.{even_half, odd_half}
use Rattle.plan.specs.Plan.{trail_of, trail_with, round_of, round_with}
use Rattle.plan.specs.Rounds.{IsRound, AreRounds}
use Rattle.plan.proofs.Places.{round-place}
use Rattle.plan.proofs.Rounds as rounds
use Rattle.plan.proofs.Rounds.{round-from, rounds-are}
use Rattle.rings.specs.Packet.{End}
use Rattle.rings.specs.Rules.{up_by, up_by_link, in_all}
use Rattle.rings.specs.Ring.{FirstHop}
use Rattle.rings.specs.Injection.{place_of, ring_of}
use Rattle.rings.specs.Round.{up_by_label, EveryUp, round_run, Together, link_bytes}
use Rattle.rings.proofs.Ring.{place-first}
use Rattle.rings.proofs.Injection.{order-crosses}
use Rattle.rings.proofs.Round.{vouches, round-home, round-back, ring-own, vouched_fewest, label_link, probe_together}
use Rattle.choosing.specs.declared.Choice.{Choice}
use Rattle.choosing.specs.Choice.{shorter_of, hops_in}
use Rattle.judging.specs.Conditions.{states_short}
use Rattle.judging.proofs.Lent.{hops-own}
use Rattle.packet.specs.Outcome.{outcome_of}
use Rattle.search.specs.Values.{IsReturned}
use Rattle.search.specs.Calls.{TrueSending, OneReturns}
use Rattle.planning.specs.Planning.{planning_at}
use Rattle.planning.proofs.Plans.{given-at}
use Rattle.planner.specs.Calls.{round_trailing, round_laid_out}
use Rattle.planner.proofs.Trailing.{lay_enough, laid_by, trail-given, left-given}
use Rattle.probing.specs.Calls.{round_in, round_running, choice_at, choice_in, choosing, probe_end}
use Rattle.probing.specs.Searches.{actual_outcome, sent_over}
use Rattle.probing.proofs.Injection.{root_among, ring-at, trail-links, order-links, round-exactly}
use Rattle.probing.proofs.Rounds.{chosen-hops}
use Rattle.probing.proofs.Searching.{searches}
use Rattle.demands.specs.Order1.{GotTo}
use Rattle.demands.specs.Order6.{RoundTrail, RoundRun, ShorterTrail, end_by_label, ByLabel}
use Rattle.demands.proofs.GotTo.{got_to}

-- the links of a component are in service
alive : (p : Plant) (x l : ℕ) → T (link_with p x l) → T (live p l)
alive p x l t = and_left (live p l) (eqb (root_of p (first p l)) (root_of p x)) t

-- the round trail of a component has two hops to each of its links
hops_of : (p : Plant) → Sound p → (x : ℕ) → x < p.switches → length (round_with p x) ≡ 2 * links_with p x
unfolding links_with
hops_of p ok x h = (round-from p ok (root_of p x) (root_among p ok x h)).number

-- ---- the round trails

pub round_trail : (s : List ℕ) → Bytes s → (p : Plant) → answer (reading s) ≡ given p → RoundTrail s p
unfolding round_trailing round_laid_out
round_trail s bytes p e = record {
  visit = λ r i. round_visits p valid r (listed_in p valid ok.start_in r i);
  by_rule = λ r i. round_by_rule p valid r (listed_in p valid ok.start_in r i);
  only = λ r i. round_only p valid r (listed_in p valid ok.start_in r i);
  first_met_is = λ r i. first_met_is p valid r (listed_in p valid ok.start_in r i);
  are = are;
  fewest = λ x y w h c v. omega (arith, vouched_fewest p (link_with p x) (alive p x) y w v, links_with_lem p valid ok.start_in x h, hops_of p ok x h);
  laid = λ b h.
      let r = lay_enough (round_of p) b (omega (arith, are.number)) (2 * live_links p) (sym are.number) in (
        sym (r ∙ trail-given round_of s b p e),
        sym (laid_by (round_of p) b _ r ∙ left-given round_of s b p e) ∙ ap (λ (n : ℕ). round_of p ++ drop n b) are.number,
      );
}
  where
    ok : Sound p
    ok = decode_sound s p bytes e

    valid : Valid p
    valid = sound_valid p ok

    are : AreRounds p
    are = rounds-are p ok

-- ---- a run, from a switch x

module _ (p : Plant) (ok : Sound p) (x : ℕ) (x_in : x < p.switches) where
  is : IsRound p (root_of p x) (round_with p x)
  is = round-from p ok (root_of p x) (root_among p ok x x_in)

  -- some hop leaves x, unless there is none: the trail has such a hop, and the round trail has all arcs of the component
  leaves : (round_with p x ≡ []) ⊎ ((a : ℕ) × In a (round_with p x) × (tail p a ≡ x))
  leaves = go (round_with p x) (round-exactly p ok x x_in) (ring-at p ok x x_in).leaves
    where
      go : (w : List ℕ) → ((a : ℕ) → (In a w → T (link_with p x (a / 2))) × (T (link_with p x (a / 2)) → In a w)) → (trail_with p x ≡ []) ⊎ ((a : ℕ) × In a (trail_with p x) × (tail p a ≡ x))
          → (w ≡ []) ⊎ ((a : ℕ) × In a w × (tail p a ≡ x))
      go [] f t = inl refl
      go (b ∷ w) f (inl e) =
          let c = (order-crosses p (trail_with p x) x (b / 2)).0 ((order-links p ok x x_in (b / 2)).1 ((f b).0 (inl refl))) in
          absurd (subst (λ (v : List ℕ). In c.0 v) e c.1)
      go (b ∷ w) f (inr r) = inr (r.0, (f r.0).1 (trail-links p ok x x_in r.0 r.1), r.2)

  place : 1 ≤ links_with p x → FirstHop (tail p) x (round_with p x) (place_of p (round_with p x) x)
  place h = go leaves
    where
      go : (round_with p x ≡ []) ⊎ ((a : ℕ) × In a (round_with p x) × (tail p a ≡ x)) → FirstHop (tail p) x (round_with p x) (place_of p (round_with p x) x)
      go (inl e) = absurd (omega (arith, hops_of p ok x x_in, ap length e))
      go (inr r) = place-first (tail p) x (round_with p x) r.0 r.1 r.2

  at_root : x ≡ root_of p x → ring_of p (round_with p x) x ≡ round_with p x
  at_root e = ring-own p (round_with p x) x (subst (λ (r : ℕ). Walk (tail p) (head p) (round_with p x) r r) (sym e) is.closed)

  -- ---- searches by states of labels

  module _ (states : List ℕ) (together : Together (link_with p x) states) where
    tells : (a : ℕ) → T (link_with p x (a / 2)) → up_by_label states a ≡ up_by_link (link_bytes p states) a
    tells = label_link p (link_with p x) (alive p x) states together

    links : (l : ℕ) → T (link_with p x l) → (up_by (link_bytes p states) l ≡ up_by_label states (2 * l)) × (up_by (link_bytes p states) l ≡ up_by_label states (2 * l + 1))
    links l h = (sym (rw (even_half l) at (tells (2 * l) (rw (even_half l) h))), sym (rw (odd_half l) at (tells (2 * l + 1) (rw (odd_half l) h))))

    runs : (m : ℕ) → end_by_label p x states m ≡ probe_end p x (link_bytes p states) m
    runs m = probe_together p (link_with p x) (alive p x) states together (used p) (trail_with p x) (trail-links p ok x x_in) x (links_with p x) m

    same : end_by_label p x states ≡ probe_end p x (link_bytes p states)
    same = λ j m. runs m j

    pub by_label_is : ByLabel p x states
    unfolding actual_outcome
    by_label_is = record {
      links = links;
      runs = runs;
      says = λ cs t o e.
          (searches p ok x x_in cs).says (link_bytes p states)
          (subst (λ (f : ℕ → End). Each (TrueSending (λ m. IsReturned (outcome_of (f m)))) (sent_over p x cs)) same t)
          (subst (λ (f : ℕ → End). OneReturns (λ m. IsReturned (outcome_of (f m))) (sent_over p x cs)) same o) e;
    }

-- ---- the calls

module _ (s : List ℕ) (b : Bytes s) (p : Plant) (g : answer (reading s) ≡ given p) (x : ℕ) (h : x < p.switches) where
  ok : Sound p
  ok = decode_sound s p b g

  abbrev w₀ : List ℕ
  w₀ = round_with p x

  planned : (planning_at s x).result ≡ p
  planned = result-given (planning_at s x) p (given-at s x p g h)

  ran : (w states : List ℕ) (e : End) → answer (round_running s x w states) ≡ given e → round_run p w₀ x states ≡ e
  unfolding round_running round_in
  ran w states e q = ap (λ (r : Plant). round_run r (round_with r x) x states) (sym planned) ∙ result-given (round_running s x w states) e q

  pub taken-run : (spare states : List ℕ) → 2 * p.count ≤ length states → answer (round_running s x (round_of p ++ spare) states) ≡ given (round_run p w₀ x states)
  unfolding round_running round_in states_short
  taken-run spare states l =
      goes_on (planning_at s x) (round_in x (round_of p ++ spare) states) p (given-at s x p g h) ∙ rw (hops-own (round_of p) spare, le-ltb (length states) (2 * p.count) l) refl

  pub round_run_is : RoundRun s p x
  unfolding round_run
  round_run_is = record {
    stretch = rounds.stretch p ok x h;
    place = place p ok x h;
    place_lent = λ l. round-place p ok x h (place_of p w₀ x) (place p ok x h l);
    at_root = at_root p ok x h;
    vouches = vouches p (link_with p x) (alive p x) w₀ (root_of p x) (is p ok x h).closed (round-exactly p ok x h) x (leaves p ok x h);
    taken = λ spare states l. (round_run p w₀ x states, taken-run spare states l);
    home = λ w states e q.
        subst (λ (d : End). (d.ended ≡ true → EveryUp p (link_with p x) states) × (EveryUp p (link_with p x) states → d.ended ≡ true)) (ran w states e q)
        (round-home p (link_with p x) (alive p x) w₀ (root_of p x) (is p ok x h).closed (round-exactly p ok x h) x (leaves p ok x h) states);
    back_home = λ w states e q t.
        sym (ran w states e q)
        ∙ round-back p (link_with p x) (alive p x) w₀ (root_of p x) (is p ok x h).closed (round-exactly p ok x h) x (leaves p ok x h) states (ap (λ (d : End). d.ended) (ran w states e q) ∙ t)
        ∙ ap (λ (n : ℕ). record { ended = true; hops = n; last = x }) (hops_of p ok x h);
    got_to = λ w states e q.
        subst (GotTo (in_all p) (up_by_label states) (head p) x (ring_of p w₀ x)) (ran w states e q) (got_to (in_all p) (up_by_label states) (head p) x (ring_of p w₀ x));
  }

  chosen : (w v : List ℕ) (c : Choice) → answer (choosing s x w v) ≡ given c → hops_in w v c ≡ shorter_of (trail_with p x) w₀
  chosen w v c q = chosen-hops s b x w v (given c) (sym q) p c (given-at s x p g h) refl

  pub shorter_trail : ShorterTrail s p x
  unfolding choosing choice_in
  shorter_trail = record {
    taken = λ spare spare'. (
      choice_at p x,
      goes_on (planning_at s x) (choice_in x (trail_of p ++ spare) (round_of p ++ spare')) p (given-at s x p g h)
          ∙ rw (hops-own (trail_of p) spare, hops-own (round_of p) spare') refl,
    );
    trail = λ w v c q l. chosen w v c q ∙ rw (le-ltb (length w₀) (length (trail_with p x)) l) refl;
    round = λ w v c q l. chosen w v c q ∙ rw (lt-ltb (length w₀) (length (trail_with p x)) l) refl;
  }
