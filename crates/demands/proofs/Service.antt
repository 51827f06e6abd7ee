-- What document 02's order 7 promises of links out of service holds: in a listing, of the plan, of packets and of searches. Assumes nothing of a listing and of the definitions
-- that go by `live`, else a sound plant, and one of its switches where it speaks of one.
use mathlib.Core.Path.{◌≡◌, refl, sym, ◌∙◌}
use mathlib.Core.Logic.{inl, inr}
use mathlib.Core.Bool.{Bool, true, false}
use mathlib.Core.List.{List}
use Prim.Native.Nat.{ℕ, ◌-◌, ◌*◌, ◌/◌, ◌≤◌, ◌<◌}
use native.Mathlib.Omega.{arith}
use borrow.Author.Tests.{le-ltb}
use lib.Dec.{T, eqb}
use lib.ListN.{length}
use Rattle.lists.specs.Members.{In}
use Rattle.lists.proofs.Members.{get_d_in}
use Rattle.lists.proofs.Tests.{false_T, not_true_false, and_left}
use Rattle.plant.specs.declared.Plant.{Plant}
use Rattle.plant.specs.Links.{first, is_out_of_service, live}
use Rattle.limits.specs.Sound.{Sound}
use Rattle.answers.specs.Answers.{given}
use Rattle.answers.specs.Checks.{answer}
use Rattle.answers.proofs.Checks.{given-given}
use Rattle.codec.specs.Field.{Bytes}
use Rattle.listing.specs.Listing.{reading}
use Rattle.listing.specs.Listing as listing
use Rattle.listing.proofs.RoundTrip.{decode_sound}
use Rattle.listing.proofs.Marks.{bit-three, without, plain_read, plain_written, link-undefined, header-undefined}
use Rattle.walks.specs.Arcs.{Arc}
use Rattle.walks.specs.Graph.{Crosses, bridge}
use Rattle.walks.specs.Components.{root_of, link_with, links_with}
use Rattle.walks.proofs.Live.{dead_marked, live_all, links-all}
use Rattle.walks.proofs.Labels.{even_half, odd_half}
use Rattle.plan.specs.Plan.{trail_of, trail_with, round_of}
use Rattle.plan.proofs.Plan.{used_arc}
use Rattle.plan.proofs.Rounds.{rounds-are}
use Rattle.plan.proofs.Trails.{trails-are}
use Rattle.rings.specs.Order.{nth}
use Rattle.rings.specs.FirstDown.{FirstDown}
use Rattle.rings.specs.Rules.{up_by}
use Rattle.rings.specs.Injection.{order_of, probe_of}
use Rattle.rings.proofs.Injection.{probe-arcs}
use Rattle.planning.specs.Planning.{planning_at}
use Rattle.planning.proofs.Plans.{given-at}
use Rattle.judging.specs.Conditions.{states_short}
use Rattle.probing.specs.Calls.{run_in, running, check_in, checking, round_in, round_running, probe_in, probing}
use Rattle.probing.specs.Searches.{NoneBroken}
use Rattle.probing.proofs.Injection.{ring-at, order-links}
use Rattle.probing.proofs.StateBytes.{ByLinkAlike, ByLabelAlike, running-bytes, checking-bytes, probing-bytes, rounding_bytes}
use Rattle.demands.specs.Order7.{Marks, OutOfService, SameByLink, SameByLabel, StatesOf, AllInService}
use Rattle.demands.proofs.Packets.{rules-are}
use Rattle.demands.proofs.RulePages.{rule_page}

-- ---- in a listing

pub marks : Marks
unfolding listing.link
marks = record {
  set = bit-three;
  not_set = without;
  plain_read = plain_read;
  plain_written = plain_written;
  next = λ switches mark before s. refl;
  undefined = link-undefined;
  undefined_header = header-undefined;
}

-- ---- a plant without a mark

pub all_in_service : (p : Plant) → ((l : ℕ) → l < p.count → is_out_of_service p l ≡ false) → AllInService p
all_in_service p none = record { links = live_all p none; number = links-all p none }

-- a link of a component is in service
of_live : (p : Plant) (x l : ℕ) → T (link_with p x l) → T (live p l)
of_live p x l t = and_left (live p l) (eqb (root_of p (first p l)) (root_of p x)) t

-- ---- a link out of service

module _ (p : Plant) (l : ℕ) (out : is_out_of_service p l ≡ true) where
  dead : T (live p l) → ⊥
  dead = false_T (live p l) (dead_marked p l out)

  no_arc : (a : ℕ) → a / 2 ≡ l → Arc p a → ⊥
  no_arc a e t = dead (rw e at t)

  -- what has arcs alone does not cross it
  no_crossing : (w : List ℕ) → ((a : ℕ) → In a w → Arc p a) → Crosses l w → ⊥
  no_crossing w arcs (inl h) = no_arc (2 * l) (even_half l) (arcs (2 * l) h)
  no_crossing w arcs (inr h) = no_arc _ (odd_half l) (arcs _ h)

  module _ (s : List ℕ) (b : Bytes s) (g : answer (reading s) ≡ given p) where
    ok : Sound p
    ok = decode_sound s p b g

    pub out_of_service : OutOfService p l
    unfolding bridge
    out_of_service = record {
      no_bridge = rw (dead_marked p l out) refl;
      no_trail = no_crossing (trail_of p) trail_arc;
      no_round = no_crossing (round_of p) (λ a. ((rounds-are p ok).each a).0);
      no_closed_walk = λ w c. no_crossing w c.arcs_alone;
      no_probe = λ x h m. no_crossing (probe_of p (trail_with p x) x (links_with p x) m) (probe-arcs p (trail_with p x) x (ring-at p ok x h) (links_with p x) m);
      no_rule = λ a at e. (
        λ h. no_arc a e (trail_arc a (((rule_page p ok).crossed a).0 h)),
        not_true_false _ (λ t. no_arc a e (used_arc p a (((rules-are p).table at a).0 t).0)),
        not_true_false _ (λ t. no_arc a e (((rules-are p).all at a).0 t).0),
      );
      no_component = λ x t. dead (of_live p x l t);
    }
      where
        trail_arc : (a : ℕ) → In a (trail_of p) → Arc p a
        trail_arc a h = used_arc p a (((trails-are p ok).exactly a).0 h)

-- ---- the state bytes

module _ (s : List ℕ) (b : Bytes s) (p : Plant) (g : answer (reading s) ≡ given p) (x : ℕ) (x_in : x < p.switches) where
  planned : (r : Plant) → answer (planning_at s x) ≡ given r → p ≡ r
  planned r e = given-given p r (sym (given-at s x p g x_in) ∙ e)

  ready : (r : Plant) → answer (planning_at s x) ≡ given r → Sound r × (x < r.switches)
  ready r e = rw (sym (planned r e)) (decode_sound s p b g, x_in)

  by_link_is : (links : Plant → ℕ → Bool) (states states' : List ℕ) → SameByLink p (links p) states states' → (r : Plant) → answer (planning_at s x) ≡ given r → ByLinkAlike r (links r) states states'
  unfolding states_short
  by_link_is links states states' h r e =
      rw (sym (planned r e)) (record { short = le-ltb (length states) p.count h.enough.0 ∙ sym (le-ltb (length states') p.count h.enough.1); same = h.same })

  by_label_is : (states states' : List ℕ) → SameByLabel p (link_with p x) states states' → (r : Plant) → answer (planning_at s x) ≡ given r → ByLabelAlike r (link_with r x) states states'
  unfolding states_short
  by_label_is states states' h r e =
      rw (sym (planned r e)) (record { short = le-ltb (length states) (2 * p.count) h.enough.0 ∙ sym (le-ltb (length states') (2 * p.count) h.enough.1); same = h.same })

  pub states_of : StatesOf s p x
  unfolding running run_in checking check_in probing probe_in round_running round_in states_short
  states_of = record {
    run = λ labels states states' h. running-bytes s x states states' (by_link_is live states states' h) labels;
    full_check = λ w states states' h. checking-bytes s x states states' ready (by_link_is (λ r. link_with r x) states states' h) w;
    run_probe = λ w states states' q h. probing-bytes s x states states' ready (by_link_is (λ r. link_with r x) states states' h) w q;
    round_run_is = λ w states states' h. rounding_bytes s x states states' ready (by_label_is states states' h) w;
    says = λ states states' q h t. record {
      all_up = (λ e. none states states' h (t.all_up.0 e), λ n. t.all_up.1 (none states' states (turned states states' h) n));
      first_broken = λ n.
          let r = t.first_broken (λ m. n (none states states' h m)) in
          (r.0, r.1, first states states' h r.0 r.2);
    };
  }
    where
      turned : (states states' : List ℕ) → SameByLink p (link_with p x) states states' → SameByLink p (link_with p x) states' states
      turned states states' h = record { enough = (h.enough.1, h.enough.0); same = λ l t. sym (h.same l t) }

      none : (states states' : List ℕ) → SameByLink p (link_with p x) states states' → NoneBroken p x states → NoneBroken p x states'
      none states states' h n l t e = n l t (h.same l t ∙ e)

      first : (states states' : List ℕ) → SameByLink p (link_with p x) states states' → (k : ℕ) → FirstDown (up_by states) (order_of p (trail_with p x) x) k → FirstDown (up_by states') (order_of p (trail_with p x) x) k
      first states states' h k f = record {
        from_one = f.from_one;
        to_last = f.to_last;
        down = sym (same_at k f.from_one f.to_last) ∙ f.down;
        before = λ j i m. sym (same_at j i (omega (arith, f.to_last))) ∙ f.before j i m;
      }
        where
          same_at : (j : ℕ) → 1 ≤ j → j ≤ length (order_of p (trail_with p x) x) → up_by states (nth (order_of p (trail_with p x) x) j) ≡ up_by states' (nth (order_of p (trail_with p x) x) j)
          same_at j i m =
              h.same _ ((order-links p (decode_sound s p b g) x x_in _).0 (get_d_in (order_of p (trail_with p x) x) (j - 1) (omega arith)))
