-- What demand 2 says of packets, rules and injection. Assumes a sound plant and one of its switches where it speaks of a trail.
use mathlib.Core.Path.{◌≡◌, refl, ◌∙◌}
use mathlib.Core.Logic.{inl, ◌↔◌}
use mathlib.Core.Bool.{Bool, true, false}
use mathlib.Core.List.{List, [], ◌∷◌, ◌++◌}
use Prim.Native.Nat.{ℕ, ◌+◌, ◌/◌, ◌≤◌, ◌<◌}
use native.Mathlib.Omega.{arith}
use borrow.Author.Tests.{eqb-true, eq-eqb, ne_eqb}
use lib.Dec.{T, eqb}
use lib.ListN.{length}
use Rattle.lists.specs.Members.{In}
use Rattle.lists.proofs.Tests.{and_comm, and_true, true_T, T_true}
use Rattle.plant.specs.declared.Plant.{Plant}
use Rattle.limits.specs.Sound.{Sound}
use Rattle.walks.specs.Arcs.{tail, head}
use Rattle.walks.specs.Components.{component_of, link_with, links_with, used}
use Rattle.walks.proofs.Components.{links_with_lem}
use Rattle.walks.proofs.Valid.{sound_valid}
use Rattle.plan.specs.Plan.{trail_with, trail_begin}
use Rattle.plan.proofs.Trails as trails
use Rattle.plan.proofs.Places.{trail-place}
use Rattle.rings.specs.Packet.{run, rules_for}
use Rattle.rings.specs.Rules.{in_all}
use Rattle.rings.specs.Ring.{FirstHop, read_from, ring}
use Rattle.rings.specs.Order.{nth, order}
use Rattle.rings.specs.Probe.{up_to, back, outward, probe}
use Rattle.rings.specs.Injection.{place_of, ring_of, order_of, probe_rules, probe_of, probe_run}
use Rattle.rings.proofs.Packet.{run_none, run_label}
use Rattle.rings.proofs.Ring as rings
use Rattle.rings.proofs.Ring.{ring-empty}
use Rattle.rings.proofs.Probe as probes
use Rattle.rings.proofs.Rules.{all-rules}
use Rattle.rings.proofs.Injection.{has-place, order_once, full_run}
use Rattle.order.specs.Span.{shifted_by}
use Rattle.probing.specs.Calls.{out_span}
use Rattle.probing.proofs.OutwardLabels.{own-stands, own-from}
use Rattle.probing.proofs.Injection.{ring-at, trail-links, order-links, order-length}
use Rattle.demands.specs.Demand2.{RunIs, RulesAre, StandsIn, InjectionIs}

-- a list with a member is not empty
pub in_long : (a : ℕ) (l : List ℕ) → In a l → 1 ≤ length l
in_long a [] z = absurd z
in_long a (b ∷ l) i = omega arith

pub run_is : (rule : ℕ → ℕ → Bool) (up : ℕ → Bool) (hd : ℕ → ℕ) → RunIs rule up hd
run_is rule up hd = record {
  crosses = λ at n a w e f. run_label rule up hd at n a w ∙ rw (e, f) refl;
  ends = run_none rule up hd;
  no_rule = λ at n a w e. run_label rule up hd at n a w ∙ rw e refl;
  link_down = λ at n a w e. run_label rule up hd at n a w ∙ rw (e, and_comm (rule at a) false) refl;
}

-- a rule for each arc of a kind, at the switch that it leaves
rule_is : (kind : ℕ → Bool) (tl : ℕ → ℕ) (at a : ℕ) → (rules_for kind tl at a ≡ true) ↔ (T (kind a) × (tl a ≡ at))
unfolding rules_for
rule_is kind tl at a = (
  λ e. let r = and_true (kind a) (eqb (tl a) at) e in (true_T (kind a) r.0, eqb-true (tl a) at r.1),
  λ h. rw (T_true (kind a) h.0, eq-eqb (tl a) at h.1) refl,
)

pub rules-are : (p : Plant) → RulesAre p
unfolding in_all
rules-are p = record { table = rule_is _ (tail p); all = rule_is _ (tail p); number = all-rules p }

module _ (p : Plant) (ok : Sound p) (x : ℕ) (x_in : x < p.switches) where
  abbrev w : List ℕ
  w = trail_with p x

  below : (up : ℕ → Bool) (m : ℕ) → m < links_with p x
      → probe_run p (used p) w x (links_with p x) up m
      ≡ run (in_all p) up (head p) x 0 (up_to (nth (order_of p w x) m) (ring_of p w x) ++ back (up_to (nth (order_of p w x) m) (ring_of p w x)))
  unfolding probe_run probe_rules probe_of probe outward order_of
  below up m h = rw (ne_eqb m (links_with p x) (λ e. omega arith)) refl

  -- without links there is no hop
  nothing : links_with p x ≡ 0 → w ≡ []
  nothing e = go w (λ a i. trail-links p ok x x_in a i)
    where
      go : (v : List ℕ) → ((a : ℕ) → In a v → T (link_with p x (a / 2))) → v ≡ []
      go [] f = refl
      go (a ∷ v) f = absurd (omega (arith, order-length p ok x x_in, e, in_long (a / 2) (order_of p w x) ((order-links p ok x x_in (a / 2)).1 (f a (inl refl)))))

  pub no_ring : links_with p x ≡ 0 → ring_of p w x ≡ []
  unfolding ring_of
  no_ring e = rw (nothing e) (ring-empty (tail p) x)

  has-hop : 1 ≤ links_with p x → FirstHop (tail p) x w (place_of p w x)
  has-hop h = has-place p w x (ring-at p ok x x_in) (omega (arith, order-length p ok x x_in))

  -- where the outward labels stand in the whole lent trail
  span_from : (m : ℕ) → (out_span p x m).from ≡ trail_begin p (component_of p x) + place_of p w x
  unfolding out_span shifted_by
  span_from m = omega (arith, own-from p x m)

  span_within : (m : ℕ) → StandsIn (trail_begin p (component_of p x)) (trail_begin p (component_of p x) + length w) (out_span p x m)
  unfolding out_span shifted_by
  span_within m = let s = own-stands p x m in record { stretch = (omega arith, omega (arith, s.stretch)); front = (omega arith, omega (arith, s.front)) }

  pub injection-is : InjectionIs p x
  unfolding ring_of ring read_from order_of order outward
  injection-is = record {
    stretch = trails.stretch p ok x x_in;
    place = has-hop;
    place_empty = λ e. rw e (rings.place_empty (tail p) x);
    place_lent = λ h. trail-place p ok x x_in (place_of p w x) (has-hop h);
    span_from = span_from;
    span_within = span_within;
    ring = refl;
    order_each = order-links p ok x x_in;
    order_once = order_once p w x;
    order_rises = λ i j h k l. probes.order_rises (ring_of p w x) i j h k (omega (arith, order-length p ok x x_in));
    links = links_with_lem p (sound_valid p ok) ok.start_in x x_in;
    probe = below;
    full_check = full_run p w x (used p) (links_with p x);
  }
