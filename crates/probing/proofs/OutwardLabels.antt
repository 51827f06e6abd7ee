-- The parts of the lent trail that the call names are the outward labels; the labels of a probe are these and the way back; and the full check is probe E.
-- Assumes a sound plant and one of its switches where it says so.
use mathlib.Core.Path.{◌≡◌, refl, sym, ap, ap₂, ◌∙◌}
use mathlib.Core.Bool.{Bool, true, false}
use mathlib.Core.List.{List, [], ◌++◌, append-nil}
use Prim.Native.Nat.{ℕ, ◌+◌, ◌≤◌, ◌<◌}
use native.Mathlib.Omega.{arith}
use lib.Dec.{eqb}
use lib.ListN.{length}
use Rattle.lists.specs.Tests.{choose}
use Rattle.plant.specs.declared.Plant.{Plant}
use Rattle.answers.specs.Answers.{Answer, given}
use Rattle.answers.specs.Checks.{check, answer}
use Rattle.answers.proofs.Checks.{refuse-given, given-exactly, result-given}
use Rattle.limits.specs.Sound.{Sound}
use Rattle.walks.specs.Components.{component_of, links_with, used}
use Rattle.plan.specs.Plan.{trail_of, trail_with, trail_begin}
use Rattle.plan.proofs.Trails.{stretch, stretch_in}
use Rattle.rings.specs.Rules.{up_by_link}
use Rattle.rings.specs.Probe.{back, outward, probe}
use Rattle.rings.specs.Injection.{place_of, ring_of, probe_of}
use Rattle.rings.proofs.Injection.{full_run}
use Rattle.order.specs.declared.Span.{Span}
use Rattle.order.specs.Span.{ring_span, span_of, stretch_of, front_of}
use Rattle.order.proofs.Spans.{Stands, ring-parts, span-outward, ring-stands, span-stands, parts_shifted, shifted_fits}
use Rattle.search.specs.declared.Search.{Search}
use Rattle.judging.specs.Conditions.{trail_differs, lent_checks, wanted_checks}
use Rattle.probing.specs.Calls.{check_in, probe_end, out_labels, own_span, out_span, outward_in, outgoing}
use Rattle.probing.specs.Answers.{OutwardParts}
use Rattle.planning.specs.Planning.{planning_at}
use Rattle.planning.proofs.Plans.{at-result}
use Rattle.codec.specs.Field.{Bytes}
use Rattle.search.specs.Search.{wanted}
use Rattle.judging.proofs.Lent.{trail-same}

module _ (p : Plant) (x m : ℕ) where
  -- what stands at the two parts of the trail, one after the other
  own-labels : stretch_of (trail_with p x) (own_span p x m) ++ front_of (trail_with p x) (own_span p x m) ≡ out_labels p x m
  unfolding own_span out_labels
  own-labels = go (eqb m (links_with p x))
    where
      go : (t : Bool) → stretch_of (trail_with p x) (choose t (ring_span p (trail_with p x) x) (span_of p (trail_with p x) x m))
          ++ front_of (trail_with p x) (choose t (ring_span p (trail_with p x) x) (span_of p (trail_with p x) x m)) ≡ choose t (ring_of p (trail_with p x) x) (outward m (ring_of p (trail_with p x) x))
      go true = ring-parts p (trail_with p x) x
      go false = span-outward p (trail_with p x) x m

  -- they stand in that trail
  pub own-stands : Stands (trail_with p x) (own_span p x m)
  unfolding own_span
  own-stands = go (eqb m (links_with p x))
    where
      go : (t : Bool) → Stands (trail_with p x) (choose t (ring_span p (trail_with p x) x) (span_of p (trail_with p x) x m))
      go true = ring-stands p (trail_with p x) x
      go false = span-stands p (trail_with p x) x m

  -- from the place of the switch on
  pub own-from : (own_span p x m).from ≡ place_of p (trail_with p x) x
  unfolding own_span ring_span span_of
  own-from = go (eqb m (links_with p x))
    where
      go : (t : Bool) → (choose t (ring_span p (trail_with p x) x) (span_of p (trail_with p x) x m)).from ≡ place_of p (trail_with p x) x
      go true = refl
      go false = refl

  -- so it is in the trails of all components
  out-labels : Sound p → x < p.switches → stretch_of (trail_of p) (out_span p x m) ++ front_of (trail_of p) (out_span p x m) ≡ out_labels p x m
  unfolding out_span
  out-labels ok h =
      parts_shifted (trail_of p) (trail_with p x) (trail_begin p (component_of p x)) (length (trail_with p x)) (stretch p ok x h) (own_span p x m) own-stands ∙ own-labels

  pub span_fits : Sound p → x < p.switches
      → ((own_span p x m).from + trail_begin p (component_of p x) ≤ length (trail_of p)) × ((own_span p x m).begin + trail_begin p (component_of p x) ≤ length (trail_of p))
  span_fits ok h =
      shifted_fits (trail_of p) (trail_with p x) (trail_begin p (component_of p x)) (length (trail_with p x)) (stretch p ok x h) (own_span p x m) own-stands (omega (arith, stretch_in p ok x h))

  -- the labels of the probe are these and then the way back, which the full check does not go
  pub probe-labels : probe_of p (trail_with p x) x (links_with p x) m ≡ out_labels p x m ++ choose (eqb m (links_with p x)) [] (back (out_labels p x m))
  unfolding probe_of probe out_labels
  probe-labels = go (eqb m (links_with p x)) (ring_of p (trail_with p x) x) (outward m (ring_of p (trail_with p x) x))
    where
      go : (t : Bool) (r o : List ℕ) → choose t r (o ++ back o) ≡ choose t r o ++ choose t [] (back (choose t r o))
      go true r o = sym (append-nil r)
      go false r o = refl

-- the parts of the lent trail that the call names
pub outward-parts : (s : List ℕ) → Bytes s → (x : ℕ) (w : List ℕ) (q : Search) (a : Answer Span) → a ≡ answer (outgoing s x w q) → OutwardParts s x w q a
unfolding outgoing outward_in
outward-parts s bytes x w q a f k b h e =
    ap₂ (λ (v : List ℕ) (c : Span). stretch_of v c ++ front_of v c) (trail-same p w d.0) (sym ((given-exactly (wanted_checks (links_with p x) q) (out_span p x (wanted q)) b).0 d.1).1)
    ∙ out-labels p x (wanted q) u.0 u.1
    ∙ ap (λ (r : Plant). out_labels r x (wanted q)) (result-given (planning_at s x) k h)
  where
    p : Plant
    p = (planning_at s x).result

    u : Sound p × (x < p.switches) × (answer (outward_in x w q p) ≡ given b)
    u = at-result s x (outward_in x w q) b bytes (sym f ∙ e)

    d : (trail_differs p w ≡ false) × (answer (check (wanted_checks (links_with p x) q) (out_span p x (wanted q))) ≡ given b)
    d = refuse-given 12 (trail_differs p w) (answer (check (wanted_checks (links_with p x) q) (out_span p x (wanted q)))) b u.2

-- ---- the full check is probe E

pub check-probe : (p : Plant) (x : ℕ) (w states : List ℕ) → check_in x w states p ≡ check (lent_checks p w states) (probe_end p x states (links_with p x))
unfolding check_in
check-probe p x w states = ap (check (lent_checks p w states)) (sym (full_run p (trail_with p x) x (used p) (links_with p x) (up_by_link states)))
