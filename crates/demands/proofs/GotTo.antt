-- What document 02's order 1 promises holds: of any run, of probes, and of the calls that run a packet. Assumes a sound plant and one of its switches where it speaks of
-- a trail.
use mathlib.Core.Path.{◌≡◌, refl, sym, ap, ◌∙◌, subst}
use mathlib.Core.Logic.{◌↔◌}
use mathlib.Core.Bool.{Bool, true, false, false≢true, ◌&&◌}
use mathlib.Core.List.{List}
use Prim.Native.Nat.{ℕ, ◌*◌, ◌<◌}
use native.Mathlib.Omega.{arith}
use borrow.Author.Tests.{eq-eqb, ne_eqb}
use lib.ListN.{length, get_or, take, length-append}
use Rattle.lists.specs.Tests.{choose}
use Rattle.lists.proofs.Tests.{and_true, and_false}
use Rattle.plant.specs.declared.Plant.{Plant}
use Rattle.limits.specs.Sound.{Sound}
use Rattle.answers.specs.Answers.{given}
use Rattle.answers.specs.Checks.{answer}
use Rattle.answers.proofs.Checks.{result-given}
use Rattle.codec.specs.Field.{Bytes}
use Rattle.walks.specs.Arcs.{head}
use Rattle.listing.specs.Listing.{reading}
use Rattle.listing.proofs.RoundTrip.{decode_sound}
use Rattle.walks.specs.Components.{links_with, used}
use Rattle.plan.specs.Plan.{trail_with, in_table}
use Rattle.rings.specs.Packet.{End, leads_to, crossed, run}
use Rattle.rings.specs.Rules.{up_by, up_by_link}
use Rattle.rings.specs.Probe.{back, outward, probe}
use Rattle.rings.specs.Injection.{ring_of, probe_rules, probe_of, probe_run}
use Rattle.rings.proofs.Packet.{crossed-first, crossed-before, crossed-next, hops_made, hops-most, ended-hops}
use Rattle.rings.proofs.Injection.{full_run, probe-home}
use Rattle.rings.proofs.GotTo as rings
use Rattle.packet.specs.Outcome.{outcome_of}
use Rattle.packet.proofs.Ways.{back-length}
use Rattle.search.specs.declared.Outcome.TheVariants.{Returned, Lost}
use Rattle.search.specs.declared.Search.{Search}
use Rattle.search.specs.Search.{wanted}
use Rattle.search.specs.Values.{IsReturned, IsLost}
use Rattle.planning.specs.Planning.{planning_at}
use Rattle.planning.proofs.Plans.{given-at}
use Rattle.probing.specs.Calls.{run_in, running, check_in, checking, out_labels, probe_end, probe_in, probing}
use Rattle.probing.proofs.Injection.{trail-used, ring-at}
use Rattle.probing.specs.Searches.{actual_outcome}
use Rattle.demands.specs.Order1.{GotTo, ProbeGotTo, TwoWay, PacketsTell}

-- ---- any run

module _ (rule : ℕ → ℕ → Bool) (up : ℕ → Bool) (hd : ℕ → ℕ) (at : ℕ) (w : List ℕ) where
  -- how many labels are crossed
  abbrev made : ℕ
  made = length (crossed rule up hd at w)

  next : (k : ℕ) → k ≡ made → k < length w → rule (leads_to hd at (take k w)) (get_or w k 0) && up (get_or w k 0) ≡ false
  next k e h =
      rw e
      (sym (ap (λ (v : List ℕ). rule (leads_to hd at v) (get_or w made 0) && up (get_or w made 0)) (crossed-first rule up hd w at))
      ∙ crossed-next rule up hd w at (omega arith))

  pub got_to : GotTo rule up hd at w (run rule up hd at 0 w)
  unfolding run
  got_to =
      let hops = hops_made rule up hd w at in
      let r = ended-hops rule up hd w at 0 in
      record {
        crossed = λ i h. and_true _ _ (crossed-before rule up hd w at i (omega (arith, hops)));
        stopped = λ h. and_false _ _ (next _ hops h);
        most = omega (arith, hops-most rule up hd w at 0);
        reached = rw hops (ap (leads_to hd at) (crossed-first rule up hd w at));
        ended = (λ t. omega (arith, r.0 t), λ e. r.1 (omega arith));
      }

-- ---- the two-way outcome

by_ended : (b : Bool) → (IsReturned (choose b Returned Lost) ↔ (b ≡ true)) × (IsLost (choose b Returned Lost) ↔ (b ≡ false))
by_ended true = ((λ z. refl, λ z. refl), (λ z. absurd (omega (arith, z)), λ z. absurd (false≢true (sym z))))
by_ended false = ((λ z. absurd (omega (arith, z)), λ z. absurd (false≢true z)), (λ z. refl, λ z. refl))

pub two_way : (e : End) → TwoWay e
two_way e = let r = by_ended e.ended in record { returned = r.0; lost = r.1 }

-- ---- probes

module _ (p : Plant) (ok : Sound p) (x : ℕ) (x_in : x < p.switches) where
  abbrev w : List ℕ
  w = trail_with p x

  -- how many labels a probe has
  there : (m : ℕ) → m < links_with p x → length (probe_of p w x (links_with p x) m) ≡ 2 * length (out_labels p x m)
  unfolding probe_of probe out_labels
  there m h =
      let o = outward m (ring_of p w x) in
      rw (ne_eqb m (links_with p x) (λ e. omega arith)) (omega (arith, length-append o (back o), back-length o))

  whole : (m : ℕ) → m ≡ links_with p x → length (probe_of p w x (links_with p x) m) ≡ length (ring_of p w x)
  unfolding probe_of probe
  whole m e = rw (eq-eqb m (links_with p x) e)

  module _ (states : List ℕ) (m : ℕ) where
    home : (probe_end p x states m).ended ≡ true → probe_end p x states m ≡ record { ended = true; hops = length (probe_of p w x (links_with p x) m); last = x }
    home = probe-home p w x (ring-at p ok x x_in) (links_with p x) (used p) (trail-used p ok x x_in) (up_by_link states) m

    -- the run under its rules, over all its labels
    told : GotTo (probe_rules p (used p) (links_with p x) m) (up_by_link states) (head p) x (probe_of p w x (links_with p x) m) (probe_end p x states m)
    unfolding probe_run
    told = got_to (probe_rules p (used p) (links_with p x) m) (up_by_link states) (head p) x (probe_of p w x (links_with p x) m)

    module _ (f : (probe_end p x states m).ended ≡ false) where
      lost_out : (probe_end p x states m).hops < length (out_labels p x m)
      unfolding out_labels
      lost_out = rings.lost_out p w x m (links_with p x) (up_by states) (ring-at p ok x x_in) (used p) (trail-used p ok x x_in) f

      lost-reached : (probe_end p x states m).last ≡ leads_to (head p) x (take (probe_end p x states m).hops (out_labels p x m))
      unfolding out_labels
      lost-reached = told.reached ∙ ap (leads_to (head p) x) (rings.way-take p w x m (links_with p x) (probe_end p x states m).hops (omega (arith, lost_out)))

    probe_got_to : ProbeGotTo p x states m (probe_end p x states m)
    unfolding out_labels
    probe_got_to = record {
      there_and_back = λ h t. home t ∙ ap (λ (n : ℕ). record { ended = true; hops = n; last = x }) (there m h);
      round = λ e t. home t ∙ ap (λ (n : ℕ). record { ended = true; hops = n; last = x }) (whole m e);
      lost_out = λ f. (lost_out f, lost-reached f);
      lost_at = rings.lost_broken p w x m (links_with p x) (up_by states) (ring-at p ok x x_in) (used p) (trail-used p ok x x_in);
    }

-- ---- the calls

-- the way out of a probe that is not the full check
out : (p : Plant) (x m : ℕ) → m < links_with p x → out_labels p x m ≡ outward m (ring_of p (trail_with p x) x)
unfolding out_labels
out p x m h = rw (ne_eqb m (links_with p x) (λ e. omega arith))

module _ (s : List ℕ) (b : Bytes s) (p : Plant) (g : answer (reading s) ≡ given p) (x : ℕ) (h : x < p.switches) where
  planned : (planning_at s x).result ≡ p
  planned = result-given (planning_at s x) p (given-at s x p g h)

  ran : (labels states : List ℕ) (e : End) → answer (running s x labels states) ≡ given e → run (in_table p) (up_by_link states) (head p) x 0 labels ≡ e
  unfolding running run_in
  ran labels states e q = ap (λ (r : Plant). run (in_table r) (up_by_link states) (head r) x 0 labels) (sym planned) ∙ result-given (running s x labels states) e q

  checked : (v states : List ℕ) (e : End) → answer (checking s x v states) ≡ given e → run (in_table p) (up_by_link states) (head p) x 0 (ring_of p (trail_with p x) x) ≡ e
  unfolding checking check_in
  checked v states e q =
      ap (λ (r : Plant). run (in_table r) (up_by_link states) (head r) x 0 (ring_of r (trail_with r x) x)) (sym planned) ∙ result-given (checking s x v states) e q

  probed : (v states : List ℕ) (q : Search) (e : End) → answer (probing s x v states q) ≡ given e → probe_end p x states (wanted q) ≡ e
  unfolding probing probe_in
  probed v states q e r = ap (λ (k : Plant). probe_end k x states (wanted q)) (sym planned) ∙ result-given (probing s x v states q) e r

  tells : (states : List ℕ) (m : ℕ) → ProbeGotTo p x states m (probe_end p x states m)
  tells = probe_got_to p (decode_sound s p b g) x h

  pub packets_tell : PacketsTell s p x
  unfolding probe_run actual_outcome
  packets_tell = record {
    counts_on = λ up m k t. rw (out p x m k) (rings.counts_on p (trail_with p x) x (used p) (links_with p x) up m (λ e. omega arith) (rw (out p x m k) at t));
    run = λ labels states e q.
        subst (GotTo (in_table p) (up_by_link states) (head p) x labels) (ran labels states e q) (got_to (in_table p) (up_by_link states) (head p) x labels);
    full_check = λ v states e q.
        let ring = ring_of p (trail_with p x) x in (
          subst (GotTo (in_table p) (up_by_link states) (head p) x ring) (checked v states e q) (got_to (in_table p) (up_by_link states) (head p) x ring),
          subst (ProbeGotTo p x states (links_with p x)) (full_run p (trail_with p x) x (used p) (links_with p x) (up_by_link states) ∙ checked v states e q) (tells states (links_with p x)),
        );
    run_probe = λ v states q e r.
        let rule = probe_rules p (used p) (links_with p x) (wanted q) in
        let labels = probe_of p (trail_with p x) x (links_with p x) (wanted q) in (
          subst (GotTo rule (up_by_link states) (head p) x labels) (probed v states q e r) (got_to rule (up_by_link states) (head p) x labels),
          subst (ProbeGotTo p x states (wanted q)) (probed v states q e r) (tells states (wanted q)),
        );
    outcome = λ v states q e r. ap outcome_of (sym (probed v states q e r));
  }
