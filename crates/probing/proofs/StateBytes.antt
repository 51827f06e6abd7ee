-- What is looked at of the state bytes: whether there is one for each link of the listing, in the round run one for each label, and what those of links in service tell; by the full
-- check, by probes and by the round run, what those of links in service of the component of the switch tell. All others are looked at by nobody. Assumes a sound plant and one of
-- its switches where it speaks of a component.
use mathlib.Core.Path.{◌≡◌, refl, sym, ap, ap₂, ◌∙◌, subst}
use mathlib.Core.Bool.{Bool}
use mathlib.Core.List.{List, [], ◌∷◌}
use Prim.Native.Nat.{ℕ, ◌*◌, ◌/◌, ◌<◌}
use lib.Dec.{T}
use Rattle.lists.specs.Members.{In}
use Rattle.plant.specs.declared.Plant.{Plant}
use Rattle.plant.specs.Links.{live}
use Rattle.limits.specs.Sound.{Sound}
use Rattle.answers.specs.Answers.{Answer, given, refused, ◌>>=◌}
use Rattle.answers.specs.Checks.{Checked, check, answer, ◌then◌}
use Rattle.answers.proofs.Checks.{then_is}
use Rattle.walks.specs.Arcs.{head}
use Rattle.walks.specs.Components.{link_with, links_with, used}
use Rattle.walks.proofs.Labels.{opposite_half}
use Rattle.plan.specs.Plan.{trail_with, round_of, round_with, in_table}
use Rattle.plan.proofs.Plan.{used_arc}
use Rattle.rings.specs.Packet.{End, run}
use Rattle.rings.specs.Rules.{up_by, up_by_link, in_all}
use Rattle.rings.specs.Round.{up_by_label, round_run}
use Rattle.rings.proofs.Packet.{run-same}
use Rattle.rings.proofs.Probe.{probe-all}
use Rattle.rings.proofs.Rules.{rule_arc, run_agrees}
use Rattle.rings.specs.Injection.{ring_of, probe_rules, probe_of, probe_run}
use Rattle.rings.proofs.Injection.{ring-labels}
use Rattle.search.specs.declared.Search.{Search}
use Rattle.search.specs.Search.{wanted}
use Rattle.planning.specs.Planning.{planning_at}
use Rattle.judging.specs.Conditions.{trail_differs, hops_differ, states_short, wanted_checks}
use Rattle.probing.specs.Calls.{run_in, running, check_in, checking, round_in, round_running, probe_end, probe_in, probing}
use Rattle.probing.proofs.Injection.{trail-links, round-links}

-- two lists of bytes, one a link, both too short or neither, that tell the same of these links
pub record ByLinkAlike (p : Plant) (links : ℕ → Bool) (states states' : List ℕ) : Type 0 where
  pub short : states_short p.count states ≡ states_short p.count states'
  pub same : (l : ℕ) → T (links l) → up_by states l ≡ up_by states' l

-- so with one a label
pub record ByLabelAlike (p : Plant) (links : ℕ → Bool) (states states' : List ℕ) : Type 0 where
  pub short : states_short (2 * p.count) states ≡ states_short (2 * p.count) states'
  pub same : (a : ℕ) → T (links (a / 2)) → up_by_label states a ≡ up_by_label states' a

module _ (p : Plant) (x : ℕ) (states states' : List ℕ) where
  run_alike : ByLinkAlike p (live p) states states' → (labels : List ℕ) → run_in x labels states p ≡ run_in x labels states' p
  unfolding run_in
  run_alike h labels =
      ap₂ (λ (t : Bool) (e : End). check ((13, t) ∷ []) e) h.short
      (run_agrees p (in_table p) (rule_arc p (used p) (used_arc p)) (up_by_link states) (up_by_link states') (λ a. h.same (a / 2)) (head p) labels x 0)

  -- a packet whose labels are of these links, whatever rules it runs under
  over-links : (links : ℕ → Bool) (rule : ℕ → ℕ → Bool) (up up' : ℕ → Bool) → ((a : ℕ) → T (links (a / 2)) → up a ≡ up' a) → (labels : List ℕ)
      → ((a : ℕ) → In a labels → T (links (a / 2))) → run rule up (head p) x 0 labels ≡ run rule up' (head p) x 0 labels
  over-links links rule up up' same labels of = run-same rule rule up up' (head p) labels x 0 (λ y a i. refl) (λ y a i e. same a (of a i))

  module _ (ok : Sound p) (x_in : x < p.switches) where
    ring_of_lem : (a : ℕ) → In a (ring_of p (trail_with p x) x) → T (link_with p x (a / 2))
    ring_of_lem a i = trail-links p ok x x_in a ((ring-labels p (trail_with p x) x a).0 i)

    module _ (h : ByLinkAlike p (link_with p x) states states') where
      check_alike : (w : List ℕ) → check_in x w states p ≡ check_in x w states' p
      unfolding check_in
      check_alike w =
          ap₂ (λ (t : Bool) (e : End). check ((12, trail_differs p w) ∷ (13, t) ∷ []) e) h.short
          (over-links (link_with p x) (in_table p) (up_by_link states) (up_by_link states') (λ a. h.same (a / 2)) (ring_of p (trail_with p x) x) ring_of_lem)

      end_alike : (m : ℕ) → probe_end p x states m ≡ probe_end p x states' m
      unfolding probe_run probe_of
      end_alike m =
          over-links (link_with p x) (probe_rules p (used p) (links_with p x) m) (up_by_link states) (up_by_link states') (λ a. h.same (a / 2)) (probe_of p (trail_with p x) x (links_with p x) m)
          (probe-all (λ a. T (link_with p x (a / 2))) (λ a t. subst (λ (l : ℕ). T (link_with p x l)) (sym (opposite_half a)) t) (links_with p x) m (ring_of p (trail_with p x) x) ring_of_lem)

      probe_alike : (w : List ℕ) (q : Search) → probe_in x w states q p ≡ probe_in x w states' q p
      unfolding probe_in
      probe_alike w q = ap₂ (λ (t : Bool) (e : End). check ((12, trail_differs p w) ∷ (13, t) ∷ wanted_checks (links_with p x) q) e) h.short (end_alike (wanted q))

    round_alike : ByLabelAlike p (link_with p x) states states' → (w : List ℕ) → round_in x w states p ≡ round_in x w states' p
    unfolding round_in round_run
    round_alike h w =
        ap₂ (λ (t : Bool) (e : End). check ((12, hops_differ (round_of p) w) ∷ (13, t) ∷ []) e) h.short
        (over-links (link_with p x) (in_all p) (up_by_label states) (up_by_label states') h.same (ring_of p (round_with p x) x)
        (λ a i. round-links p ok x x_in a ((ring-labels p (round_with p x) x a).0 i)))

-- so the calls have the same answers
module _ (s : List ℕ) (x : ℕ) (states states' : List ℕ) where
  planned_alike : {B : Type 0} (f g : Plant → Checked B) → ((p : Plant) → answer (planning_at s x) ≡ given p → f p ≡ g p) → answer (planning_at s x then f) ≡ answer (planning_at s x then g)
  planned_alike {B} f g same = then_is (planning_at s x) f ∙ go (answer (planning_at s x)) refl ∙ sym (then_is (planning_at s x) g)
    where
      go : (a : Answer Plant) → answer (planning_at s x) ≡ a → (a >>= λ p. answer (f p)) ≡ (a >>= λ p. answer (g p))
      go (given p) e = ap (λ (c : Checked B). answer c) (same p e)
      go (refused n) e = refl

  pub running-bytes : ((p : Plant) → answer (planning_at s x) ≡ given p → ByLinkAlike p (live p) states states') → (labels : List ℕ)
      → answer (running s x labels states) ≡ answer (running s x labels states')
  unfolding running
  running-bytes h labels = planned_alike (run_in x labels states) (run_in x labels states') (λ p e. run_alike p x states states' (h p e) labels)

  module _ (ready : (p : Plant) → answer (planning_at s x) ≡ given p → Sound p × (x < p.switches)) where
    pub rounding_bytes : ((p : Plant) → answer (planning_at s x) ≡ given p → ByLabelAlike p (link_with p x) states states') → (w : List ℕ)
        → answer (round_running s x w states) ≡ answer (round_running s x w states')
    unfolding round_running
    rounding_bytes h w =
        planned_alike (round_in x w states) (round_in x w states') (λ p e. round_alike p x states states' (ready p e).0 (ready p e).1 (h p e) w)

    module _ (h : (p : Plant) → answer (planning_at s x) ≡ given p → ByLinkAlike p (link_with p x) states states') where
      pub checking-bytes : (w : List ℕ) → answer (checking s x w states) ≡ answer (checking s x w states')
      unfolding checking
      checking-bytes w = planned_alike (check_in x w states) (check_in x w states') (λ p e. check_alike p x states states' (ready p e).0 (ready p e).1 (h p e) w)

      pub probing-bytes : (w : List ℕ) (q : Search) → answer (probing s x w states q) ≡ answer (probing s x w states' q)
      unfolding probing
      probing-bytes w q = planned_alike (probe_in x w states q) (probe_in x w states' q) (λ p e. probe_alike p x states states' (ready p e).0 (ready p e).1 (h p e) w q)
