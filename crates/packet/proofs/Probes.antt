-- Runs over parts, one after the other: how many hops they make, the run over a ring, the round run, the full check, and a probe that comes back. Assumes nothing.
use mathlib.Core.Path.{◌≡◌, sym, ap, ap₂, ◌∙◌}
use mathlib.Core.Bool.{Bool}
use mathlib.Core.List.{List, ◌++◌}
use Prim.Native.Nat.{ℕ}
use lib.ListN.{take, drop}
use Rattle.std.proofs.Math.Nat.{div-one}
use Rattle.lists.specs.Arrays.{flag}
use Rattle.plant.specs.declared.Plant.{Plant}
use Rattle.walks.specs.Arcs.{tail, head}
use Rattle.rings.specs.Packet.{End, run, run_on, rules_for}
use Rattle.rings.specs.Rules.{up_by, up_by_link, in_all}
use Rattle.rings.specs.Ring.{read_from, ring}
use Rattle.rings.specs.Probe.{back}
use Rattle.rings.specs.Injection.{place_of, ring_of, probe_run}
use Rattle.rings.proofs.Injection.{full_run, back-run}
use Rattle.rings.specs.Round.{round_run}
use Rattle.rings.specs.Parts.{out_stretch, out_front}
use Rattle.rings.proofs.Parts.{there_and_back}
use Rattle.arcs.specs.Net.{AllArcs}
use Rattle.order.specs.declared.Span.{Span}
use Rattle.order.specs.Span.{span_of, stretch_of, front_of}
use Rattle.order.proofs.Spans.{span-stretch, span-front}
use Rattle.packet.specs.Runs.{flagged, injected_at, goes_by, goes_on}
use Rattle.packet.specs.Asked.{out_and_back}
use Rattle.packet.proofs.Hops.{on_two}
use Rattle.packet.proofs.Rules.{on_all}

pub injected_hops : (i : End) (s : ℕ) → i ≡ injected_at s → i.hops ≡ 0
injected_hops i s e = ap (λ (d : End). d.hops) e

-- ---- the ring, by a state byte for each n labels

module _ (n : ℕ) (p : Plant) (rules : List Bool) (states : List ℕ) where
  -- the ring of s: what is from its place on, then the front
  pub ring-is : (w : List ℕ) (s k : ℕ) (i e r : End) → k ≡ place_of p w s → i ≡ injected_at s → e ≡ goes_by n p rules states i (drop k w) → r ≡ goes_by n p rules states e (take k w)
      → r ≡ goes_by n p rules states (injected_at s) (ring_of p w s)
  unfolding ring_of ring read_from
  ring-is w s k i e r at new a b =
      on_two n p rules states i e r (drop k w) (take k w) a b ∙ ap₂ (λ (j : End) (i : ℕ). goes_by n p rules states j (drop i w ++ take i w)) new at

  -- out over two stretches and back
  pub on_four : (s : ℕ) (i e f g r : End) (x y : List ℕ) → i ≡ injected_at s → e ≡ goes_by n p rules states i x → f ≡ goes_by n p rules states e y
      → g ≡ goes_by n p rules states f (back y) → r ≡ goes_by n p rules states g (back x) → r ≡ goes_by n p rules states (injected_at s) (out_and_back x y)
  on_four s i e f g r x y new a b c d =
      on_two n p rules states i f r (x ++ y) (back y ++ back x) (on_two n p rules states i e f x y a b) (on_two n p rules states f g r (back y) (back x) c d)
      ∙ ap (λ (j : End). goes_by n p rules states j (out_and_back x y)) new

-- ---- the round run

pub round_is : (p : Plant) (rules : List Bool) (states w : List ℕ) (s : ℕ) (r : End) → AllArcs p rules → r ≡ goes_by 1 p rules states (injected_at s) (ring_of p w s)
    → r ≡ round_run p w s states
unfolding run_on round_run
round_is p rules states w s r all q =
    q ∙ on_all p rules all 1 states (injected_at s) (ring_of p w s)
    ∙ ap (λ (up : ℕ → Bool). run (in_all p) up (head p) s 0 (ring_of p w s)) (λ i a. up_by states (div-one a i))

-- ---- by a state byte for each link

module _ (p : Plant) (rules : List Bool) (states : List ℕ) where
  -- from a switch
  pub from_switch : (s : ℕ) (i r : End) (w : List ℕ) → i ≡ injected_at s → r ≡ goes_on p rules states i w
      → r ≡ run (rules_for (flag rules) (tail p)) (up_by_link states) (head p) s 0 w
  unfolding run_on flagged
  from_switch s i r w new a = a ∙ ap (λ (j : End). goes_on p rules states j w) new

  -- ---- the probes

  module _ (w : List ℕ) (s : ℕ) where
    pub full_is : (e m : ℕ) (r : End) → m ≡ e → r ≡ run (rules_for (flag rules) (tail p)) (up_by_link states) (head p) s 0 (ring_of p w s)
        → r ≡ probe_run p (flag rules) w s e (up_by_link states) m
    full_is e m r i q = q ∙ sym (full_run p w s (flag rules) e (up_by_link states)) ∙ ap (probe_run p (flag rules) w s e (up_by_link states)) (sym i)

    pub back_is : AllArcs p rules → (table : ℕ → Bool) (e m : ℕ) (b : Span) (x y : List ℕ) (r : End) → (m ≡ e → ⊥) → b ≡ span_of p w s m → x ≡ stretch_of w b
        → y ≡ front_of w b → r ≡ goes_on p rules states (injected_at s) (out_and_back x y) → r ≡ probe_run p table w s e (up_by_link states) m
    unfolding ring_of run_on
    back_is all table e m b x y r n q f g h =
        let stretch : x ≡ out_stretch (tail p) s w m = f ∙ ap (stretch_of w) q ∙ span-stretch p w s m in
        let front : y ≡ out_front (tail p) s w m = g ∙ ap (front_of w) q ∙ span-front p w s m in
        h ∙ on_all p rules all 2 states (injected_at s) (out_and_back x y)
        ∙ ap (run (in_all p) (up_by_link states) (head p) s 0) (ap₂ out_and_back stretch front ∙ sym (there_and_back (tail p) s w m))
        ∙ sym (back-run p w s table e (up_by_link states) m n)
