-- Which rules there are: each is for an arc of the plant, and in all there are two to each link in service; only the states of such arcs are looked at. Assumes nothing.
use mathlib.Core.Path.{◌≡◌, refl, ◌∙◌}
use mathlib.Core.Bool.{Bool, true}
use mathlib.Core.List.{List}
use Prim.Native.Nat.{ℕ, ◌*◌, ◌/◌}
use native.Mathlib.Omega.{arith}
use lib.Dec.{T, eqb}
use Rattle.lists.proofs.Tests.{true_T, and_true}
use Rattle.lists.specs.Count.{count}
use Rattle.lists.proofs.Count.{pairs}
use Rattle.plant.specs.declared.Plant.{Plant}
use Rattle.plant.specs.Links.{live}
use Rattle.walks.specs.Arcs.{tail, Arc}
use Rattle.walks.specs.Graph.{live_links}
use Rattle.walks.proofs.Labels.{even_half, odd_half}
use Rattle.rings.specs.Packet.{run, rules_for}
use Rattle.rings.proofs.Packet.{run-same}
use Rattle.rings.specs.Rules.{in_all, all_rules}

module _ (p : Plant) where
  -- where the arcs of a kind are arcs of the plant, so are those of their rules
  pub rule_arc : (kind : ℕ → Bool) → ((a : ℕ) → T (kind a) → Arc p a) → (x a : ℕ) → rules_for kind (tail p) x a ≡ true → Arc p a
  unfolding rules_for
  rule_arc kind arc x a e = arc a (true_T (kind a) (and_true (kind a) (eqb (tail p a) x) e).0)

  pub all_arc : (x a : ℕ) → in_all p x a ≡ true → Arc p a
  unfolding in_all
  all_arc = rule_arc (λ b. live p (b / 2)) (λ a t. t)

  -- two to each link in service
  pub all-rules : all_rules p ≡ 2 * live_links p
  unfolding all_rules live_links
  all-rules = pairs p.count (λ a. live p (a / 2)) ∙ simp (even_half, odd_half) (omega arith)

  -- ---- whatever rules a packet runs under, if they are for arcs of the plant

  module _ (rule : ℕ → ℕ → Bool) (arc : (x a : ℕ) → rule x a ≡ true → Arc p a) where
    -- two tests of what is up that agree on arcs give one run
    pub run_agrees : (up up' : ℕ → Bool) → ((a : ℕ) → Arc p a → up a ≡ up' a) → (hd : ℕ → ℕ) (w : List ℕ) (at n : ℕ) → run rule up hd at n w ≡ run rule up' hd at n w
    run_agrees up up' agree hd w at n = run-same rule rule up up' hd w at n (λ x a h. refl) (λ x a h e. agree a (arc x a e))
