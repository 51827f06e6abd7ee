-- Flags of all arcs as rules: those of the table, and of the opposite arcs. Assumes nothing.
use mathlib.Core.Path.{◌≡◌, sym, ap, ◌∙◌}
use mathlib.Core.Bool.{Bool}
use mathlib.Core.List.{List}
use Prim.Native.Nat.{ℕ, ◌/◌}
use Rattle.lists.specs.Arrays.{flag}
use Rattle.lists.proofs.Tests.{true_T}
use Rattle.plant.specs.declared.Plant.{Plant}
use Rattle.plant.specs.Links.{live}
use Rattle.walks.specs.Arcs.{tail, head}
use Rattle.rings.specs.Packet.{End, run_on, rules_for}
use Rattle.rings.specs.Rules.{in_all}
use Rattle.arcs.specs.Net.{AllArcs}
use Rattle.packet.specs.Runs.{flagged, up_of, goes_by}
use Rattle.packet.specs.Asked.{ForArcs}

module _ (p : Plant) (rules : List Bool) (all : AllArcs p rules) where
  -- they are for arcs of the plant
  pub all-arcs : ForArcs p rules
  all-arcs a t = true_T (live p (a / 2)) (sym (all.tells a) ∙ t)

  -- a run under them is one under all rules
  pub on_all : (n : ℕ) (states : List ℕ) (e : End) (w : List ℕ) → goes_by n p rules states e w ≡ run_on (in_all p) (up_of n states) (head p) e w
  unfolding in_all flagged
  on_all n states e w = ap (λ (kind : ℕ → Bool). run_on (rules_for kind (tail p)) (up_of n states) (head p) e w) same
    where
      same : flag rules ≡ (λ a. live p (a / 2))
      same = λ i a. all.tells a i
