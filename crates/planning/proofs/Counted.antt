-- The forwarding table and the numbers of a plant: by the flags of its bridges and of its arcs in use, and the hops of its trails. Assumes nothing.
use mathlib.Core.Path.{◌≡◌, ap, ◌∙◌}
use mathlib.Core.Bool.{Bool}
use mathlib.Core.List.{List}
use Prim.Native.Nat.{ℕ, ◌*◌, ◌≤◌}
use native.Mathlib.Omega.{arith}
use Rattle.lists.specs.Arrays.{flag, at}
use Rattle.lists.specs.Count.{count}
use Rattle.lists.proofs.Count.{count-all}
use Rattle.lists.proofs.Tests.{not_true_false, true_T}
use Rattle.plant.specs.declared.Plant.{Plant}
use Rattle.plant.specs.Links.{live}
use Rattle.limits.specs.Limits.{max_links, max_rules}
use Rattle.limits.specs.Sound.{Sound}
use Rattle.walks.specs.Graph.{bridge, live_links, bridges}
use Rattle.walks.specs.Components.{used, arcs_used}
use Rattle.walks.proofs.Labels.{arc_below}
use Rattle.walks.proofs.Live.{live_below}
use Rattle.walks.proofs.Tests.{bridge-live}
use Rattle.walks.proofs.Components.{used_arc}
use Rattle.walks.proofs.Limits.{few-used}
use Rattle.arcs.specs.Flags.{Flags, count_set}
use Rattle.uses.proofs.Uses.{flags_count}
use Rattle.plan.specs.Plan.{table_of}
use Rattle.plan.proofs.Plan as plant
use Rattle.table.specs.Rules.{table_in}
use Rattle.planning.specs.declared.Numbers.{Numbers}
use Rattle.planning.specs.declared.Chart.{Chart}
use Rattle.planning.specs.declared.Layout.{Layout}
use Rattle.planning.specs.Numbers.{numbers_of}

pub links-few : (p : Plant) → Sound p → live_links p ≤ max_links
unfolding live_links
links-few p sound = omega (arith, count-all p.count (live p), sound.few_links)

-- flags as a test
pub flags_same : {n : ℕ} {test : ℕ → Bool} {fs : List Bool} → Flags n test fs → flag fs ≡ test
flags_same f = λ j a. f.tells a j

module _ (x : Chart) where
  abbrev p : Plant
  p = x.ends.plant

  bridges_are : count_set x.bridges ≡ bridges p
  unfolding bridges
  bridges_are =
      flags_count max_links (bridge p) p.count x.bridges x.charted.bridges_are x.ends.sound.few_links
      (λ l h. not_true_false (bridge p l) (λ e. omega (arith, live_below p l (bridge-live p l (true_T (bridge p l) e)))))

  rules-are : count_set x.used ≡ arcs_used p
  unfolding arcs_used
  rules-are =
      flags_count (2 * max_links) (used p) (2 * p.count) x.used x.charted.used_are (omega (arith, x.ends.sound.few_links))
      (λ a h. not_true_false (used p a) (λ e. omega (arith, arc_below p a (used_arc p a (true_T (used p a) e)))))

  -- there is a place for each label and each rule
  pub places-enough : (2 * p.count ≤ 2 * max_links) × (count (2 * p.count) (flag x.used) ≤ max_rules)
  unfolding arcs_used
  places-enough = (omega (arith, x.ends.sound.few_links), omega (arith, ap (count (2 * p.count)) (flags_same x.charted.used_are), few-used p x.ends.sound))

  -- its forwarding table is the plant's
  pub table_is : table_in (2 * p.count) (at x.ends.tails) (at x.ends.heads) (flag x.used) ≡ table_of p
  table_is = plant.table_is p x.ends.ends.tails_are x.ends.ends.heads_are (flags_same x.charted.used_are)

  pub bridges-few : count_set x.bridges ≤ max_links
  unfolding bridges
  bridges-few = omega (arith, bridges_are, count-all p.count (bridge p), x.ends.sound.few_links)

  pub rules-few : count_set x.used ≤ 2 * max_links
  unfolding arcs_used
  rules-few = omega (arith, rules-are, count-all (2 * p.count) (used p), x.ends.sound.few_links)

pub numbers-are : (x : Layout) (n b u : ℕ) → n ≡ live_links x.chart.ends.plant → b ≡ count_set x.chart.bridges → u ≡ count_set x.chart.used
    → record { switches = x.chart.ends.plant.switches; links = n; bridges = b; rules = u; hops = x.hops } ≡ numbers_of x.chart.ends.plant
unfolding numbers_of
numbers-are x n b u k e d =
    rw (k, e ∙ bridges_are x.chart, d ∙ rules-are x.chart) (ap with x.measured.hops_are)
  where
    with : ℕ → Numbers
    with h = record { switches = x.chart.ends.plant.switches; links = live_links x.chart.ends.plant; bridges = bridges x.chart.ends.plant; rules = arcs_used x.chart.ends.plant; hops = h }
