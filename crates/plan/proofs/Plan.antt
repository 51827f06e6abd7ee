-- Laws of the plan of a plant, over all its components: theorems A and B, and the number of the rules. Assumes a sound plant where it says so.
use mathlib.Core.Path.{◌≡◌, sym, ◌∙◌, subst}
use mathlib.Core.Logic.{◌⊎◌, ◌↔◌}
use mathlib.Core.Bool.{Bool}
use mathlib.Core.List.{List}
use Prim.Native.Nat.{ℕ, ◌+◌, ◌*◌, ◌≤◌, ◌<◌}
use lib.Dec.{T}
use lib.ListN.{length}
use Rattle.lists.specs.Members.{In}
use Rattle.lists.proofs.Members.{memb→in}
use Rattle.plant.specs.declared.Plant.{Plant}
use Rattle.plant.specs.Links.{live}
use Rattle.limits.specs.Limits.{max_rules}
use Rattle.limits.specs.Sound.{Sound}
use Rattle.walks.specs.Walk.{Walk}
use Rattle.walks.specs.Arcs.{opposite, tail, head, Arc, Valid}
use Rattle.walks.specs.Graph.{visited_from, reached_from, live_links, bridges}
use Rattle.walks.specs.Components.{root_of, used, arcs_used}
use Rattle.walks.proofs.Walk.{weaken}
use Rattle.walks.proofs.Tests.{to_walk}
use Rattle.walks.proofs.Orientation.{strong}
use Rattle.walks.proofs.Components as components
use Rattle.walks.proofs.Valid.{sound_valid}
use Rattle.walks.proofs.Limits.{few-used}
use Rattle.table.specs.Rules.{table_in}
use Rattle.table.proofs.Rules.{rules-count}
use Rattle.plan.specs.Plan.{rules_of, table_of}
pub use Rattle.walks.proofs.Components.{used_arc}

module _ (p : Plant) where
  -- the table by other values that tell the ends of arcs and which are in use
  pub table_is : {tl hd : ℕ → ℕ} {ok : ℕ → Bool} → tl ≡ tail p → hd ≡ head p → ok ≡ used p → table_in (2 * p.count) tl hd ok ≡ table_of p
  table_is d e f = rw (d, e, f)

  -- the rules are as many as the arcs in use, label by label
  pub rules_by_label : length (rules_of p) ≡ arcs_used p
  unfolding arcs_used
  rules_by_label = rules-count (tail p) (head p) (used p) (2 * p.count)

  module _ (ok : Sound p) where
    abbrev valid : Valid p
    valid = sound_valid p ok

    -- there is a place for each rule
    pub few_arcs : arcs_used p ≤ max_rules
    few_arcs = few-used p ok

    -- theorem A: between every two switches of a component there is a walk over arcs in use
    pub strongly_connected : (x y : ℕ) → x < p.switches → y < p.switches → root_of p x ≡ root_of p y
        → (w : List ℕ) × Walk (tail p) (head p) w x y × ((a : ℕ) → In a w → T (used p a))
    strongly_connected x y h i e =
        (to_walk p).0
        (weaken (λ a t. components.used-from p valid ok.start_in (root_of p x) a (components.root-listed p valid ok.start_in x h) t)
        (strong p (root_of p x) valid (components.root_in p valid ok.start_in x h) x y (found x reaches) (found y also)))
      where
        reaches : T (reached_from p (root_of p x) x)
        reaches = components.root_reaches p valid ok.start_in x h

        also : T (reached_from p (root_of p x) y)
        also = subst (λ (r : ℕ). T (reached_from p r y)) (sym e) (components.root_reaches p valid ok.start_in y i)

        found : (z : ℕ) → T (reached_from p (root_of p x) z) → In z (visited_from p (root_of p x)).ord
        found z t = memb→in z (visited_from p (root_of p x)).ord t

    -- an arc of each link is in use
    pub one-used : (l : ℕ) → T (live p l) → T (used p (2 * l)) ⊎ T (used p (2 * l + 1))
    one-used = components.one-used p valid ok.start_in

    -- the rules in all are those of the table, and those of the opposite arcs
    pub arc_used : (a : ℕ) → Arc p a ↔ (T (used p a) ⊎ T (used p (opposite a)))
    arc_used = components.arc_used p valid ok.start_in

    -- theorem B: the arcs in use, and so the rules, are as many as the links and the bridges
    pub arcs-in_use : arcs_used p ≡ live_links p + bridges p
    arcs-in_use = components.arcs-in_use p valid ok.start_in

    pub rules-number : length (rules_of p) ≡ live_links p + bridges p
    rules-number = rules_by_label ∙ arcs-in_use
