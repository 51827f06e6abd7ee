-- What demand 3 says of the rule page. Assumes a sound plant.
use mathlib.Core.Path.{◌≡◌, refl, sym, ap, subst, ◌∙◌}
use mathlib.Core.Logic.{◌↔◌}
use mathlib.Core.List.{List, [], ◌∷◌, map}
use Prim.Native.Nat.{ℕ, ◌*◌, ◌/◌, ◌<◌}
use native.Mathlib.Omega.{arith}
use lib.Dec.{T}
use lib.ListN.{length, get_or}
use Rattle.lists.specs.Members.{In, memb}
use Rattle.lists.proofs.Members.{memb→in, in→memb}
use Rattle.lists.proofs.Count.{count_both}
use Rattle.lists.specs.Numbers.{range, keep}
use Rattle.lists.proofs.Rising.{keep-rises}
use Rattle.lists.proofs.Numbers.{in_range, keep_in, in_keep}
use Rattle.plant.specs.declared.Plant.{Plant}
use Rattle.limits.specs.Sound.{Sound}
use Rattle.walks.proofs.Live.{live_below}
use Rattle.walks.proofs.Fewest.{fewest_together, fewest}
use Rattle.walks.proofs.Valid.{sound_valid}
use Rattle.table.specs.Rules.{rules_in}
use Rattle.walks.specs.Components.{used, arcs_used}
use Rattle.plan.specs.Plan.{trail_of, rule_of, rules_of}
use Rattle.plan.proofs.Plan.{used_arc, rules_by_label, rules-number}
use Rattle.plan.proofs.Trails.{trails-are, trails-closed, trails_cross}
use Rattle.demands.specs.Demand3.{rule_labels, arcs_crossed, RulePage}

module _ (p : Plant) where
  label_rule : (ls : List ℕ) → map (λ r. r.label) (map (rule_of p) ls) ≡ ls
  label_rule [] = refl
  label_rule (a ∷ ls) = ap (λ (l : List ℕ). a ∷ l) (label_rule ls)

  -- the labels are those of the arcs in use, by rising number
  labels-are : rule_labels p ≡ keep (used p) (range 0 (2 * p.count))
  unfolding rules_in
  labels-are = label_rule (keep (used p) (range 0 (2 * p.count)))

  own-rules : rules_of p ≡ map (rule_of p) (rule_labels p)
  unfolding rules_in
  own-rules = ap (map (rule_of p)) (sym labels-are)

  labels-used : (a : ℕ) → In a (rule_labels p) ↔ T (used p a)
  labels-used a = rw labels-are (
    λ h. (keep_in (used p) a (range 0 (2 * p.count)) h).1,
    λ t. in_keep (used p) a (range 0 (2 * p.count)) (in_range a 0 (2 * p.count) (omega arith) (omega (arith, live_below p (a / 2) (used_arc p a t)))) t,
  )

  module _ (ok : Sound p) where
    abbrev exactly : (a : ℕ) → In a (trail_of p) ↔ T (used p a)
    exactly = (trails-are p ok).exactly

    -- the trails cross as many different arcs as there are in use
    just_so : arcs_crossed p (trail_of p) ≡ length (rules_of p)
    unfolding arcs_used
    just_so =
        count_both (2 * p.count) (λ a. memb a (trail_of p)) (used p) (λ a h. (λ t. (exactly a).0 (memb→in a (trail_of p) t), λ t. in→memb a (trail_of p) ((exactly a).1 t)))
        ∙ sym (rules_by_label p)

    pub rule_page : RulePage p
    rule_page = record {
      of_arcs = own-rules;
      crossed = λ a. (λ h. (exactly a).1 ((labels-used a).0 h), λ h. (labels-used a).1 ((exactly a).0 h));
      rising = subst (λ (ls : List ℕ). (i j : ℕ) → i < j → j < length ls → get_or ls i 0 < get_or ls j 0) (sym labels-are) (keep-rises (used p) 0 (2 * p.count));
      number = rules-number p ok;
      fewest = λ ws c h. omega (arith, rules-number p ok, fewest_together p (sound_valid p ok) ws c h);
      fewest_one = λ w c h. omega (arith, rules-number p ok, fewest p (sound_valid p ok) w c h);
      attained = (trails-closed p ok, trails_cross p ok, just_so);
    }
