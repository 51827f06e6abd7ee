-- The rules by sending switch: their total over switches is that over labels, for every plant value; each sending switch of a sound plant has a place, and the total is its
-- links plus its bridges.
use mathlib.Core.Path.{◌≡◌, sym, ap, ◌∙◌}
use mathlib.Core.Logic.{◌⊎◌, inl, inr}
use mathlib.Core.List.{List, map}
use Prim.Native.Nat.{ℕ, ◌*◌, ◌≤◌, ◌<◌}
use native.Mathlib.Omega.{arith}
use lib.ListN.{length, get_or-eq_default}
use Rattle.lists.specs.Arrays.{at}
use Rattle.lists.specs.Numbers.{range}
use Rattle.lists.proofs.Tests.{below?}
use Rattle.lists.proofs.Numbers.{values_length, values-at}
use Rattle.lists.proofs.Padded.{padded-length}
use Rattle.lists.proofs.Sum.{sum_same}
use Rattle.limits.specs.Limits.{max_switches, max_rules}
use Rattle.limits.specs.Sound.{Sound}
use Rattle.plant.specs.declared.Plant.{Plant}
use Rattle.walks.specs.Arcs.{tail, head}
use Rattle.walks.specs.Components.{used, arcs_used}
use Rattle.walks.proofs.Labels.{tail_in}
use Rattle.walks.proofs.Valid.{sound_valid}
use Rattle.table.specs.declared.Rule.{Rule}
use Rattle.table.specs.Rules.{zero_rule, table_with}
use Rattle.senders.specs.Senders.{rules_held, sent_by, past_senders, by_switch}
use Rattle.senders.specs.Placed.{Placed}
use Rattle.senders.proofs.Senders.{held, sent-none, sent-all, over_switches_is, senders-below}
use Rattle.plan.specs.Plan.{rules_of, table_of}
use Rattle.plan.specs.Totals.{Totals}
use Rattle.plan.proofs.Plan.{used_arc, rules_by_label, few_arcs, arcs-in_use}

module _ (p : Plant) where
  -- for every plant value, sound or not
  pub same_totals : (by_switch (table_of p)).total ≡ arcs_used p
  unfolding by_switch
  same_totals = over_switches_is (rules_held (table_of p)) ∙ ap length (held (rules_of p)) ∙ rules_by_label p

  counts-held : (by_switch (table_of p)).counts ≡ map (sent_by (rules_of p)) (range 0 max_switches)
  unfolding by_switch
  counts-held = ap (λ (rs : List Rule). map (sent_by rs) (range 0 max_switches)) (held (rules_of p))

  each : (x : ℕ) → x < max_switches → at (by_switch (table_of p)).counts x ≡ sent_by (rules_of p) x
  each x h = ap (λ (l : List ℕ). at l x) counts-held ∙ values-at (sent_by (rules_of p)) 0 max_switches x h

  module _ (ok : Sound p) where
    own : (x : ℕ) → x < p.switches → x < max_switches
    own x h = omega (arith, ok.few_switches)

    -- every sending switch is one of the plant
    senders_in : past_senders (rules_of p) ≤ p.switches
    senders_in = senders-below (tail p) (head p) (used p) (2 * p.count) p.switches (λ a t. tail_in p (sound_valid p ok) a (used_arc p a t))

    pub placed : Placed (table_of p)
    unfolding table_with
    placed = record {
      places = padded-length max_rules zero_rule (rules_of p) ∙ omega (arith, rules_by_label p, few_arcs p ok);
      few = omega (arith, rules_by_label p, few_arcs p ok);
      senders = omega (arith, ap past_senders (held (rules_of p)), senders_in, ok.few_switches);
    }

    zeros : (x : ℕ) → p.switches ≤ x → at (by_switch (table_of p)).counts x ≡ 0
    zeros x h = go (below? x max_switches)
      where
        go : (x < max_switches) ⊎ (max_switches ≤ x) → at (by_switch (table_of p)).counts x ≡ 0
        go (inl i) = each x i ∙ sent-none (rules_of p) x (omega (arith, senders_in))
        go (inr i) =
            get_or-eq_default (by_switch (table_of p)).counts 0 {n = x}
            (omega (arith, ap length counts-held, values_length (sent_by (rules_of p)) 0 max_switches))

    pub totals : Totals p (by_switch (table_of p))
    totals = record {
      each = λ x h. each x (own x h);
      zeros = zeros;
      over_switches_is =
          same_totals ∙ sym (rules_by_label p) ∙ sym (sent-all (rules_of p) p.switches senders_in) ∙ sum_same p.switches (sent_by (rules_of p)) (at (by_switch (table_of p)).counts) (λ x h. sym (each x (own x h)));
      over_labels = same_totals;
      number = same_totals ∙ arcs-in_use p ok;
    }
