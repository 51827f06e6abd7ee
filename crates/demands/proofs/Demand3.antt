-- Demand 3 holds of every listing that is read as a plant. Assumes nothing.
use mathlib.Core.Path.{◌≡◌, refl, ◌∙◌}
use mathlib.Core.List.{List}
use Prim.Native.Nat.{ℕ}
use lib.ListN.{get_or-eq_default}
use Rattle.lists.proofs.Padded.{padded-at}
use Rattle.plant.specs.declared.Plant.{Plant}
use Rattle.answers.specs.Answers.{given}
use Rattle.answers.specs.Checks.{answer}
use Rattle.answers.proofs.Checks.{gives_so}
use Rattle.codec.specs.Field.{Bytes}
use Rattle.listing.specs.Listing.{reading}
use Rattle.listing.proofs.RoundTrip.{decode_sound}
use Rattle.walks.specs.Components.{links_with}
use Rattle.search.specs.Search.{new_search}
use Rattle.limits.specs.Limits.{max_rules}
use Rattle.limits.specs.Sound.{Sound}
use Rattle.table.specs.Rules.{zero_rule, table_with}
use Rattle.plan.specs.Plan.{rules_of, table_of}
use Rattle.plan.proofs.Totals.{placed}
use Rattle.planning.specs.Planning.{planning_at}
use Rattle.planning.proofs.Plans.{given-at}
use Rattle.planner.specs.Calls.{tabling}
use Rattle.probing.specs.Calls.{beginning, performed_in, performing}
use Rattle.demands.specs.Demand3.{PageHanded, Demand3}
use Rattle.demands.proofs.RulePages.{rule_page}
use Rattle.demands.proofs.Reached.{reached, by_rule, says_by_rule, reached_by_rule}
use Rattle.demands.proofs.CallByCall.{call_by_call}
use Rattle.demands.proofs.Naming.{names}
use Rattle.probing.proofs.Searching.{searches}

-- the forwarding table as it is handed back
page_handed : (p : Plant) → Sound p → PageHanded p (table_of p)
unfolding table_with
page_handed p ok = record {
  page_count = refl;
  page_places = (placed p ok).places;
  page_each = λ i h. padded-at max_rules zero_rule (rules_of p) i;
  page_zeros = λ i h. padded-at max_rules zero_rule (rules_of p) i ∙ get_or-eq_default (rules_of p) zero_rule {n = i} h;
}

pub demand_3 : (s : List ℕ) → Bytes s → (p : Plant) → answer (reading s) ≡ given p → Demand3 s p
unfolding tabling beginning performing performed_in
demand_3 s b p e =
    let ok = decode_sound s p b e in
    record {
      page = (table_of p, gives_so (reading s) table_of p e, page_handed p ok);
      rules = rule_page p ok;
      begins = λ x h. gives_so (planning_at s x) (λ q. new_search (links_with q x)) p (given-at s x p e h);
      performs = λ x h cs. gives_so (planning_at s x) (performed_in x cs) p (given-at s x p e h);
      call_by_call = λ x h cs. call_by_call p x cs;
      searches = λ x h. searches p ok x h;
      reached = λ x h. reached p ok x h;
      names = λ x h. names s b p e x h;
      by_rule = λ x h cs states. by_rule p ok x h states cs;
      says_by_rule = λ x h cs states. says_by_rule p ok x h states cs;
      reached_by_rule = λ x h. reached_by_rule p ok x h;
    }
