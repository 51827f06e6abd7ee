-- What document 02's order 2 promises holds: of every plant value, and of every listing that is read as a plant. Assumes nothing.
use mathlib.Core.Path.{◌≡◌, sym, ap, ◌∙◌}
use mathlib.Core.List.{List}
use Prim.Native.Nat.{ℕ}
use native.Mathlib.Omega.{arith}
use Rattle.lists.specs.Arrays.{at}
use Rattle.plant.specs.declared.Plant.{Plant}
use Rattle.answers.specs.Answers.{given}
use Rattle.answers.specs.Checks.{answer}
use Rattle.answers.proofs.Checks.{gives_so}
use Rattle.codec.specs.Field.{Bytes}
use Rattle.listing.specs.Listing.{reading}
use Rattle.listing.proofs.RoundTrip.{decode_sound}
use Rattle.walks.specs.Components.{arcs_used}
use Rattle.senders.specs.Senders.{over_switches, by_switch}
use Rattle.senders.proofs.Senders.{held}
use Rattle.quantity.specs.Quantity.{with_spare}
use Rattle.quantity.proofs.Spare.{quantity-sum}
use Rattle.plan.specs.Plan.{rules_of, table_of}
use Rattle.plan.proofs.Totals.{same_totals, totals}
use Rattle.planner.specs.Calls.{tabling, counting}
use Rattle.demands.specs.Order2.{SameTotals, BySwitches}

module _ (p : Plant) where
  over-held : (by_switch (table_of p)).total ≡ over_switches (rules_of p)
  unfolding by_switch
  over-held = ap over_switches (held (rules_of p))

  pub same_totals_of : SameTotals p
  unfolding arcs_used
  same_totals_of = record { total = over-held; same = sym over-held ∙ same_totals p }

module _ (s : List ℕ) (b : Bytes s) (p : Plant) (e : answer (reading s) ≡ given p) where
  pub by_switches_is : BySwitches s p
  unfolding tabling counting
  by_switches_is =
      let t = totals p (decode_sound s p b e) in
      record {
        answers = gives_so (reading s) (λ q. by_switch (table_of q)) p e;
        totals = t;
        spare_on_total = λ spare _.
            omega (arith, ap (λ (n : ℕ). with_spare n spare) t.over_switches_is, quantity-sum p.switches (at (by_switch (table_of p)).counts) spare);
      }
