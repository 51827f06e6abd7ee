-- By the order quantity of the rules of the table.
use mathlib.Core.Path.{◌≡◌, sym, ap, ◌∙◌, subst}
use Prim.Native.Nat.{ℕ}
use Rattle.answers.specs.Answers.{given, refused}
use Rattle.answers.specs.Checks.{answer}
use Rattle.answers.proofs.Checks.{gives_so, refuses_so}
use Rattle.answers.proofs.Results.{exit}
use Rattle.sheet.specs.declared.Sheet.{Sheet}
use Rattle.plant.specs.declared.Plant.{Plant}
use Rattle.senders.specs.declared.BySwitch.{BySwitch}
use Rattle.senders.specs.Senders.{by_switch}
use Rattle.senders.specs.Placed.{Placed}
use Rattle.quantity.specs.Quantity.{order_quantity}
use Rattle.plan.specs.Plan.{table_of}
use Rattle.plan.proofs.Totals.{placed}
use Rattle.quoting.specs.Quotes.{sheet_with, pricing}
use Rattle.quoting.proofs.price.Goals as goal

module _ (p : Plant) (b : BySwitch) (f : b ≡ by_switch (table_of p)) (spare : ℕ) where
  -- by the order quantity of the total
  price_given : (n : ℕ) → answer (order_quantity b.total spare) ≡ given n → answer (pricing p spare) ≡ given (sheet_with p b n)
  unfolding pricing
  price_given n e =
      gives_so (order_quantity (by_switch (table_of p)).total spare) (sheet_with p (by_switch (table_of p))) n (ap (λ (r : BySwitch). answer (order_quantity r.total spare)) (sym f) ∙ e)
      ∙ ap (λ (r : BySwitch). given (sheet_with p r n)) (sym f)

  price_refused : (k : ℕ) → answer (order_quantity b.total spare) ≡ refused k → answer (pricing p spare) ≡ refused k
  unfolding pricing
  price_refused k e =
      refuses_so (order_quantity (by_switch (table_of p)).total spare) (sheet_with p (by_switch (table_of p))) k (ap (λ (r : BySwitch). answer (order_quantity r.total spare)) (sym f) ∙ e)

pub by_switch-rules-requires : goal.by_switch-rules-requires
by_switch-rules-requires c = subst Placed (sym c.table_of-table.ensures) (placed _ c.args.x.now.ends.sound)

pub returns-in_err-n : goal.returns-in_err-n
returns-in_err-n c =
    let rules-are = c.by_switch-rules.ensures ∙ ap by_switch c.table_of-table.ensures in
    exit (λ (s : Sheet). s) _ _ c.from_residual.ensures.1 ∙ sym (price_refused c.args.x.now.ends.plant _ rules-are c.args.spare _ (sym c.in_err-n.ensures))

pub returns : goal.returns
returns c =
    let rules-are = c.by_switch-rules.ensures ∙ ap by_switch c.table_of-table.ensures in
    ap given c.sheet_of.ensures ∙ sym (price_given c.args.x.now.ends.plant _ rules-are c.args.spare _ (sym c.in_ok-n.ensures))
