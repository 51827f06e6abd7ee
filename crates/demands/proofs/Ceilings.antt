-- The allowance and the order quantity are document 01's. Assumes nothing.
use mathlib.Core.Path.{◌≡◌, refl}
use Prim.Native.Nat.{ℕ, ◌+◌, ◌≤◌}
use borrow.Author.Tests.{le-ltb}
use Rattle.answers.specs.Answers.{given}
use Rattle.answers.specs.Checks.{answer}
use Rattle.allowance.proofs.Ceiling.{allowance-enough, allowance-least}
use Rattle.quantity.specs.Quantity.{max_spare, spare, spare_above, order_quantity}
use Rattle.quantity.proofs.Spare.{spare-enough, spare-least}
use Rattle.demands.specs.Ceilings.{Ceilings}

accepted : (a p : ℕ) → p ≤ max_spare → answer (order_quantity a p) ≡ given (a + spare a p)
unfolding order_quantity spare_above
accepted a p h = rw (le-ltb max_spare p h) refl

pub ceilings : Ceilings
ceilings = record {
  allowance_is = λ n. record { enough = allowance-enough n; least = allowance-least n };
  quantity_is = λ a p h. (spare a p, record { enough = spare-enough a p; least = spare-least a p }, accepted a p h);
}
