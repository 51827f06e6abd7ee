-- The first arcs of the switches that a walk from the root reaches, laid one by one. Assumes nothing.
use mathlib.Core.Path.{◌≡◌, ◌∙◌}
use mathlib.Core.List.{List}
use Prim.Native.Nat.{ℕ, ◌+◌, ◌<◌}
use native.Mathlib.Omega.{arith}
use lib.ListN.{set, replicate, length-set, length-replicate}
use Rattle.limits.specs.Limits.{max_switches}
use Rattle.arcs.proofs.Tables.{set_cases}
use Rattle.legs.specs.Firsts.{first_of, Firsts}

module _ (S n root : ℕ) (first : List ℕ) (t : List (List ℕ)) where
  pub firsts-none : Firsts S n root first t 0 (replicate max_switches n)
  firsts-none = record { long = length-replicate max_switches n; done = λ x h. absurd (omega arith) }

  pub firsts_put : (y a : ℕ) (low : List ℕ) → Firsts S n root first t y low → y < max_switches → a ≡ first_of S n root first t y → Firsts S n root first t (y + 1) (set low y a)
  firsts_put y a low firsts h e = record {
    long = length-set low y a ∙ firsts.long;
    done = set_cases low y a 0 (omega (arith, firsts.long)) (λ x b. x < y + 1 → b ≡ first_of S n root first t x) (λ _. e) (λ x f k. firsts.done x (omega (arith, f)));
  }
