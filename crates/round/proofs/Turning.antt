-- Opposite labels, and the ways back place by place. Assumes nothing.
use mathlib.Core.Path.{◌≡◌, ◌∙◌}
use mathlib.Core.Bool.{Bool}
use mathlib.Core.List.{List}
use Prim.Native.Nat.{ℕ, ◌+◌, ◌*◌, ◌<◌}
use native.Mathlib.Omega.{arith}
use lib.Dec.{T}
use lib.ListN.{length, set, length-set}
use lib.Seq.{get_or-set_same, get_or-set_other}
use Rattle.lists.specs.Arrays.{at}
use Rattle.lists.proofs.Stepwise.{upto}
use Rattle.limits.specs.Limits.{max_switches}
use Rattle.walks.specs.Arcs.{opposite}
use Rattle.round.specs.Inner.{enters_by, EntersOnce}

pub opposite-below : (a n : ℕ) → a < 2 * n → opposite a < 2 * n
unfolding opposite
opposite-below a n h = omega arith

module _ (n : ℕ) (heads : List ℕ) (leading entered : List Bool) where
  -- the ways back of the arcs below a are laid
  pub record Back (a : ℕ) (up : List ℕ) : Type 0 where
    pub places : length up ≡ max_switches
    pub laid : (b : ℕ) → b < a → T (enters_by n heads leading entered b) → at up (at heads b) ≡ opposite b

  module _ (a : ℕ) (up : List ℕ) (d : Back a up) where
    -- arc a enters its head, and no arc before it does
    pub back_put : EntersOnce n heads leading entered → T (enters_by n heads leading entered a) → (o : ℕ) → o ≡ opposite a → Back (a + 1) (set up (at heads a) o)
    back_put e t o q = record {
      places = length-set up (at heads a) o ∙ d.places;
      laid = upto {P = λ b. T (enters_by n heads leading entered b) → at (set up (at heads a) o) (at heads b) ≡ opposite b}
          (λ b l u. get_or-set_other up (at heads a) (at heads b) o 0 (λ z. absurd (omega (arith, e.once b a u t z))) ∙ d.laid b l u)
          (λ u. get_or-set_same up (at heads a) o 0 (omega (arith, d.places, e.heads_in a)) ∙ q);
    }

    pub back_pass : (T (enters_by n heads leading entered a) → ⊥) → Back (a + 1) up
    back_pass f = record {
      places = d.places;
      laid = upto {P = λ b. T (enters_by n heads leading entered b) → at up (at heads b) ≡ opposite b} d.laid (λ u. absurd (f u));
    }
