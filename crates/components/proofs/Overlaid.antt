-- An array that is renewed place by place: a function's values stand below the place reached, and what stood there before from it on. Assumes nothing.
use mathlib.Core.Path.{◌≡◌, ◌∙◌}
use mathlib.Core.List.{List}
use Prim.Native.Nat.{ℕ, ◌+◌, ◌≤◌, ◌<◌}
use native.Mathlib.Omega.{arith}
use lib.ListN.{length, get_or, set, length-set}
use lib.Seq.{get_or-set_same, get_or-set_other}
use Rattle.lists.proofs.Stepwise.{upto}

module _ {A : Type 0} (z : A) (n : ℕ) (f : ℕ → A) (old : List A) where
  pub record Overlaid (i : ℕ) (l : List A) : Type 0 where
    pub places : length l ≡ n
    pub tells : (j : ℕ) → j < i → get_or l j z ≡ f j
    pub same : (j : ℕ) → i ≤ j → get_or l j z ≡ get_or old j z

  pub overlaid_put : (i : ℕ) (l : List A) (a : A) → Overlaid i l → i < n → a ≡ f i → Overlaid (i + 1) (set l i a)
  overlaid_put i l a d h e = record {
    places = length-set l i a ∙ d.places;
    tells =
        upto {P = λ j. get_or (set l i a) j z ≡ f j} (λ j k. get_or-set_other l i j a z (λ q. omega arith) ∙ d.tells j k)
        (get_or-set_same l i a z (omega (arith, d.places)) ∙ e);
    same = λ j k. get_or-set_other l i j a z (λ q. omega arith) ∙ d.same j (omega arith);
  }
