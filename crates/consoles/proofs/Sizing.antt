-- Refusal 19 before those of a listing, then the switches of its plant and the links in service of the component of a switch. Assumes nothing.
use mathlib.Core.Path.{◌≡◌, refl, sym, ap, ◌∙◌}
use mathlib.Core.Logic.{◌⊎◌, inl, inr}
use mathlib.Core.List.{List, [], ◌∷◌}
use Prim.Native.Nat.{ℕ}
use Rattle.std.specs.Prelude.{Result, Ok, Err}
use Rattle.std.specs.Result.{result_and}
use Rattle.answers.specs.declared.Refusal.{Refusal}
use Rattle.answers.specs.Answers.{given, refused, number_of}
use Rattle.answers.specs.Checks.{answer, ◌giving◌}
use Rattle.answers.specs.Results.{answer_as, Judges}
use Rattle.answers.proofs.Results.{ok_giving, err_giving, passed, turned_down}
use Rattle.plant.specs.declared.Plant.{Plant}
use Rattle.listing.specs.Listing.{reading}
use Rattle.walks.specs.Components.{links_with}
use Rattle.consoles.specs.Calls.{console_out_of_range, sizing}

-- the first of two results that refuses: neither does, or one of them is it
module _ {A : Type 0} where
  both_given : (v : Result Unit Refusal) (z : Result A Refusal) (y : A) → result_and v z ≡ Ok y → (u : Unit) × (v ≡ Ok u) × (z ≡ Ok y)
  both_given (Ok u) z y e = (u, refl, e)
  both_given (Err n) z y e = absurd cc

  one_refused : (v : Result Unit Refusal) (z : Result A Refusal) (m : Refusal) → result_and v z ≡ Err m → (v ≡ Err m) ⊎ ((u : Unit) × (v ≡ Ok u) × (z ≡ Err m))
  one_refused (Ok u) z m e = inr (u, refl, e)
  one_refused (Err n) z m e = inl cc

pub not_given : (v : Result Unit Refusal) (n : Refusal) → v ≡ Err n → (u : Unit) → v ≡ Ok u → ⊥
not_given v n f u e = cc

-- v is whether the console is one of the desk's
module _ (k : ℕ) (s : List ℕ) (x : ℕ) (v : Result Unit Refusal) (j : Judges ((19, console_out_of_range k) ∷ []) v) where
  abbrev size : Plant → ℕ × ℕ
  size p = (p.switches, links_with p x)

  pub no_console : (n : Refusal) → v ≡ Err n → answer (sizing k s x) ≡ refused (number_of n)
  unfolding sizing
  no_console n e = turned_down ((19, console_out_of_range k) ∷ []) v j (answer (reading s giving size)) n e

  goes_by : (u : Unit) → v ≡ Ok u → answer (sizing k s x) ≡ answer (reading s giving size)
  unfolding sizing
  goes_by u e = passed ((19, console_out_of_range k) ∷ []) v j (answer (reading s giving size)) u e

  -- and z what the listing comes to, with p for the plant of what it gives, wherever the console is one
  module _ {A : Type 0} (p : A → Plant) (z : Result A Refusal) (q : (u : Unit) → v ≡ Ok u → answer_as p z ≡ answer (reading s)) where
    pub sized_on : (y : A) → result_and v z ≡ Ok y → (n : ℕ) → n ≡ links_with (p y) x → given ((p y).switches, n) ≡ answer (sizing k s x)
    sized_on y e n i =
        let b = both_given v z y e in
        ap (λ (m : ℕ). given ((p y).switches, m)) i ∙ sym (goes_by b.0 b.1 ∙ ok_giving p (reading s) z (q b.0 b.1) size y b.2)

    pub sized_off : (m : Refusal) → result_and v z ≡ Err m → refused (number_of m) ≡ answer (sizing k s x)
    sized_off m e = go (one_refused v z m e)
      where
        go : (v ≡ Err m) ⊎ ((u : Unit) × (v ≡ Ok u) × (z ≡ Err m)) → refused (number_of m) ≡ answer (sizing k s x)
        go (inl h) = sym (no_console m h)
        go (inr b) = sym (goes_by b.0 b.1 ∙ err_giving p (reading s) z (q b.0 b.1) size m b.2)
