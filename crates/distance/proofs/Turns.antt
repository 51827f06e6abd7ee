-- A list whose members are changed in turn. Assumes nothing.
use mathlib.Core.Path.{refl, ◌∙◌, subst}
use mathlib.Core.Logic.{⊎_elim}
use mathlib.Core.List.{List}
use Prim.Native.Nat.{ℕ, ◌+◌, ◌≤◌, ◌<◌}
use native.Mathlib.Omega.{arith}
use lib.ListN.{length, get_or, set, length-set}
use lib.Seq.{get_or-set_other}
use Rattle.lists.specs.Arrays.{at}
use Rattle.lists.proofs.Tests.{eq?}
use Rattle.arcs.proofs.Tables.{set_cases}
use Rattle.distance.specs.Ways.{Turned, ByWay}

module _ {A : Type 0} (z : A) (R : ℕ → A → A → Type 0) (old : List A) where
  pub turned_none : Turned z R old 0 old
  turned_none = record { long = refl; done = λ j h. absurd (omega arith); left = λ j h. refl }

  pub turned_put : (i : ℕ) (a : A) (new : List A) → i < length old → Turned z R old i new → R i (get_or new i z) a → Turned z R old (i + 1) (set new i a)
  turned_put i a new h p r = record {
    long = length-set new i a ∙ p.long;
    done = set_cases new i a z (omega (arith, p.long)) (λ j y. j < i + 1 → R j (get_or old j z) y) (λ _. subst (λ (x : A). R i x a) (p.left i (omega arith)) r)
        (λ j ne l. p.done j (omega (arith, ne)));
    left = λ j l. get_or-set_other new i j a z (λ e. omega arith) ∙ p.left j (omega arith);
  }

  -- a member that is already what R says stays
  pub turned_pass : (i : ℕ) (new : List A) → Turned z R old i new → R i (get_or new i z) (get_or new i z) → Turned z R old (i + 1) new
  turned_pass i new p r = record {
    long = p.long;
    done = λ j h. ⊎_elim (λ e. rw e (subst (λ (x : A). R i x (get_or new i z)) (p.left i (omega arith)) r)) (λ ne. p.done j (omega (arith, ne))) (eq? j i);
    left = λ j l. p.left j (omega arith);
  }

-- a row stays by way of a switch that is so far away that no hops in the row are more
pub far_away : (row on : List ℕ) (d n : ℕ) → ((v : ℕ) → v < n → at row v ≤ d) → ByWay row on d n row
far_away row on d n h = record { long = refl; done = λ v l. omega (arith, h v l); left = λ v l. refl }
