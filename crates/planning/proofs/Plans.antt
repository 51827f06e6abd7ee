-- Laws of planning: what a plan of a listing that has a switch answers, by the answer of a reading. Assumes nothing.
use mathlib.Core.Path.{◌≡◌, refl, sym, ap, ◌∙◌, subst}
use mathlib.Core.List.{List, [], ◌∷◌}
use Prim.Native.Nat.{ℕ, ◌<◌}
use borrow.Author.Tests.{leb-false, lt-leb}
use lib.Dec.{leb}
use Rattle.std.specs.Prelude.{Result, Ok, Err}
use Rattle.plant.specs.declared.Plant.{Plant}
use Rattle.answers.specs.declared.Refusal.{Refusal}
use Rattle.answers.specs.Answers.{given, refused, number_of}
use Rattle.answers.specs.Checks.{Checked, trying, check, answer, ◌then◌}
use Rattle.answers.specs.Results.{answer_of, Judges}
use Rattle.answers.proofs.Checks.{given-given, refuse-given, goes_on, came_from, result-given}
use Rattle.answers.proofs.Results.{ok_then, err_then, passed, turned_down}
use Rattle.limits.specs.Sound.{Sound}
use Rattle.codec.specs.Field.{Bytes}
use Rattle.listing.specs.Listing.{reading}
use Rattle.listing.proofs.RoundTrip.{decode_sound}
use Rattle.planning.specs.Planning.{switch_out_of_range, planning_at}

-- ---- refusals 1 to 8, then 11

module _ (s : List ℕ) (x : ℕ) where
  -- the plant that is read has the switch
  pub given-at : (p : Plant) → answer (reading s) ≡ given p → x < p.switches → answer (planning_at s x) ≡ given p
  unfolding planning_at switch_out_of_range
  given-at p e h = goes_on (reading s) (λ r. check ((11, leb r.switches x) ∷ []) r) p e ∙ rw (lt-leb p.switches x h) refl

  pub at-given : (p : Plant) → answer (planning_at s x) ≡ given p → (answer (reading s) ≡ given p) × (x < p.switches)
  unfolding planning_at switch_out_of_range
  at-given p e =
      let q = came_from (reading s) (λ r. check ((11, leb r.switches x) ∷ []) r) p e in
      let u = refuse-given 11 (leb q.0.switches x) (given q.0) p q.2 in
      let same = given-given q.0 p u.1 in
      (q.1 ∙ ap given same, subst (λ (r : Plant). x < r.switches) same (leb-false q.0.switches x u.0))

  -- where a call that goes on from there gives a result, the plant is sound, it has the switch, and the result is what the call gives of it
  pub at-result : {A : Type 0} (f : Plant → Checked A) (a : A) → Bytes s → answer (planning_at s x then f) ≡ given a
      → Sound (planning_at s x).result × (x < (planning_at s x).result.switches) × (answer (f (planning_at s x).result) ≡ given a)
  at-result f a b e =
      let u = came_from (planning_at s x) f a e in
      let h = at-given u.0 u.1 in
      subst (λ (p : Plant). Sound p × (x < p.switches) × (answer (f p) ≡ given a)) (sym (result-given (planning_at s x) u.0 u.1)) (decode_sound s u.0 b h.0, h.1, u.2)

  -- by the result r of a reading
  module _ (r : Result Plant Refusal) (q : answer_of r ≡ answer (reading s)) where
    pub at_refused : (k : Refusal) → r ≡ Err k → answer (planning_at s x) ≡ refused (number_of k)
    unfolding planning_at
    at_refused k e = err_then (λ p. p) (reading s) r q (λ p. check ((11, switch_out_of_range p x) ∷ []) p) k e

    module _ (p : Plant) (e : r ≡ Ok p) (v : Result Unit Refusal) (j : Judges ((11, leb p.switches x) ∷ []) v) where
      goes : answer (planning_at s x) ≡ trying ((11, leb p.switches x) ∷ []) (given p)
      unfolding planning_at switch_out_of_range
      goes = ok_then (λ p. p) (reading s) r q (λ p. check ((11, leb p.switches x) ∷ []) p) p e

      pub at_outside : (k : Refusal) → v ≡ Err k → answer (planning_at s x) ≡ refused (number_of k)
      at_outside k d = goes ∙ turned_down ((11, leb p.switches x) ∷ []) v j (given p) k d

      pub at_inside : (u : Unit) → v ≡ Ok u → answer (planning_at s x) ≡ given p
      at_inside u d = goes ∙ passed ((11, leb p.switches x) ∷ []) v j (given p) u d
