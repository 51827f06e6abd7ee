-- What crossing an arc does to the uncrossed arcs in use, and to their number. Assumes nothing.
use mathlib.Core.Path.{◌≡◌}
use mathlib.Core.Logic.{◌⊎◌, inl, inr}
use mathlib.Core.Bool.{Bool, not}
use mathlib.Core.List.{List, [], ◌∷◌}
use Prim.Native.Nat.{ℕ, suc, ◌≤◌, ◌<◌}
use lib.Dec.{T, T_not, not_T, eqb, eqb→eq, eqb_refl}
use Rattle.lists.proofs.Tests.{and_left, and_right, and_both, or_left, or_right, or_cases}
use Rattle.lists.specs.Members.{In}
use Rattle.lists.specs.Count.{count}
use Rattle.lists.proofs.Count.{count_lt}
use Rattle.routes.specs.Trail.{mark, marks, uncrossed}

module _ (ok : ℕ → Bool) where
  -- an arc that is uncrossed was uncrossed before
  pub mark-before : (m : ℕ → Bool) (a b : ℕ) → T (uncrossed ok (mark a m) b) → T (uncrossed ok m b)
  mark-before m a b t =
      and_both (ok b) (not (m b)) (and_left (ok b) (not (mark a m b)) t)
      (not_T (m b) (λ u. T_not (mark a m b) (and_right (ok b) (not (mark a m b)) t) (or_right (eqb b a) (m b) u)))

  pub marks-before : (w : List ℕ) (m : ℕ → Bool) (b : ℕ) → T (uncrossed ok (marks w m) b) → T (uncrossed ok m b)
  marks-before [] m b t = t
  marks-before (a ∷ w) m b t = mark-before m a b (marks-before w (mark a m) b t)

  pub mark-same : (m : ℕ → Bool) (a : ℕ) → T (uncrossed ok (mark a m) a) → ⊥
  mark-same m a t = T_not (mark a m a) (and_right (ok a) (not (mark a m a)) t) (or_left (eqb a a) (m a) (eqb_refl a))

  pub mark_other : (m : ℕ → Bool) (a b : ℕ) → (b ≡ a → ⊥) → T (uncrossed ok m b) → T (uncrossed ok (mark a m) b)
  mark_other m a b f t =
      and_both (ok b) (not (mark a m b)) (and_left (ok b) (not (m b)) t) (not_T (mark a m b) (λ u. go (or_cases (eqb b a) (m b) u)))
    where
      go : T (eqb b a) ⊎ T (m b) → ⊥
      go (inl e) = f (eqb→eq b a e)
      go (inr v) = T_not (m b) (and_right (ok b) (not (m b)) t) v

  pub marks_other : (w : List ℕ) (m : ℕ → Bool) (b : ℕ) → (In b w → ⊥) → T (uncrossed ok m b) → T (uncrossed ok (marks w m) b)
  marks_other [] m b f t = t
  marks_other (a ∷ w) m b f t = marks_other w (mark a m) b (λ i. f (inr i)) (mark_other m a b (λ e. f (inl e)) t)

  module _ (n : ℕ) where
    -- how many arcs in use are uncrossed
    abbrev pub remaining : (ℕ → Bool) → ℕ
    remaining m = count n (uncrossed ok m)

    -- crossing an uncrossed arc, after those of a list, leaves fewer
    pub marks_less : (w : List ℕ) (m : ℕ → Bool) (a : ℕ) → a < n → T (uncrossed ok m a) → suc (remaining (mark a (marks w m))) ≤ remaining m
    marks_less w m a h t =
        count_lt n (uncrossed ok m) (uncrossed ok (mark a (marks w m))) a h t (mark-same (marks w m) a)
        (λ b i v. marks-before w m b (mark-before (marks w m) a b v))
