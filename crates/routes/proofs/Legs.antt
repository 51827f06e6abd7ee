-- The legs of the trail: each goes to the nearest uncrossed arc in use and over it, the last to the start, and of the arcs that were uncrossed a leg crosses the
-- nearest alone. Assumes nothing.
use mathlib.Core.Path.{◌≡◌, refl, ap, ◌∙◌, subst}
use mathlib.Core.Logic.{◌↔◌}
use mathlib.Core.Bool.{Bool}
use mathlib.Core.List.{List, [], ◌∷◌, ◌++◌}
use Prim.Native.Nat.{ℕ, zero, suc, ◌≤◌, ◌<◌}
use native.Mathlib.Omega.{arith}
use lib.Dec.{T, ltb, ltb→lt, lt→ltb}
use Rattle.lists.specs.Members.{In}
use Rattle.lists.proofs.Tests.{if_true, if_false}
use Rattle.routes.specs.Distance.{dist, route}
use Rattle.routes.specs.Trail.{mark, marks, uncrossed, nearest, legs}
use Rattle.routes.proofs.Distances.{route_way, route_nearer}
use Rattle.routes.proofs.Marks.{mark-before, marks-before, mark-same, mark_other, marks_other, remaining, marks_less}
use Rattle.routes.proofs.Nearest.{Nearest, Finished, nearest_none, nearest_is}

module _ (S n : ℕ) (tl hd : ℕ → ℕ) (ok : ℕ → Bool) (start : ℕ) where
  abbrev N : (ℕ → Bool) → ℕ → ℕ → Type 0
  N m u a = Nearest S n tl hd ok m u a

  abbrev None : (ℕ → Bool) → Type 0
  None m = Finished S n tl hd ok m

  abbrev best : (ℕ → Bool) → ℕ → ℕ
  best m u = nearest S n tl hd ok m u

  abbrev way : ℕ → ℕ → List ℕ
  way u v = route S n tl hd ok u v

  abbrev from : ℕ → (ℕ → Bool) → ℕ → List ℕ
  from f m u = legs S n tl hd ok start f m u

  -- a leg from u over arc a, and what follows
  abbrev pub leg_then : ℕ → (ℕ → Bool) → List ℕ → ℕ → List ℕ
  leg_then f m w a = w ++ (a ∷ from f (mark a (marks w m)) (hd a))

  pub one-leg : (f : ℕ) (m : ℕ → Bool) (u a : ℕ) → N m u a → from (suc f) m u ≡ leg_then f m (way u (tl a)) a
  unfolding legs
  one-leg f m u a p =
      let e = nearest_is S n tl hd ok m u a p in
      if_true (ltb (best m u) n) (leg_then f m (way u (tl (best m u))) (best m u)) (way u start) (lt→ltb (best m u) n (omega (arith, e, p.is_arc)))
      ∙ ap (λ (b : ℕ). leg_then f m (way u (tl b)) b) e

  pub last-leg : (f : ℕ) (m : ℕ → Bool) (u : ℕ) → None m → from f m u ≡ way u start
  unfolding legs
  last-leg zero m u g = refl
  last-leg (suc f) m u g =
      if_false (ltb (best m u) n) (leg_then f m (way u (tl (best m u))) (best m u)) (way u start) (λ t. omega (arith, nearest_none S n tl hd ok m u g, ltb→lt (best m u) n t))

  pub none_left : (m : ℕ → Bool) → remaining ok n m ≤ 0 → None m
  none_left m h a i t = omega (arith, marks_less ok n [] m a i t)

  -- on the way to the nearest uncrossed arc no uncrossed arc is crossed, so that after the leg all are left but that one
  pub leg-leaves : (m : ℕ → Bool) (u a b : ℕ) → N m u a → dist S n tl hd ok u (tl a) < S
      → T (uncrossed ok (mark a (marks (way u (tl a)) m)) b) ↔ (T (uncrossed ok m b) × (b ≡ a → ⊥))
  leg-leaves m u a b p h = (
    λ t. (marks-before ok w m b (mark-before ok (marks w m) a b t), λ e. mark-same ok (marks w m) a (subst (λ (c : ℕ). T (uncrossed ok (mark a (marks w m)) c)) e t)),
    λ t. mark_other ok (marks w m) a b t.1 (marks_other ok w m b (off t.0) t.0),
  )
    where
      w : List ℕ
      w = way u (tl a)

      off : T (uncrossed ok m b) → In b w → ⊥
      off t i = omega (arith, p.closest b ((route_way S n tl hd ok u (tl a) h).in_use b i).0 t, route_nearer S n tl hd ok u (tl a) b h i)
