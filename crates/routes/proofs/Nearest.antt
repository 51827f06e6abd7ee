-- The nearest uncrossed arc in use: none is nearer, and none so near has a lower label. Assumes nothing.
use mathlib.Core.Path.{◌≡◌, refl, sym, ◌∙◌}
use mathlib.Core.Logic.{◌⊎◌, inl, inr, ⊎_elim}
use mathlib.Core.Bool.{Bool}
use Prim.Native.Nat.{ℕ, ◌≤◌, ◌<◌}
use native.Mathlib.Omega.{arith}
use lib.Dec.{T, eqb, eqb→eq, ltb→lt, lt→ltb}
use Rattle.lists.proofs.Tests.{eq→eqb, and_left, and_right, and_both}
use Rattle.lists.specs.Least.{least, some}
use Rattle.lists.proofs.Least.{least_passes, least_le, least-none, some?}
use Rattle.routes.specs.Distance.{dist}
use Rattle.routes.specs.Trail.{uncrossed, leaves_at, near, nearest}
use Rattle.routes.proofs.Levels.{le?}
use Rattle.routes.proofs.Distances.{dist_top}

module _ (S n : ℕ) (tl hd : ℕ → ℕ) (ok : ℕ → Bool) where
  abbrev D : ℕ → ℕ → ℕ
  D u v = dist S n tl hd ok u v

  -- a is uncrossed and in use, none such is nearer to u, and none so near has a lower label
  pub record Nearest (m : ℕ → Bool) (u a : ℕ) : Type 0 where
    pub is_arc : a < n
    pub is_left : T (uncrossed ok m a)
    pub closest : (b : ℕ) → b < n → T (uncrossed ok m b) → D u (tl a) ≤ D u (tl b)
    pub lowest : (b : ℕ) → b < a → T (uncrossed ok m b) → D u (tl b) ≡ D u (tl a) → ⊥

  -- no arc in use is uncrossed
  abbrev pub Finished : (ℕ → Bool) → Type 0
  Finished m = (a : ℕ) → a < n → T (uncrossed ok m a) → ⊥

  module _ (m : ℕ → Bool) (u : ℕ) where
    abbrev at : ℕ → ℕ → Bool
    at k a = leaves_at S n tl hd ok m u k a

    -- the arc nearest to u
    abbrev best : ℕ
    best = nearest S n tl hd ok m u

    at_true : (k a : ℕ) → T (uncrossed ok m a) → D u (tl a) ≡ k → T (at k a)
    at_true k a t e = and_both (uncrossed ok m a) (eqb (D u (tl a)) k) t (eq→eqb e)

    at_some : (k a : ℕ) → a < n → T (uncrossed ok m a) → D u (tl a) ≡ k → T (some n (at k))
    at_some k a h t e = lt→ltb (least n (at k)) n (omega (arith, least_le n (at k) a (at_true k a t e)))

    near_le : (a : ℕ) → a < n → T (uncrossed ok m a) → near S n tl hd ok m u ≤ D u (tl a)
    unfolding near
    near_le a h t = least_le S (λ k. some n (at k)) (D u (tl a)) (at_some (D u (tl a)) a h t refl)

    near_passes : near S n tl hd ok m u < S → T (some n (at (near S n tl hd ok m u)))
    unfolding near
    near_passes l = least_passes S (λ j. some n (at j)) l

    -- some uncrossed arc is so near
    near_some : (a : ℕ) → a < n → T (uncrossed ok m a) → T (some n (at (near S n tl hd ok m u)))
    near_some a h t =
        let k = near S n tl hd ok m u in
        ⊎_elim (λ l. at_some k a h t (omega (arith, l, near_le a h t, dist_top S n tl hd ok u (tl a)))) near_passes (le? S k)

    -- of the uncrossed arcs so near none has a lower label
    nearest_lowest : (b : ℕ) → T (at (near S n tl hd ok m u) b) → best ≤ b
    unfolding nearest
    nearest_lowest b t = least_le n (at (near S n tl hd ok m u)) b t

    -- if an arc is uncrossed, one is nearest
    pub nearest_some : (a : ℕ) → a < n → T (uncrossed ok m a) → Nearest m u best
    unfolding nearest
    nearest_some a h t =
        let k = near S n tl hd ok m u in
        let r = least n (at k) in
        let lt : least n (at k) < n = ltb→lt (least n (at k)) n (near_some a h t) in
        let passes : T (at k (least n (at k))) = least_passes n (at k) lt in
        let d : D u (tl r) ≡ k = eqb→eq (D u (tl r)) k (and_right (uncrossed ok m r) (eqb (D u (tl r)) k) passes) in
        record {
          is_arc = lt;
          is_left = and_left (uncrossed ok m r) (eqb (D u (tl r)) k) passes;
          closest = λ b i v. omega (arith, d, near_le b i v);
          lowest = λ b i v e. omega (arith, i, nearest_lowest b (at_true k b v (e ∙ d)));
        }

    -- if none is, there is none
    pub nearest_none : Finished m → best ≡ n
    unfolding nearest
    nearest_none f =
        let k = near S n tl hd ok m u in
        least-none n (at k) (λ j h t. f j h (and_left (uncrossed ok m j) (eqb (D u (tl j)) k) t))

    -- it is the only such arc
    pub nearest_is : (a : ℕ) → Nearest m u a → best ≡ a
    nearest_is a p =
        let q = nearest_some a p.is_arc p.is_left in
        let same : D u (tl best) ≡ D u (tl a) = omega (arith, q.closest a p.is_arc p.is_left, p.closest best q.is_arc q.is_left) in
        ⊎_elim (λ l. ⊎_elim (λ k. omega (arith, l, k)) (λ k. absurd (p.lowest best k q.is_left same)) (le? a best))
        (λ k. absurd (q.lowest a k p.is_left (sym same))) (le? best a)

    -- an arc is nearest, or none is uncrossed
    pub nearest? : Nearest m u best ⊎ Finished m
    nearest? = ⊎_elim (λ r. inl (nearest_some r.0 r.1 r.2)) inr (some? n (uncrossed ok m))
