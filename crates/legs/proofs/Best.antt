-- The search for the nearest uncrossed arc in use, switch by switch, where `low` tells what is uncrossed: the best of the arcs that leave switches below y.
-- Assumes that the arcs in use join switches of the network.
use mathlib.Core.Path.{◌≡◌, refl, sym, ap, ◌∙◌, subst}
use mathlib.Core.Logic.{⊎_elim}
use mathlib.Core.Bool.{Bool, not}
use Prim.Native.Nat.{ℕ, ◌+◌, ◌*◌, ◌≤◌, ◌<◌}
use native.Mathlib.Omega.{arith}
use lib.Dec.{T}
use Rattle.std.specs.Prelude.{Option, Some, None}
use Rattle.lists.proofs.Tests.{eq?, and_left}
use Rattle.limits.specs.Limits.{max_links}
use Rattle.routes.specs.Distance.{dist}
use Rattle.routes.specs.Trail.{uncrossed, nearest}
use Rattle.routes.proofs.Distances.{dist_top, dist_self, dist_zero}
use Rattle.routes.proofs.Nearest.{nearest_none, nearest_is}
use Rattle.legs.specs.Nearest.{Lows, Label}
use Rattle.legs.proofs.Lows.{low_left, low_le}

module _ (S n : ℕ) (tl hd : ℕ → ℕ) (ok : ℕ → Bool) (low : ℕ → ℕ) (u : ℕ) where
  abbrev D : ℕ → ℕ
  D y = dist S n tl hd ok u y

  module _ (m : ℕ → Bool) where
    -- what the search goes by: the distance, then the label
    abbrev pub key : ℕ → ℕ
    key b = D (tl b) * (2 * max_links) + b

    -- an uncrossed arc and its key, k; or none, and k is above every key
    abbrev Found : Option ℕ → ℕ → Type 0
    Found (Some a) k = (a < n) × T (uncrossed ok m a) × (k ≡ key a)
    Found None k = k ≡ S * (2 * max_links) + n

    -- of the uncrossed arcs that leave switches below y, r is the one with the least key, k; or there is none
    pub record Best (y : ℕ) (r : Option ℕ) (k : ℕ) : Type 0 where
      pub found : Found r k
      pub first : (b : ℕ) → b < n → T (uncrossed ok m b) → tl b < y → k ≤ key b

    is-label : (a : ℕ) → a < n → nearest S n tl hd ok m u ≡ a → Label n (nearest S n tl hd ok m u) (Some a)
    is-label a h e = (sym e, omega (arith, h, e))

    module _ (lows : Lows S n tl ok low m) where
      -- one that leaves u itself is nearest
      pub here : u < S → low u < n → Label n (nearest S n tl hd ok m u) (Some (low u))
      here h i =
          let z : D (tl (low u)) ≡ 0 = ap D (lows.labels u h i).1 ∙ dist_self S n tl hd ok u in
          is-label (low u) i (nearest_is S n tl hd ok m u (low u) (record {
            is_arc = i;
            is_left = low_left lows u h i;
            closest = λ b k t. omega (arith, z);
            lowest = λ b k t e. omega (arith, k, low_le lows u b (omega (arith, k, i)) t (sym (dist_zero S n tl hd ok u (tl b) (omega arith) (e ∙ z))));
          }))

      pub best_none : Best 0 None (S * (2 * max_links) + n)
      best_none = record { found = refl; first = λ b l t h. absurd (omega arith) }

      module _ (y : ℕ) (r : Option ℕ) (k : ℕ) (best : Best y r k) where
        -- the arcs of switch y are no better, or the lowest of them is the best
        pub best_stay : (r' : Option ℕ) (k' : ℕ) → r' ≡ r → k' ≡ k → (low y < n → k ≤ D y * (2 * max_links) + low y) → Best (y + 1) r' k'
        best_stay r' k' e f h = subst (λ (q : Option ℕ). Best (y + 1) q k') (sym e) (subst (Best (y + 1) r) (sym f) (record {
          found = best.found;
          first = λ b l t i.
              ⊎_elim (λ q. let v = low_le lows y b l t q in omega (arith, ap D q, v, h (omega (arith, v, l)))) (λ q. best.first b l t (omega (arith, q))) (eq? (tl b) y);
        }))

        pub best_new : (r' : Option ℕ) (k' : ℕ) → r' ≡ Some (low y) → k' ≡ D y * (2 * max_links) + low y → k' < k → y < S → low y < n → Best (y + 1) r' k'
        best_new r' k' e f h i j = subst (λ (q : Option ℕ). Best (y + 1) q k') (sym e) (record {
          found = (j, low_left lows y i j, omega (arith, f, ap D (lows.labels y i j).1));
          first = λ b l t o. ⊎_elim (λ q. omega (arith, f, ap D q, low_le lows y b l t q)) (λ q. omega (arith, h, best.first b l t (omega (arith, q)))) (eq? (tl b) y);
        })

      module _ (few : n ≤ 2 * max_links) (inside : (b : ℕ) → b < n → T (ok b) → tl b < S) (y : ℕ) (all : S ≤ y) where
        least : {r : Option ℕ} {k : ℕ} → Best y r k → (b : ℕ) → b < n → T (uncrossed ok m b) → k ≤ key b
        least best b i t = best.first b i t (omega (arith, all, inside b i (and_left (ok b) (not (m b)) t)))

        pub best_all : (r : Option ℕ) (k : ℕ) → Best y r k → Label n (nearest S n tl hd ok m u) r
        best_all (Some a) k best =
            let q = best.found in
            is-label a q.0 (nearest_is S n tl hd ok m u a (record {
              is_arc = q.0;
              is_left = q.1;
              closest = λ b i t. omega (arith, q.2, few, q.0, i, least best b i t);
              lowest = λ b i t e. omega (arith, q.2, i, e, least best b (omega (arith, i, q.0)) t);
            }))
        best_all None k best = omega (arith, nearest_none S n tl hd ok m u (λ b i t. omega (arith, best.found, i, least best b i t, dist_top S n tl hd ok u (tl b))))
