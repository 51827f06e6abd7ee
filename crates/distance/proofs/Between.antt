-- Hops between the distance and the number of switches: they lessen by way of each switch in turn until they are the distance.
-- Assumes that the arcs in use join switches, and that there is a place for each switch.
use mathlib.Core.Path.{◌≡◌, refl, sym, ap, ◌∙◌, subst}
use mathlib.Core.Logic.{◌⊎◌, inl, inr, ⊎_elim}
use mathlib.Core.Bool.{Bool, true, false}
use mathlib.Core.List.{List, []}
use Prim.Native.Nat.{ℕ, zero, suc, ◌+◌, ◌≤◌, ◌<◌}
use Rattle.std.specs.Prelude.{min}
use native.Mathlib.Omega.{arith}
use lib.Dec.{T}
use lib.ListN.{length, get_or, set, replicate, length-set, length-replicate}
use lib.Seq.{get_or-set_same}
use Rattle.lists.specs.Arrays.{flag, at}
use Rattle.lists.proofs.Arrays.{set_keeps}
use Rattle.lists.proofs.Tests.{below?, eq?, false_T, not_both}
use Rattle.lists.proofs.Stepwise.{upto}
use Rattle.limits.specs.Limits.{max_switches}
use Rattle.routes.specs.Distance.{dist}
use Rattle.routes.proofs.Distances.{dist_top, dist_self, dist_zero, dist_hop, dist_down, dist_by}
use Rattle.arcs.specs.Table.{cell, grid}
use Rattle.arcs.proofs.Tables.{holds_grid, flat_holds, set_cases, put, put_cases, put_shape}
use Rattle.distance.specs.Ways.{Near, Left, Zeroed, Through}

-- ---- switches that arcs leave

module _ (tl : ℕ → ℕ) (ok : ℕ → Bool) where
  pub left-none : Left tl ok 0 (replicate max_switches false)
  left-none = record { places = length-replicate max_switches false; told = λ b h. absurd (omega arith) }

  module _ (a : ℕ) (flags : List Bool) (p : Left tl ok a flags) where
    pub left_pass : ok a ≡ false → Left tl ok (a + 1) flags
    left_pass e = record { places = p.places; told = upto {P = λ b. T (ok b) → flag flags (tl b) ≡ true} p.told (λ u. absurd (false_T (ok a) e u)) }

    pub left_put : tl a < max_switches → Left tl ok (a + 1) (set flags (tl a) true)
    left_put i =
        let room : tl a < length flags = omega (arith, p.places) in
        record {
          places = length-set flags (tl a) true ∙ p.places;
          told = upto {P = λ b. T (ok b) → flag (set flags (tl a) true) (tl b) ≡ true} (λ b h l. set_keeps flags (tl a) (tl b) room (p.told b h l))
              (λ _. get_or-set_same flags (tl a) true false room);
        }

-- ---- hops

module _ (S n : ℕ) (tl hd : ℕ → ℕ) (ok : ℕ → Bool) where
  abbrev D : ℕ → ℕ → ℕ
  D u v = dist S n tl hd ok u v

  -- ---- arcs

  pub near_none : Near S n tl hd ok 0 (replicate max_switches (replicate max_switches S))
  near_none =
      let p = flat_holds S in
      record {
        shape = p.shape;
        above = λ u v h i. omega (arith, p.cells u v h i, dist_top S n tl hd ok u v);
        top = λ u v h i. omega (arith, p.cells u v h i);
        arcs = λ b h. absurd (omega arith);
      }

  module _ (a : ℕ) (t : List (List ℕ)) (p : Near S n tl hd ok a t) where
    pub near_pass : ok a ≡ false → Near S n tl hd ok (a + 1) t
    near_pass e = record {
      shape = p.shape;
      above = p.above;
      top = p.top;
      arcs = upto {P = λ b. T (ok b) → cell t (tl b) (hd b) ≤ 1} p.arcs (λ u. absurd (false_T (ok a) e u));
    }

    pub near_put : 0 < S → a < n → T (ok a) → tl a < max_switches → hd a < max_switches → Near S n tl hd ok (a + 1) (put t (tl a) (hd a) 1)
    near_put some a_in live i j =
        let after = put_cases t p.shape (tl a) (hd a) 1 i j in
        record {
          shape = put_shape t p.shape (tl a) (hd a) 1 i j;
          above = after (λ u v z. u < max_switches → v < max_switches → D u v ≤ z)
              (λ _ _. omega (arith, dist_hop S n tl hd ok a (hd a) a_in live, dist_self S n tl hd ok (hd a))) (λ u v _. p.above u v);
          top = after (λ u v z. u < max_switches → v < max_switches → z ≤ S) (λ _ _. omega arith) (λ u v _. p.top u v);
          arcs = λ b h l. after (λ u v z. (((u ≡ tl a) → (v ≡ hd a) → ⊥) → cell t u v ≤ 1) → z ≤ 1) (λ _. omega arith) (λ u v ne f. f ne) (tl b) (hd b)
              (λ away. let ne : (b ≡ a → ⊥) = λ e. away (ap tl e) (ap hd e) in p.arcs b (omega (arith, ne)) l);
        }

  -- ---- ways

  -- the switches below k have been tried as a way
  pub record Between (k : ℕ) (t : List (List ℕ)) : Type 0 where
    pub near : Near S n tl hd ok n t
    pub self : (u : ℕ) → u < max_switches → cell t u u ≡ 0
    pub ways : (x : ℕ) → x < k → (u v : ℕ) → u < S → v < max_switches → cell t u v ≤ cell t u x + cell t x v

  module _ (few : S ≤ max_switches) (tl_in : (a : ℕ) → a < n → T (ok a) → tl a < S) (hd_in : (a : ℕ) → a < n → T (ok a) → hd a < S) where
    pub between_none : (t r : List (List ℕ)) → Near S n tl hd ok n t → Zeroed t max_switches r → Between 0 r
    between_none t r p q = record {
      near = record {
        shape = record { long = q.long ∙ p.shape.long; wide = λ u h. ap length (q.done u h) ∙ length-set (get_or t u []) u 0 ∙ p.shape.wide u h };
        above = λ u v h. after (λ w z. w < max_switches → D u w ≤ z) u h (λ _. omega (arith, dist_self S n tl hd ok u)) (λ w _. p.above u w h) v;
        top = λ u v h. after (λ w z. w < max_switches → z ≤ S) u h (λ _. omega arith) (λ w _. p.top u w h) v;
        arcs = λ b h l. after (λ w z. cell t (tl b) w ≤ 1 → z ≤ 1) (tl b) (omega (arith, few, tl_in b h l)) (λ _. omega arith) (λ w _ f. f) (hd b) (p.arcs b h l);
      };
      self = λ u h. after (λ w z. w ≡ u → z ≡ 0) u h (λ _. refl) (λ w ne e. absurd (ne e)) u refl;
      ways = λ x h. absurd (omega arith);
    }
      where
        after : (Q : ℕ → ℕ → Type 0) (u : ℕ) → u < max_switches → Q u 0 → ((v : ℕ) → (v ≡ u → ⊥) → Q v (cell t u v)) → (v : ℕ) → Q v (cell r u v)
        after Q u h new old v = subst (λ (s : List ℕ). Q v (at s v)) (sym (q.done u h)) (set_cases (get_or t u []) u 0 0 (omega (arith, p.shape.wide u h)) Q new old v)

    module _ (k : ℕ) (t : List (List ℕ)) (p : Between k t) where
      pub between_by : k < S → (r : List (List ℕ)) → Through k t S r → Between (k + 1) r
      between_by k_in r q = record {
        near = record {
          shape = record {
            long = q.long ∙ p.near.shape.long;
            wide = λ u h. ⊎_elim (λ l. (q.done u l).long) (λ l. ap length (q.left u l)) (below? u S) ∙ p.near.shape.wide u h;
          };
          above = λ u v h i. ⊎_elim (λ l. omega (arith, is u v l i, dist_by S n tl hd ok u k v, p.near.above u v h i, p.near.above u k h k_at, p.near.above k v k_at i))
              (λ l. omega (arith, rest u v l, p.near.above u v h i)) (below? u S);
          top = λ u v h i. omega (arith, low u v i, p.near.top u v h i);
          arcs = λ b h l. omega (arith, low (tl b) (hd b) (omega (arith, few, hd_in b h l)), p.near.arcs b h l);
        };
        self = λ u h. omega (arith, low u u h, p.self u h);
        ways = upto {P = λ x. (u v : ℕ) → u < S → v < max_switches → cell r u v ≤ cell r u x + cell r x v}
            (λ x h u v i j.
            let x_in : x < S = omega arith in
            omega (arith, is u v i j, is u x i (omega (arith, few)), is x v x_in j, p.ways x h u v i j, p.ways x h u k i k_at, p.ways x h k v k_in j))
            (λ u v i j. omega (arith, is u v i j, is u k i k_at, is k v k_in j, p.self k k_at));
      }
        where
          k_at : k < max_switches
          k_at = omega (arith, few, k_in)

          is : (u v : ℕ) → u < S → v < max_switches → cell r u v ≡ min (cell t u v) (cell t u k + cell t k v)
          is u v h i = (q.done u h).done v i

          rest : (u v : ℕ) → S ≤ u → cell r u v ≡ cell t u v
          rest u v l = ap (λ (s : List ℕ). at s v) (q.left u l)

          low : (u v : ℕ) → v < max_switches → cell r u v ≤ cell t u v
          low u v i = ⊎_elim (λ l. omega (arith, is u v l i)) (λ l. omega (arith, rest u v l)) (below? u S)

      -- a switch that no arc leaves need not be tried: it is no way to another
      pub between_pass : k < S → (flags : List Bool) → Left tl ok n flags → flag flags k ≡ false → Between (k + 1) t
      between_pass k_in flags left none = record {
        near = p.near;
        self = p.self;
        ways = upto {P = λ x. (u v : ℕ) → u < S → v < max_switches → cell t u v ≤ cell t u x + cell t x v} p.ways
            (λ u v i j. ⊎_elim (λ e. omega (arith, ap (cell t u) e))
            (λ ne. omega (arith, p.near.top u v (omega (arith, few)) j, p.near.above k v k_at j, away v ne (D k v) refl (below? (D k v) S))) (eq? v k));
      }
        where
          k_at : k < max_switches
          k_at = omega (arith, few, k_in)

          stays : (a : ℕ) → a < n → T (ok a) → tl a ≡ k → ⊥
          stays a h l e = not_both (flag flags k) (subst (λ (x : ℕ). flag flags x ≡ true) e (left.told a h l)) none

          away : (v : ℕ) → (v ≡ k → ⊥) → (d : ℕ) → D k v ≡ d → (D k v < S) ⊎ (S ≤ D k v) → S ≤ D k v
          away v ne d e (inr l) = l
          away v ne zero e (inl l) = absurd (ne (sym (dist_zero S n tl hd ok k v (omega arith) e)))
          away v ne (suc m) e (inl l) =
              let d = dist_down S n tl hd ok k v m e (omega arith) in
              absurd (stays d.0 d.1.0 d.1.1 d.2)

      -- with every switch tried, no hops are more than the distance
      reached : k ≡ S → (j u v : ℕ) → D u v ≡ j → D u v < S → u < max_switches → v < max_switches → cell t u v ≤ D u v
      reached all zero u v e h i j = omega (arith, ap (cell t u) (dist_zero S n tl hd ok u v (omega arith) e), p.self u i)
      reached all (suc m) u v e h i j =
          let d = dist_down S n tl hd ok u v m e (omega arith) in
          let y = hd_in d.0 d.1.0 d.1.1 in
          omega (
            arith,
            ap (λ (x : ℕ). cell t x v) d.2,
            p.near.arcs d.0 d.1.0 d.1.1,
            p.ways (hd d.0) (omega (arith, all, y)) (tl d.0) v (tl_in d.0 d.1.0 d.1.1) j,
            reached all m (hd d.0) v d.3 (omega (arith, d.3)) (omega (arith, few, y)) j,
            d.3,
          )

      pub between_all : k ≡ S → t ≡ grid D
      between_all all = holds_grid D t (record {
        shape = p.near.shape;
        cells = λ u v h i.
            let most : cell t u v ≤ D u v = ⊎_elim (λ l. reached all (D u v) u v refl l h i) (λ l. omega (arith, l, p.near.top u v h i)) (below? (D u v) S) in
            omega (arith, most, p.near.above u v h i);
      })
