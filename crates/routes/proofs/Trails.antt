-- Theorem D: the trail is a closed walk from the start, crosses the arcs in use and no other, and has at most K * (arcs in use) + (K - 1) hops, where K is the
-- number of switches of the part that it is in: each leg has at most K hops and crosses an arc that was uncrossed, and the way back has fewer than K.
-- Assumes that the arcs in use join switches of that part, and that each switch of it leads to each other over them.
use mathlib.Core.Path.{◌≡◌, refl, sym, subst}
use mathlib.Core.Logic.{◌⊎◌, inl, inr}
use mathlib.Core.Bool.{Bool, true, not}
use mathlib.Core.List.{List, ◌∷◌, ◌++◌}
use Prim.Native.Nat.{ℕ, zero, suc, ◌+◌, ◌-◌, ◌*◌, ◌≤◌, ◌<◌}
use native.Mathlib.Omega.{arith}
use native.Mathlib.Nat.{mul-le-mul_left}
use lib.Dec.{T}
use lib.ListN.{length, length-append}
use Rattle.lists.proofs.Tests.{eq?, and_left, and_both}
use Rattle.lists.specs.Members.{In}
use Rattle.lists.proofs.Members.{in?, in_append, in_append_left, in_append_right}
use Rattle.lists.specs.Count.{count}
use Rattle.lists.proofs.Count.{count_le, count-all}
use Rattle.walks.specs.Walk.{Walk}
use Rattle.walks.proofs.Walk.{walk-append}
use Rattle.routes.specs.Distance.{dist, route}
use Rattle.routes.specs.Trail.{unmarked, mark, marks, uncrossed, nearest, legs, trail}
use Rattle.routes.specs.Meaning.{InUse, Way, Strong}
use Rattle.routes.proofs.Distances.{route_way, route_length}
use Rattle.routes.proofs.Marks.{mark_other, marks_other, remaining, marks_less}
use Rattle.routes.proofs.Nearest.{Nearest, Finished, nearest?}
use Rattle.routes.proofs.Fewest.{dist-part}
use Rattle.routes.proofs.Legs.{one-leg, last-leg, none_left}

-- w is a closed walk from the start that crosses exactly the arcs in use, with at most so many hops
pub record Tour (n : ℕ) (tl hd : ℕ → ℕ) (ok : ℕ → Bool) (start most : ℕ) (w : List ℕ) : Type 0 where
  pub closed : Walk tl hd w start start
  pub in_use : (a : ℕ) → In a w → InUse n ok a
  pub crosses : (a : ℕ) → InUse n ok a → In a w
  pub short : length w ≤ most

module _ (S n : ℕ) (tl hd : ℕ → ℕ) (ok : ℕ → Bool) (start : ℕ) (part : ℕ → Bool) (st : Strong S n tl hd ok start part) where
  abbrev K : ℕ
  K = count S part

  abbrev way : ℕ → ℕ → List ℕ
  way u v = route S n tl hd ok u v

  pub dist_lt : (u v : ℕ) → T (part u) → T (part v) → dist S n tl hd ok u v < K
  dist_lt u v h i = dist-part S n tl hd ok part st.inside st.tails v i u h (st.joined u v h i)

  nearest_in : (m : ℕ → Bool) (u a : ℕ) → Nearest S n tl hd ok m u a → T (part (tl a)) × T (part (hd a))
  nearest_in m u a p = let t = and_left (ok a) (not (m a)) p.is_left in (st.tails a p.is_arc t, st.heads a p.is_arc t)

  -- w is a walk from u to the start over arcs in use that crosses all that are left, with at most so many hops
  record Finish (m : ℕ → Bool) (u : ℕ) (w : List ℕ) : Type 0 where
    pub is_walk : Walk tl hd w u start
    pub in_use : (a : ℕ) → In a w → InUse n ok a
    pub covers : (a : ℕ) → a < n → T (uncrossed ok m a) → In a w
    pub short : length w ≤ K * remaining ok n m + (K - 1)

  way_in : (u v : ℕ) → T (part u) → T (part v) → Way S n tl hd ok u v (way u v)
  way_in u v h i = route_way S n tl hd ok u v (omega (arith, dist_lt u v h i, count-all S part))

  way_short : (u v : ℕ) → T (part u) → T (part v) → length (way u v) < K
  way_short u v h i = omega (arith, dist_lt u v h i, route_length S n tl hd ok u v)

  last : (m : ℕ → Bool) (u : ℕ) → T (part u) → Finished S n tl hd ok m → Finish m u (way u start)
  last m u h g =
      let r = way_in u start h st.starts in
      record { is_walk = r.is_walk; in_use = r.in_use; covers = λ a i t. absurd (g a i t); short = omega (arith, way_short u start h st.starts) }

  leg : (m : ℕ → Bool) (u a : ℕ) (r : List ℕ) → T (part u) → Nearest S n tl hd ok m u a → Finish (mark a (marks (way u (tl a)) m)) (hd a) r
      → Finish m u (way u (tl a) ++ (a ∷ r))
  leg m u a r h p q = record {
    is_walk = walk-append tl hd w (a ∷ r) u (tl a) start to.is_walk (refl, q.is_walk);
    in_use = λ b i. used b (in_append b w (a ∷ r) i);
    covers = λ b i t. cover b i t (in? b w) (eq? b a);
    short = omega (arith, length-append w (a ∷ r), way_short u (tl a) h t_in, q.short, mul-le-mul_left K (marks_less ok n w m a p.is_arc p.is_left));
  }
    where
      w : List ℕ
      w = way u (tl a)

      t_in : T (part (tl a))
      t_in = (nearest_in m u a p).0

      to : Way S n tl hd ok u (tl a) w
      to = way_in u (tl a) h t_in

      used : (b : ℕ) → In b w ⊎ ((b ≡ a) ⊎ In b r) → InUse n ok b
      used b (inl i) = to.in_use b i
      used b (inr (inl e)) = subst (InUse n ok) (sym e) (p.is_arc, and_left (ok a) (not (m a)) p.is_left)
      used b (inr (inr i)) = q.in_use b i

      cover : (b : ℕ) → b < n → T (uncrossed ok m b) → In b w ⊎ (In b w → ⊥) → (b ≡ a) ⊎ (b ≡ a → ⊥) → In b (w ++ (a ∷ r))
      cover b i t (inl j) e = in_append_left b w (a ∷ r) j
      cover b i t (inr j) (inl e) = in_append_right b w (a ∷ r) (inl e)
      cover b i t (inr j) (inr e) = in_append_right b w (a ∷ r) (inr (q.covers b i (mark_other ok (marks w m) a b e (marks_other ok w m b j t))))

  -- with as many legs as there are arcs left, or more, the trail comes to its end
  finishes : (f : ℕ) (m : ℕ → Bool) (u : ℕ) → T (part u) → remaining ok n m ≤ f → Finish m u (legs S n tl hd ok start f m u)
  finishes zero m u h i = let g = none_left S n tl hd ok start m i in subst (Finish m u) (sym (last-leg S n tl hd ok start zero m u g)) (last m u h g)
  finishes (suc f) m u h i = go (nearest? S n tl hd ok m u) (finishes f)
    where
      a : ℕ
      a = nearest S n tl hd ok m u

      go : Nearest S n tl hd ok m u a ⊎ Finished S n tl hd ok m → ((m' : ℕ → Bool) (v : ℕ) → T (part v) → remaining ok n m' ≤ f → Finish m' v (legs S n tl hd ok start f m' v))
          → Finish m u (legs S n tl hd ok start (suc f) m u)
      go (inl p) rec =
          let m' = mark a (marks (way u (tl a)) m) in
          let r = rec m' (hd a) (nearest_in m u a p).1 (omega (arith, marks_less ok n (way u (tl a)) m a p.is_arc p.is_left)) in
          subst (Finish m u) (sym (one-leg S n tl hd ok start f m u a p)) (leg m u a _ h p r)
      go (inr g) rec = subst (Finish m u) (sym (last-leg S n tl hd ok start (suc f) m u g)) (last m u h g)

  pub trail_tour : Tour n tl hd ok start (K * count n ok + (K - 1)) (trail S n tl hd ok start)
  unfolding trail
  trail_tour =
      let few = count_le n (uncrossed ok unmarked) ok (λ a h t. and_left (ok a) true t) in
      let w = finishes (count n ok) unmarked start st.starts few in
      record {
        closed = w.is_walk;
        in_use = w.in_use;
        crosses = λ a h. w.covers a h.0 (and_both (ok a) true h.1 tt);
        short = omega (arith, w.short, mul-le-mul_left K few);
      }
