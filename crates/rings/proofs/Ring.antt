-- The place is the first hop that leaves the switch; the ring has the labels of the trail, and is a closed walk from the switch if the trail is a closed walk that
-- leaves it. Assumes nothing.
use mathlib.Core.Path.{◌≡◌, refl, sym, ap, ◌∙◌, subst}
use mathlib.Core.Logic.{◌↔◌}
use mathlib.Core.List.{List, [], ◌∷◌, ◌++◌}
use Prim.Native.Nat.{ℕ, ◌≤◌, ◌<◌}
use native.Mathlib.Omega.{arith}
use lib.Dec.{eqb, eqb→eq}
use lib.ListN.{length, get_or, take, drop, take-append-drop}
use lib.Seq.{drop-cons}
use Rattle.lists.proofs.Tests.{eq→eqb}
use Rattle.lists.specs.Members.{In}
use Rattle.lists.proofs.Members.{in_get_d}
use Rattle.lists.specs.Least.{least_from, least}
use Rattle.lists.proofs.Least.{least-top, least_passes, least_first, least_le, least-is, least-none}
use Rattle.walks.specs.Walk.{Walk}
use Rattle.walks.proofs.Walk.{walk-append}
use Rattle.rings.specs.Ring.{FirstHop, read_from, place, ring}
use Rattle.lists.proofs.Parts.{in_swap}

-- ---- the place

module _ (tl : ℕ → ℕ) (s : ℕ) (w : List ℕ) where
  pub place-most : place tl s w ≤ length w
  unfolding place
  place-most = least-top (length w) (λ i. eqb (tl (get_or w i 0)) s)

  -- where some hop leaves s, the place is the first such hop
  pub place-first : (a : ℕ) → In a w → tl a ≡ s → FirstHop tl s w (place tl s w)
  unfolding place
  place-first a h e = record {
    inside = inside;
    leaves = eqb→eq (tl (get_or w (place tl s w) 0)) s (least_passes (length w) (λ i. eqb (tl (get_or w i 0)) s) inside);
    before = λ i j q. least_first (length w) (λ k. eqb (tl (get_or w k 0)) s) i j (eq→eqb q);
  }
    where
      inside : least (length w) (λ i. eqb (tl (get_or w i 0)) s) < length w
      inside =
          let r = in_get_d w a h in
          omega (arith, r.1, least_le (length w) (λ i. eqb (tl (get_or w i 0)) s) r.0 (eq→eqb (ap tl r.2 ∙ e)))

  -- and no other number is
  pub place_is : (k : ℕ) → FirstHop tl s w k → place tl s w ≡ k
  unfolding place
  place_is k h =
      least-is (length w) (λ i. eqb (tl (get_or w i 0)) s) k h.inside (eq→eqb h.leaves) (λ i j t. h.before i j (eqb→eq (tl (get_or w i 0)) s t))

  -- where none does, it is past the last
  pub place_none : ((i : ℕ) → i < length w → tl (get_or w i 0) ≡ s → ⊥) → place tl s w ≡ length w
  unfolding place
  place_none f = least-none (length w) (λ i. eqb (tl (get_or w i 0)) s) (λ i h t. f i h (eqb→eq (tl (get_or w i 0)) s t))

-- ---- an empty trail

pub place_empty : (tl : ℕ → ℕ) (s : ℕ) → place tl s [] ≡ 0
unfolding place least_from
place_empty tl s = refl

pub ring-empty : (tl : ℕ → ℕ) (s : ℕ) → ring tl s [] ≡ []
unfolding ring read_from place least_from
ring-empty tl s = refl

-- ---- the ring

-- a trail read from a place has the labels of the trail
pub read-labels : (k : ℕ) (w : List ℕ) (a : ℕ) → In a (read_from k w) ↔ In a w
unfolding read_from
read-labels k w a = (
  λ h. subst (λ (l : List ℕ). In a l) (take-append-drop k w) (in_swap a (drop k w) (take k w) h),
  λ h. in_swap a (take k w) (drop k w) (subst (λ (l : List ℕ). In a l) (sym (take-append-drop k w)) h),
)

module _ (tl hd : ℕ → ℕ) where
  -- a walk cut in two
  pub walk_split : (x y : List ℕ) (u v : ℕ) → Walk tl hd (x ++ y) u v → (z : ℕ) × Walk tl hd x u z × Walk tl hd y z v
  walk_split [] y u v q = (u, refl, q)
  walk_split (a ∷ x) y u v q = let r = walk_split x y (hd a) v q.1 in (r.0, (q.0, r.1), r.2)

  module _ (s t : ℕ) (w : List ℕ) (k : ℕ) (closed : Walk tl hd w t t) (hop : FirstHop tl s w k) where
    -- the stretch from hop k to the trail's end, and the front
    pub stretches : Walk tl hd (drop k w) s t × Walk tl hd (take k w) t s
    stretches = go (walk_split (take k w) (drop k w) t t (subst (λ (l : List ℕ). Walk tl hd l t t) (sym (take-append-drop k w)) closed))
      where
        go : (z : ℕ) × Walk tl hd (take k w) t z × Walk tl hd (drop k w) z t → Walk tl hd (drop k w) s t × Walk tl hd (take k w) t s
        go r =
            let q = subst (λ (l : List ℕ). Walk tl hd l r.0 t) (drop-cons w k 0 hop.inside) r.2 in
            let e : r.0 ≡ s = sym q.0 ∙ hop.leaves in
            (subst (λ (z : ℕ). Walk tl hd (drop k w) z t) e r.2, subst (λ (z : ℕ). Walk tl hd (take k w) t z) e r.1)

    -- a closed trail read from a hop that leaves s is a closed walk from s
    pub read_walk : Walk tl hd (read_from k w) s s
    unfolding read_from
    read_walk = walk-append tl hd (drop k w) (take k w) s t s stretches.0 stretches.1
