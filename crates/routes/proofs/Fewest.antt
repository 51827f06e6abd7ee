-- The distance is the fewest hops. A switch that leads to v over arcs in use does so in fewer hops than its part of the plant has switches: each level set
-- gains a switch until none leads into it. Assumes that v and the tails of the arcs in use are in that part.
use mathlib.Core.Path.{refl, sym, subst}
use mathlib.Core.Logic.{◌⊎◌, inl, inr, ⊎_elim}
use mathlib.Core.Bool.{Bool, false, not, ◌&&◌}
use mathlib.Core.List.{List, [], ◌∷◌}
use Prim.Native.Nat.{ℕ, zero, suc, ◌-◌, ◌≤◌, ◌<◌}
use native.Mathlib.Omega.{arith}
use lib.Dec.{T, T_not, not_T, ltb, ltb→lt, lt→ltb}
use Rattle.lists.proofs.Tests.{and_left, and_right, and_both}
use Rattle.lists.specs.Members.{In, memb}
use Rattle.lists.proofs.Members.{memb→in, in→memb, in?}
use Rattle.lists.specs.Count.{count}
use Rattle.lists.proofs.Count.{count_lt, count-all}
use Rattle.lists.proofs.Least.{some?}
use Rattle.walks.specs.Walk.{Reach, here, step}
use Rattle.walks.proofs.Walk.{walk→reach}
use Rattle.routes.specs.Distance.{within, dist, route}
use Rattle.routes.specs.Meaning.{InUse, Reached, Fewest}
use Rattle.routes.proofs.Levels.{within_old, within-hop, within_new, within_self}
use Rattle.routes.proofs.Distances.{dist_le, dist_least, dist_none, route_way, route_length}
use Rattle.lists.proofs.Agree.{count_full}

module _ (S n : ℕ) (tl hd : ℕ → ℕ) (ok : ℕ → Bool) (part : ℕ → Bool) (part_in : (x : ℕ) → T (part x) → x < S) (tl_in : (a : ℕ) → a < n → T (ok a) → T (part (tl a))) (v : ℕ) (v_in : T (part v)) where
  -- no arc in use arrives in l from outside
  abbrev Closed : List ℕ → Type 0
  Closed l = (a : ℕ) → a < n → T (ok a) → In (hd a) l → In (tl a) l

  abbrev level : ℕ → List ℕ
  level k = within S n tl hd ok k v

  -- how many switches the level set holds
  abbrev size : ℕ → ℕ
  size k = count S (λ x. memb x (level k))

  -- an arc in use arrives in l from outside
  abbrev Entered : List ℕ → Type 0
  Entered l = (a : ℕ) × (a < n) × T (ok a) × In (hd a) l × (In (tl a) l → ⊥)

  closed? : (l : List ℕ) → Entered l ⊎ Closed l
  closed? l =
      ⊎_elim
      (λ r.
      let a = r.0 in
      let rest = and_right (ok a) (memb (hd a) l && not (memb (tl a) l)) r.2 in
      inl (a, r.1, and_left (ok a) (memb (hd a) l && not (memb (tl a) l)) r.2, memb→in (hd a) l (and_left (memb (hd a) l) (not (memb (tl a) l)) rest), λ i. T_not (memb (tl a) l) (and_right (memb (hd a) l) (not (memb (tl a) l)) rest) (in→memb (tl a) l i)))
      (λ f. inr (λ a h t i. ⊎_elim (λ j. j)
      (λ j. absurd (f a h (and_both (ok a) (memb (hd a) l && not (memb (tl a) l)) t
      (and_both (memb (hd a) l) (not (memb (tl a) l)) (in→memb (hd a) l i) (not_T (memb (tl a) l) (λ u. j (memb→in (tl a) l u)))))))
      (in? (tl a) l)))
      (some? n (λ a. ok a && (memb (hd a) l && not (memb (tl a) l))))

  closed-next : (k : ℕ) → Closed (level k) → Closed (level (suc k))
  closed-next k c a h t i =
      within_old S n tl hd ok k (tl a) v (c a h t (⊎_elim (λ j. j) (λ r. subst (λ (x : ℕ). In x (level k)) (sym r.4) (c r.0 r.1 r.2 r.3)) (within_new S n tl hd ok k (hd a) v i)))

  -- each level set has one more switch than the last, until it is closed
  levels : (k : ℕ) → (suc k ≤ size k) ⊎ Closed (level k)
  unfolding within
  levels zero = inl (omega (arith, count_lt S (λ x. memb x (v ∷ [])) (λ x. false) v (part_in v v_in) (in→memb v (v ∷ []) (inl refl)) (λ t. t) (λ x h t. absurd t)))
  levels (suc k) = go (levels k) (closed? (level k))
    where
      go : (suc k ≤ size k) ⊎ Closed (level k) → Entered (level k) ⊎ Closed (level k) → (suc (suc k) ≤ size (suc k)) ⊎ Closed (level (suc k))
      go (inr c) d = inr (closed-next k c)
      go (inl h) (inr c) = inr (closed-next k c)
      go (inl h) (inl r) =
          let a = r.0 in
          inl (omega (
            arith,
            h,
            count_lt S (λ x. memb x (level (suc k))) (λ x. memb x (level k)) (tl a) (part_in (tl a) (tl_in a r.1 r.2)) (in→memb (tl a) (level (suc k)) (within-hop S n tl hd ok k a v r.1 r.2 r.3))
                (λ t. r.4 (memb→in (tl a) (level k) t))
                (λ x i t. in→memb x (level (suc k)) (within_old S n tl hd ok k x v (memb→in x (level k) t))),
          ))

  -- a closed list that holds v holds every switch that leads to v
  leads : (l : List ℕ) → Closed l → In v l → (u : ℕ) → Reach tl hd (InUse n ok) v u → In u l
  leads l c i u (here e) = subst (λ (x : ℕ). In x l) (sym e) i
  leads l c i u (step a h e r) = subst (λ (x : ℕ). In x l) e (c a h.0 h.1 (leads l c i (hd a) r))

  level_part : (k x : ℕ) → In x (level k) → T (part x)
  unfolding within
  level_part zero x (inl e) = subst (λ (y : ℕ). T (part y)) (sym e) v_in
  level_part zero x (inr z) = absurd z
  level_part (suc k) x i = ⊎_elim (level_part k x) (λ r. subst (λ (y : ℕ). T (part y)) (sym r.4) (tl_in r.0 r.1 r.2)) (within_new S n tl hd ok k x v i)

  -- every switch of the part from which v is reached is fewer hops away than the part has switches
  pub dist-part : (u : ℕ) → T (part u) → Reached S n tl hd ok u v → dist S n tl hd ok u v < count S part
  dist-part u h r =
      let k = count S part - 1 in
      let some_in : 1 ≤ count S part = omega (arith, count_lt S part (λ x. false) v (part_in v v_in) v_in (λ t. t) (λ x i t. absurd t)) in
      omega (
        arith,
        some_in,
        dist_le S n tl hd ok k u v (⊎_elim
            (λ g. memb→in u (level k) (count_full S part (λ x. memb x (level k)) (λ x i t. level_part k x (memb→in x (level k) t)) (omega (arith, g, some_in)) u (part_in u h) h))
            (λ c. leads (level k) c (within_self S n tl hd ok k v) u r) (levels k)),
      )

-- where there is a walk, the distance is below S
dist-below : (S n : ℕ) (tl hd : ℕ → ℕ) (ok : ℕ → Bool) → ((a : ℕ) → a < n → T (ok a) → tl a < S) → (u v : ℕ) → u < S → v < S → Reached S n tl hd ok u v
    → dist S n tl hd ok u v < S
dist-below S n tl hd ok tl_in u v h i r =
    omega (
      arith,
      count-all S (λ x. ltb x S),
      dist-part S n tl hd ok (λ x. ltb x S) (λ x t. ltb→lt x S t) (λ a j t. lt→ltb (tl a) S (tl_in a j t)) v (lt→ltb v S i) u (lt→ltb u S h) r,
    )

-- the law of distance: a walk of so many hops exists and none shorter; S stands for no walk
pub dist-fewest : (S n : ℕ) (tl hd : ℕ → ℕ) (ok : ℕ → Bool) → ((a : ℕ) → a < n → T (ok a) → tl a < S) → (u v : ℕ) → u < S → v < S
    → Fewest S n tl hd ok u v (dist S n tl hd ok u v)
dist-fewest S n tl hd ok tl_in u v h i = record {
  attained = λ l. (route S n tl hd ok u v, route_way S n tl hd ok u v l, route_length S n tl hd ok u v);
  shortest = λ w p. dist_least S n tl hd ok w u v p.is_walk p.in_use;
  below = dist-below S n tl hd ok tl_in u v h i;
  none = λ f. dist_none S n tl hd ok u v (λ w p. f (walk→reach w u v p.is_walk p.in_use));
}
