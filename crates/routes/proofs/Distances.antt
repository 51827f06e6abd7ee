-- Laws of distance, hop and route: 0 from a switch to itself alone, one hop lessens it by one at most, some hop lessens it by one, and no walk is shorter; a
-- route goes hop by hop, and its arcs leave switches that are nearer than its end.
-- Assumes nothing of the arcs.
use mathlib.Core.Path.{◌≡◌, refl, sym, ap, ◌∙◌, subst}
use mathlib.Core.Logic.{inl, inr, ⊎_elim}
use mathlib.Core.Bool.{Bool, ◌&&◌}
use mathlib.Core.List.{List, [], ◌∷◌}
use Prim.Native.Nat.{ℕ, zero, suc, ◌+◌, ◌≤◌, ◌<◌}
use native.Mathlib.Omega.{arith}
use lib.Dec.{T, eqb, eqb→eq, ltb, ltb→lt, lt→ltb}
use lib.ListN.{length}
use Rattle.lists.proofs.Tests.{eq→eqb, and_left, and_right, and_both}
use Rattle.lists.specs.Members.{In, memb}
use Rattle.lists.proofs.Members.{memb→in, in→memb}
use Rattle.lists.specs.Least.{least}
use Rattle.lists.proofs.Least.{least-top, least_passes, least_le, least-is, least-none}
use Rattle.walks.specs.Walk.{Walk}
use Rattle.routes.specs.Distance.{within, dist, lessens, hop, hops, route}
use Rattle.routes.specs.Meaning.{InUse, Way}
use Rattle.routes.proofs.Levels.{le?, within-hop, within_new}

module _ (S n : ℕ) (tl hd : ℕ → ℕ) (ok : ℕ → Bool) where
  -- a is a hop from u towards v: an arc in use that leaves u and lessens the distance left by one
  pub record Hop (u v a : ℕ) : Type 0 where
    pub is_arc : a < n
    pub in_use : T (ok a)
    pub leaves : tl a ≡ u
    pub nearer : suc (dist S n tl hd ok (hd a) v) ≡ dist S n tl hd ok u v

  abbrev level : ℕ → ℕ → List ℕ
  level k v = within S n tl hd ok k v

  -- the distance
  abbrev D : ℕ → ℕ → ℕ
  D u v = dist S n tl hd ok u v

  pub dist_top : (u v : ℕ) → D u v ≤ S
  unfolding dist
  dist_top u v = least-top S (λ k. memb u (level k v))

  dist_in : (u v : ℕ) → D u v < S → In u (level (D u v) v)
  unfolding dist
  dist_in u v h = memb→in u (level (D u v) v) (least_passes S (λ k. memb u (level k v)) h)

  pub dist_le : (k u v : ℕ) → In u (level k v) → D u v ≤ k
  unfolding dist
  dist_le k u v i = least_le S (λ j. memb u (level j v)) k (in→memb u (level k v) i)

  pub dist_self : (u : ℕ) → D u u ≡ 0
  unfolding within
  dist_self u = omega (arith, dist_le 0 u u (inl refl))

  -- one hop lessens the distance by one at most
  pub dist_hop : (a v : ℕ) → a < n → T (ok a) → D (tl a) v ≤ suc (D (hd a) v)
  dist_hop a v h t =
      ⊎_elim (λ l. omega (arith, l, dist_top (tl a) v))
      (λ l. dist_le (suc (D (hd a) v)) (tl a) v (within-hop S n tl hd ok (D (hd a) v) a v h t (dist_in (hd a) v l))) (le? S (D (hd a) v))

  pub dist_zero : (u v : ℕ) → 0 < S → D u v ≡ 0 → u ≡ v
  unfolding within
  dist_zero u v h e = ⊎_elim (λ q. q) (λ q. absurd q) (subst (λ (j : ℕ). In u (level j v)) e (dist_in u v (omega arith)))

  -- a distance that is not 0 has an arc that lessens it by one
  pub dist_down : (u v k : ℕ) → D u v ≡ suc k → suc k < S → (a : ℕ) × InUse n ok a × (tl a ≡ u) × (D (hd a) v ≡ k)
  dist_down u v k e h =
      ⊎_elim (λ i. absurd (omega (arith, dist_le k u v i)))
      (λ r.
      let t : D u v ≤ suc (D (hd r.0) v) = subst (λ (x : ℕ). D x v ≤ suc (D (hd r.0) v)) (sym r.4) (dist_hop r.0 v r.1 r.2) in
      (r.0, (r.1, r.2), sym r.4, omega (arith, dist_le k (hd r.0) v r.3, t)))
      (within_new S n tl hd ok k u v (subst (λ (j : ℕ). In u (level j v)) e (dist_in u v (omega arith))))

  -- by way of any switch there are not fewer hops
  pub dist_by : (u x v : ℕ) → D u v ≤ D u x + D x v
  dist_by u x v = ⊎_elim (λ l. omega (arith, l, dist_top u v)) (go (D u x) u refl) (le? S (D u x))
    where
      go : (k y : ℕ) → D y x ≡ k → D y x < S → D y v ≤ D y x + D x v
      go zero y e h = omega (arith, ap (λ (z : ℕ). D z v) (dist_zero y x (omega arith) e))
      go (suc k) y e h =
          let d = dist_down y x k e (omega arith) in
          omega (arith, e, ap (λ (z : ℕ). D z v) d.2, dist_hop d.0 v d.1.0 d.1.1, go k (hd d.0) d.3 (omega (arith, d.3)), d.3)

  -- no walk over arcs in use is shorter
  pub dist_least : (w : List ℕ) (u v : ℕ) → Walk tl hd w u v → ((a : ℕ) → In a w → InUse n ok a) → D u v ≤ length w
  dist_least [] u v e f = omega (arith, ap (λ (x : ℕ). D x v) e, dist_self v)
  dist_least (a ∷ w) u v p f =
      omega (
        arith,
        ap (λ (x : ℕ). D x v) p.0,
        dist_hop a v (f a (inl refl)).0 (f a (inl refl)).1,
        dist_least w (hd a) v p.1 (λ b i. f b (inr i)),
      )

  -- ---- a hop

  -- it leaves u for a switch that is nearer
  abbrev nears : ℕ → ℕ → ℕ → Bool
  nears u v a = eqb (tl a) u && ltb (D (hd a) v) (D u v)

  lessens_hop : (u v a : ℕ) → a < n → T (lessens S n tl hd ok u v a) → Hop u v a
  lessens_hop u v a h t =
      let live = and_left (ok a) (nears u v a) t in
      let rest = and_right (ok a) (nears u v a) t in
      let at : tl a ≡ u = eqb→eq (tl a) u (and_left (eqb (tl a) u) (ltb (D (hd a) v) (D u v)) rest) in
      let lt : D (hd a) v < D u v = ltb→lt (D (hd a) v) (D u v) (and_right (eqb (tl a) u) (ltb (D (hd a) v) (D u v)) rest) in
      record {
        is_arc = h;
        in_use = live;
        leaves = at;
        nearer = omega (arith, lt, ap (λ (x : ℕ). D x v) at, dist_hop a v h live);
      }

  hop_lessens : (u v a : ℕ) → T (ok a) → tl a ≡ u → D (hd a) v < D u v → T (lessens S n tl hd ok u v a)
  hop_lessens u v a t e h =
      and_both (ok a) (nears u v a) t (and_both (eqb (tl a) u) (ltb (D (hd a) v) (D u v)) (eq→eqb e) (lt→ltb (D (hd a) v) (D u v) h))

  -- of the arcs that lessen the distance none has a lower label than the hop
  pub hop_lowest : (u v b : ℕ) → T (ok b) → tl b ≡ u → D (hd b) v < D u v → hop S n tl hd ok u v ≤ b
  unfolding hop
  hop_lowest u v b t e h = least_le n (lessens S n tl hd ok u v) b (hop_lessens u v b t e h)

  -- where the distance is not 0, there is a hop, and it lessens the distance by one
  hop_law : (u v k : ℕ) → D u v ≡ suc k → suc k < S → Hop u v (hop S n tl hd ok u v)
  unfolding hop
  hop_law u v k e h =
      let p = lessens S n tl hd ok u v in
      let d = dist_down u v k e h in
      let lt : least n p < n = omega (arith, hop_lowest u v d.0 d.1.1 d.2 (omega (arith, d.3)), d.1.0) in
      lessens_hop u v (least n p) lt (least_passes n p lt)

  -- the lowest label that lessens the distance, and where none does
  pub hop_is : (u v a : ℕ) → a < n → T (ok a) → tl a ≡ u → D (hd a) v < D u v → ((b : ℕ) → b < a → Hop u v b → ⊥) → a ≡ hop S n tl hd ok u v
  unfolding hop
  hop_is u v a h t e l f = sym (least-is n (lessens S n tl hd ok u v) a h (hop_lessens u v a t e l) (λ b i z. f b i (lessens_hop u v b (omega arith) z)))

  pub hop_none : (u v : ℕ) → ((b : ℕ) → b < n → Hop u v b → ⊥) → hop S n tl hd ok u v ≡ n
  unfolding hop
  hop_none u v f = least-none n (lessens S n tl hd ok u v) (λ b h t. f b h (lessens_hop u v b h t))

  -- towards another switch that is reached there is a hop
  hop_on : (u v : ℕ) → D u v < S → (u ≡ v → ⊥) → Hop u v (hop S n tl hd ok u v)
  hop_on u v h f = go (D u v) refl
    where
      go : (k : ℕ) → D u v ≡ k → Hop u v (hop S n tl hd ok u v)
      go zero e = absurd (f (dist_zero u v (omega arith) e))
      go (suc k) e = hop_law u v k e (omega arith)

  -- ---- a route

  -- k hops are a walk to v where v is k hops away
  hops_way : (k u v : ℕ) → D u v ≡ k → k < S → Way S n tl hd ok u v (hops S n tl hd ok k u v)
  unfolding hops
  hops_way zero u v e h = record { is_walk = dist_zero u v h e; in_use = λ a i. absurd i }
  hops_way (suc k) u v e h =
      let l = hop_law u v k e h in
      let r = hops_way k (hd (hop S n tl hd ok u v)) v (omega (arith, l.nearer)) (omega arith) in
      record { is_walk = (l.leaves, r.is_walk); in_use = λ a i. ⊎_elim (λ q. subst (InUse n ok) (sym q) (l.is_arc, l.in_use)) (r.in_use a) i }

  hops_length : (k u v : ℕ) → length (hops S n tl hd ok k u v) ≡ k
  unfolding hops
  hops_length zero u v = refl
  hops_length (suc k) u v = ap suc (hops_length k (hd (hop S n tl hd ok u v)) v)

  -- the distance is attained: the route is a walk over arcs in use of that many hops
  pub route_way : (u v : ℕ) → D u v < S → Way S n tl hd ok u v (route S n tl hd ok u v)
  unfolding route
  route_way u v h = hops_way (D u v) u v refl h

  pub route_length : (u v : ℕ) → length (route S n tl hd ok u v) ≡ D u v
  unfolding route
  route_length u v = hops_length (D u v) u v

  -- where there is no walk, it is S
  pub dist_none : (u v : ℕ) → ((w : List ℕ) → Way S n tl hd ok u v w → ⊥) → D u v ≡ S
  dist_none u v f = ⊎_elim (λ l. omega (arith, l, dist_top u v)) (λ l. absurd (f (route S n tl hd ok u v) (route_way u v l))) (le? S (D u v))

  -- to another switch it begins with the hop
  pub route_hop : (u v a : ℕ) → D u v < S → (u ≡ v → ⊥) → a ≡ hop S n tl hd ok u v → Hop u v a × (route S n tl hd ok u v ≡ a ∷ route S n tl hd ok (hd a) v)
  unfolding route hops
  route_hop u v a h f e =
      let l = subst (Hop u v) (sym e) (hop_on u v h f) in
      (l, ap (λ (k : ℕ). hops S n tl hd ok k u v) (sym l.nearer) ∙ ap (λ (b : ℕ). b ∷ hops S n tl hd ok (D (hd a) v) (hd b) v) (sym e))

  -- to the switch itself there is none
  pub route_none : (u v : ℕ) → u ≡ v → route S n tl hd ok u v ≡ []
  unfolding route hops
  route_none u v e = ap (λ (k : ℕ). hops S n tl hd ok k u v) (ap (λ (x : ℕ). D x v) e ∙ dist_self v)

  hops_nearer : (k u v b : ℕ) → D u v ≡ k → k < S → In b (hops S n tl hd ok k u v) → D u (tl b) < k
  unfolding hops
  hops_nearer zero u v b e h i = absurd i
  hops_nearer (suc k) u v b e h i =
      let l = hop_law u v k e h in
      let a = hop S n tl hd ok u v in
      ⊎_elim (λ q. omega (arith, ap (D u) (ap tl q ∙ l.leaves), dist_self u))
      (λ j. omega (
        arith,
        hops_nearer k (hd a) v b (omega (arith, l.nearer)) (omega arith) j,
        ap (λ (x : ℕ). D x (tl b)) l.leaves,
        dist_hop a (tl b) l.is_arc l.in_use,
      )) i

  -- the arcs of a route leave switches that are nearer than where it goes
  pub route_nearer : (u v b : ℕ) → D u v < S → In b (route S n tl hd ok u v) → D u (tl b) < D u v
  unfolding route
  route_nearer u v b h i = hops_nearer (D u v) u v b refl h i
