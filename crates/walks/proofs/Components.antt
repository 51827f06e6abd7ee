-- The components of a plant (document 02, order 9): to be joined goes both ways and on; every component has one root, the roots are listed once each, and they are as order 9
-- says; theorem B over the whole plant, and that the components together have its switches, its links, its bridges and its arcs in use. At the end, the same for a plant
-- whose switches are all reached from the start. Assumes a valid plant whose start is a switch of it; `used_arc` and `used-reached` assume nothing.
use mathlib.Core.Path.{◌≡◌, refl, sym, ap, ◌∙◌, subst}
use mathlib.Core.Logic.{◌⊎◌, inl, inr, ⊎_elim, ◌↔◌}
use mathlib.Core.Bool.{Bool, true, not, ◌&&◌}
use mathlib.Core.List.{List, [], ◌∷◌, map}
use Prim.Native.Nat.{ℕ, zero, suc, ◌+◌, ◌*◌, ◌/◌, ◌≤◌, ◌<◌}
use native.Mathlib.Omega.{arith}
use borrow.Author.Tests.{ne_eqb}
use lib.Dec.{T, T_not, not_T, eqb, eqb→eq}
use lib.ListN.{length, get_or, take, drop}
use Rattle.lists.specs.Members.{In, memb, Distinct}
use Rattle.lists.specs.Count.{bit, count}
use Rattle.lists.specs.Least.{least}
use Rattle.lists.specs.Numbers.{range, keep}
use Rattle.lists.specs.Sum.{sum_of}
use Rattle.lists.proofs.Tests.{T-or, T-same, eq?, below?, eq→eqb, choose_true, choose_false, and_left, and_right, and_both}
use Rattle.lists.proofs.Members.{memb→in, in→memb, get_d_in, in_get_d, distinct_at}
use Rattle.lists.proofs.Count.{bit_true, bit_false, bit-one, count-all, count_none, count_both, count-every, counts_le, distinct_count, pairs}
use Rattle.lists.proofs.Least.{least-top, least_passes, least_first, least_le, least-none}
use Rattle.lists.proofs.Numbers.{range_in, in_range, keep_in, in_keep, keep-none, range_distinct, keep_distinct}
use Rattle.lists.proofs.Chained.{chained, chained-within, chained-part}
use Rattle.lists.proofs.SumOf.{sums_lt, parts-count}
use Rattle.plant.specs.declared.Plant.{Plant}
use Rattle.plant.specs.Links.{first, second, live}
use Rattle.walks.specs.Visit.{St, scan, visit}
use Rattle.walks.specs.Arcs.{opposite, tail, head, Arc, Valid}
use Rattle.walks.specs.Graph.{AllFrom, arcs, visit_from, visited_from, reached_from, used_from, bridge, bridge_from, live_links, bridges, switches_from, links_from, bridges_from, arcs_used_from}
use Rattle.walks.specs.Components.{root_of, begun_at, roots, component_of, link_with, links_with, used, arcs_used}
use Rattle.walks.proofs.Walk.{trans, one}
use Rattle.walks.proofs.Labels.{even_half, odd_half, opposite_half, of_link, tail_even, tail_odd, head_even, tail_in, ends, even_arc, opposite_arc, arcs-are}
use Rattle.walks.proofs.Visited.{visited_root, visited_inside, visited_finds}
use Rattle.walks.proofs.Tests.{walk-back, bridge-live}
use Rattle.walks.proofs.Orientation.{used-is, from_arc}
use Rattle.walks.proofs.Counting.{used_pair, bridges-few, links-all}

-- where no arc leaves v, the visit from v finds nothing more
module _ (tl hd : ℕ → ℕ) where
  scan-none : (en : ℕ → St → St) (v : ℕ) (bs : List ℕ) → ((a : ℕ) → In a bs → tl a ≡ v → ⊥) → (s : St) → scan tl hd en v bs s ≡ s
  unfolding scan
  scan-none en v [] n s = refl
  scan-none en v (a ∷ bs) n s = rw (ne_eqb (tl a) v (n a (inl refl))) (scan-none en v bs (λ b i. n b (inr i)) s)

  visit-none : (bs : List ℕ) (v : ℕ) → ((a : ℕ) → In a bs → tl a ≡ v → ⊥) → (f : ℕ) (s : St) → visit tl hd bs f v s ≡ s
  unfolding visit
  visit-none bs v n zero s = refl
  visit-none bs v n (suc f) s = scan-none (λ w t. visit tl hd bs f w t) v bs n s

module _ (p : Plant) where
  pub used_arc : (a : ℕ) → T (used p a) → Arc p a
  unfolding used
  used_arc a t = from_arc p (root_of p (tail p a)) a t

  -- an arc in use from a root leaves a switch that is reached from it
  pub used-reached : (r a : ℕ) → T (used_from p r a) → T (reached_from p r (tail p a))
  used-reached r a t = in→memb (tail p a) (visited_from p r).ord ((used-is p r a).0 t).0

module _ (p : Plant) (ok : Valid p) (start_in : p.start < p.switches) where
  abbrev S : ℕ
  S = p.switches

  -- ---- what is joined

  pub joined_in : (x y : ℕ) → x < S → T (reached_from p x y) → y < S
  joined_in x y h t = visited_inside p ok x h y (memb→in y (visited_from p x).ord t)

  pub joined_self : (x : ℕ) → x < S → T (reached_from p x x)
  joined_self x h = in→memb x (visited_from p x).ord (visited_root p ok x h)

  pub joined_back : (x y : ℕ) → x < S → T (reached_from p x y) → T (reached_from p y x)
  joined_back x y h t = (visited_finds p ok y (joined_in x y h t) x).1 (walk-back p (opposite_arc p) ((visited_finds p ok x h y).0 t))

  pub joined_on : (x y z : ℕ) → x < S → T (reached_from p x y) → T (reached_from p y z) → T (reached_from p x z)
  joined_on x y z h s t = (visited_finds p ok x h z).1 (trans ((visited_finds p ok x h y).0 s) ((visited_finds p ok y (joined_in x y h s) z).0 t))

  -- ---- the root of a component

  -- of the start's component it is the start
  root-first : (x : ℕ) → T (reached_from p p.start x) → root_of p x ≡ p.start
  unfolding root_of
  root-first x t = choose_true (reached_from p p.start x) p.start (least x (λ y. reached_from p y x)) t

  -- of every other the lowest switch
  root-rest : (x : ℕ) → (T (reached_from p p.start x) → ⊥) → root_of p x ≡ least x (λ y. reached_from p y x)
  unfolding root_of
  root-rest x n = choose_false (reached_from p p.start x) p.start (least x (λ y. reached_from p y x)) n

  pub root_in : (x : ℕ) → x < S → root_of p x < S
  root_in x h =
      ⊎_elim (λ t. omega (arith, root-first x t, start_in)) (λ n. omega (arith, root-rest x n, least-top x (λ y. reached_from p y x))) (T-or (reached_from p p.start x))

  -- the lowest switch that reaches x: x itself, if none below does
  lowest : (x : ℕ) → x < S → T (reached_from p (least x (λ y. reached_from p y x)) x)
  lowest x h =
      ⊎_elim (λ l. least_passes x (λ y. reached_from p y x) l)
      (λ l.
      let e : x ≡ least x (λ y. reached_from p y x) = omega (arith, least-top x (λ y. reached_from p y x)) in
      subst (λ (k : ℕ). T (reached_from p k x)) e (joined_self x h)) (below? (least x (λ y. reached_from p y x)) x)

  pub root_reaches : (x : ℕ) → x < S → T (reached_from p (root_of p x) x)
  root_reaches x h =
      ⊎_elim (λ t. subst (λ (k : ℕ). T (reached_from p k x)) (sym (root-first x t)) t) (λ n. subst (λ (k : ℕ). T (reached_from p k x)) (sym (root-rest x n)) (lowest x h))
      (T-or (reached_from p p.start x))

  pub root-start : root_of p p.start ≡ p.start
  root-start = root-first p.start (joined_self p.start start_in)

  -- no switch that reaches y is below the lowest that does
  lowest_le : (x y : ℕ) → x < S → T (reached_from p x y) → least y (λ k. reached_from p k y) ≤ least x (λ k. reached_from p k x)
  lowest_le x y h t =
      let low : least x (λ k. reached_from p k x) < S = omega (arith, least-top x (λ k. reached_from p k x)) in
      least_le y (λ k. reached_from p k y) (least x (λ k. reached_from p k x)) (joined_on (least x (λ k. reached_from p k x)) x y low (lowest x h) t)

  -- switches that are joined have the same root
  pub root-same : (x y : ℕ) → x < S → T (reached_from p x y) → root_of p x ≡ root_of p y
  root-same x y h t = go (T-or (reached_from p p.start x))
    where
      back : T (reached_from p y x)
      back = joined_back x y h t

      go : T (reached_from p p.start x) ⊎ (T (reached_from p p.start x) → ⊥) → root_of p x ≡ root_of p y
      go (inl s) = root-first x s ∙ sym (root-first y (joined_on p.start x y start_in s t))
      go (inr n) =
          omega (
            arith,
            root-rest x n,
            root-rest y (λ s. n (joined_on p.start y x start_in s back)),
            lowest_le x y h t,
            lowest_le y x (joined_in x y h t) back,
          )

  pub root-own : (x : ℕ) → x < S → root_of p (root_of p x) ≡ root_of p x
  root-own x h = root-same (root_of p x) x (root_in x h) (root_reaches x h)

  -- a root reaches the switches that have it as root
  pub reached-root : (r x : ℕ) → r < S → root_of p r ≡ r → T (reached_from p r x) ↔ ((x < S) × (root_of p x ≡ r))
  reached-root r x h e = (
    λ t. (joined_in r x h t, sym (root-same r x h t) ∙ e),
    λ q. subst (λ (k : ℕ). T (reached_from p k x)) q.1 (root_reaches x q.0),
  )

  -- ---- the list of roots

  begun-root : (x : ℕ) → T (begun_at p x) ↔ ((x ≡ p.start → ⊥) × (root_of p x ≡ x))
  unfolding begun_at
  begun-root x = (
    λ t. (
      λ e. T_not (eqb x p.start) (and_left (not (eqb x p.start)) (eqb (root_of p x) x) t) (eq→eqb e),
      eqb→eq (root_of p x) x (and_right (not (eqb x p.start)) (eqb (root_of p x) x) t),
    ),
    λ q. and_both (not (eqb x p.start)) (eqb (root_of p x) x) (not_T (eqb x p.start) (λ t. q.0 (eqb→eq x p.start t))) (eq→eqb q.1),
  )

  pub in_roots : (r : ℕ) → In r (roots p) ↔ ((r < S) × (root_of p r ≡ r))
  unfolding roots
  in_roots r = (from, λ q. to q (eq? r p.start))
    where
      from : (r ≡ p.start) ⊎ In r (keep (begun_at p) (range 0 S)) → (r < S) × (root_of p r ≡ r)
      from (inl e) = (omega (arith, start_in), ap (root_of p) e ∙ root-start ∙ sym e)
      from (inr i) =
          let k = keep_in (begun_at p) r (range 0 S) i in
          (omega (arith, range_in r 0 S k.0), ((begun-root r).0 k.1).1)

      to : (r < S) × (root_of p r ≡ r) → (r ≡ p.start) ⊎ (r ≡ p.start → ⊥) → (r ≡ p.start) ⊎ In r (keep (begun_at p) (range 0 S))
      to q (inl e) = inl e
      to q (inr n) = inr (in_keep (begun_at p) r (range 0 S) (in_range r 0 S (omega arith) (omega (arith, q.0))) ((begun-root r).1 (n, q.1)))

  pub listed_in : (r : ℕ) → In r (roots p) → r < S
  listed_in r i = ((in_roots r).0 i).0

  pub root-listed : (x : ℕ) → x < S → In (root_of p x) (roots p)
  root-listed x h = (in_roots (root_of p x)).1 (root_in x h, root-own x h)

  pub start-listed : In p.start (roots p)
  start-listed = (in_roots p.start).1 (start_in, root-start)

  -- each root once
  pub roots_distinct : Distinct (roots p)
  unfolding roots
  roots_distinct = (λ i. ((begun-root p.start).0 (keep_in (begun_at p) p.start (range 0 S) i).1).0 refl, keep_distinct (begun_at p) (range 0 S) (range_distinct 0 S))

  pub roots_few : length (roots p) ≤ S
  roots_few = omega (arith, distinct_count S (roots p) roots_distinct listed_in, count-all S (λ k. memb k (roots p)))

  -- order 9: a component that is not the start's is begun at its lowest switch
  pub begun-is : (x : ℕ) → x < S → T (begun_at p x) ↔ ((T (reached_from p p.start x) → ⊥) × ((y : ℕ) → y < x → T (reached_from p y x) → ⊥))
  begun-is x h = (λ t. (away t, λ y l u. least_first x (λ k. reached_from p k x) y (omega (arith, root-rest x (away t), ((begun-root x).0 t).1)) u), from)
    where
      away : T (begun_at p x) → T (reached_from p p.start x) → ⊥
      away t s = ((begun-root x).0 t).0 (sym ((begun-root x).0 t).1 ∙ root-first x s)

      from : (T (reached_from p p.start x) → ⊥) × ((y : ℕ) → y < x → T (reached_from p y x) → ⊥) → T (begun_at p x)
      from q =
          (begun-root x).1
          (λ e. q.0 (subst (λ (k : ℕ). T (reached_from p k x)) e (joined_self x h)), root-rest x q.0 ∙ least-none x (λ k. reached_from p k x) q.1)

  -- so it is where no component begun before has the switch
  pub begun-new : (x : ℕ) → x < S → T (begun_at p x) ↔ ((T (reached_from p p.start x) → ⊥) × ((y : ℕ) → y < x → T (begun_at p y) → T (reached_from p y x) → ⊥))
  begun-new x h = (λ t. let q = (begun-is x h).0 t in (q.0, λ y l u. q.1 y l), from)
    where
      from : (T (reached_from p p.start x) → ⊥) × ((y : ℕ) → y < x → T (begun_at p y) → T (reached_from p y x) → ⊥) → T (begun_at p x)
      from q = (begun-root x).1 (λ e. other (ap (root_of p) e ∙ root-start), go (eq? (root_of p x) x))
        where
          other : root_of p x ≡ p.start → ⊥
          other e = q.0 (subst (λ (k : ℕ). T (reached_from p k x)) e (root_reaches x h))

          go : (root_of p x ≡ x) ⊎ (root_of p x ≡ x → ⊥) → root_of p x ≡ x
          go (inl e) = e
          go (inr n) =
              absurd (q.1 (root_of p x) (omega (arith, n, root-rest x q.0, least-top x (λ k. reached_from p k x))) ((begun-root (root_of p x)).1 (other, root-own x h))
              (root_reaches x h))

  -- ---- components by number

  pub component_in : (x : ℕ) → x < S → component_of p x < length (roots p)
  unfolding component_of
  component_in x h =
      let i = in_get_d (roots p) (root_of p x) (root-listed x h) in
      omega (arith, i.1, least_le (length (roots p)) (λ k. eqb (get_or (roots p) k 0) (root_of p x)) i.0 (eq→eqb i.2))

  pub component-root : (x : ℕ) → x < S → get_or (roots p) (component_of p x) 0 ≡ root_of p x
  unfolding component_of
  component-root x h =
      eqb→eq (get_or (roots p) (component_of p x) 0) (root_of p x) (least_passes (length (roots p)) (λ k. eqb (get_or (roots p) k 0) (root_of p x)) (component_in x h))

  -- the root with number i reaches the switches of component i
  pub component-is : (i x : ℕ) → i < length (roots p) → x < S → T (reached_from p (get_or (roots p) i 0) x) ↔ (component_of p x ≡ i)
  component-is i x h k = (
    λ t. distinct_at (roots p) roots_distinct (component_of p x) i (component_in x k) h
        (component-root x k ∙ ((reached-root (get_or (roots p) i 0) x root.0 root.1).0 t).1),
    λ e. subst (λ (r : ℕ). T (reached_from p r x)) (sym (component-root x k) ∙ ap (λ (j : ℕ). get_or (roots p) j 0) e) (root_reaches x k),
  )
    where
      root : (get_or (roots p) i 0 < S) × (root_of p (get_or (roots p) i 0) ≡ get_or (roots p) i 0)
      root = (in_roots (get_or (roots p) i 0)).0 (get_d_in (roots p) i h)

  -- of the lists that a function has at the roots, one after another, that of the component of x
  pub component-part : (f : ℕ → List ℕ) (x : ℕ) → x < S
      → take (length (f (root_of p x))) (drop (length (chained f (take (component_of p x) (roots p)))) (chained f (roots p))) ≡ f (root_of p x)
  component-part f x h = rw (component-root x h) at (chained-part f (roots p) (component_of p x) (component_in x h))

  pub component-within : (f : ℕ → List ℕ) (x : ℕ) → x < S → length (chained f (take (component_of p x) (roots p))) + length (f (root_of p x)) ≤ length (chained f (roots p))
  component-within f x h = rw (component-root x h) at (chained-within f (roots p) (component_of p x) (component_in x h))

  -- ---- the arcs in use

  -- the root of what a listed root reaches
  pub reaches_root : (r x : ℕ) → In r (roots p) → T (reached_from p r x) → root_of p x ≡ r
  reaches_root r x i t = let q = (in_roots r).0 i in ((reached-root r x q.0 q.1).0 t).1

  pub used_in : (r a : ℕ) → In r (roots p) → T (reached_from p r (tail p a)) → used p a ≡ used_from p r a
  unfolding used
  used_in r a i t = ap (λ (k : ℕ). used_from p k a) (reaches_root r (tail p a) i t)

  used-own : (r a : ℕ) → root_of p (tail p a) ≡ r → T (used p a) → T (used_from p r a)
  unfolding used
  used-own r a e t = subst (λ (k : ℕ). T (used_from p k a)) e t

  pub used-from : (r a : ℕ) → In r (roots p) → T (used_from p r a) → T (used p a)
  used-from r a i t = subst T (sym (used_in r a i (used-reached p r a t))) t

  -- the arcs in use from a listed root are those of its component
  pub used_of : (r a : ℕ) → In r (roots p) → T (used_from p r a) ↔ (T (used p a) × (root_of p (tail p a) ≡ r))
  used_of r a i = (λ t. (used-from r a i t, reaches_root r (tail p a) i (used-reached p r a t)), λ q. used-own r a q.1 q.0)

  pub used-root : (a : ℕ) → T (used p a) → (r : ℕ) × In r (roots p) × T (used_from p r a)
  unfolding used
  used-root a t = (root_of p (tail p a), root-listed (tail p a) (tail_in p ok a (used_arc p a t)), t)

  -- the ends of a link have the same root
  pub link-roots : (l : ℕ) → T (live p l) → root_of p (first p l) ≡ root_of p (second p l)
  link-roots l t =
      root-same (first p l) (second p l) (ok.first_in_is l t)
      ((visited_finds p ok (first p l) (ok.first_in_is l t) (second p l)).1 (one (2 * l) (even_arc p l t) (tail_even p l) (head_even p l)))

  -- both arcs of a bridge are in use, and just one of every other link
  link-used : (l : ℕ) → T (live p l) → bit (used p (2 * l)) + bit (used p (2 * l + 1)) ≡ suc (bit (bridge p l))
  unfolding used
  link-used l t =
      rw (tail_even p l, tail_odd p l, sym (link-roots l t))
      (used_pair p ok (root_of p (first p l)) (root_in (first p l) (ok.first_in_is l t)) l (root_reaches (first p l) (ok.first_in_is l t)) t)

  -- an arc of each link is in use
  pub one-used : (l : ℕ) → T (live p l) → T (used p (2 * l)) ⊎ T (used p (2 * l + 1))
  one-used l t = bit-one (used p (2 * l)) (used p (2 * l + 1)) (omega (arith, link-used l t))

  -- each arc is in use, or the opposite one is
  pub arc_used : (a : ℕ) → Arc p a ↔ (T (used p a) ⊎ T (used p (opposite a)))
  arc_used a = (λ h. to (one-used (a / 2) h), from)
    where
      to : T (used p (2 * (a / 2))) ⊎ T (used p (2 * (a / 2) + 1)) → T (used p a) ⊎ T (used p (opposite a))
      to (inl t) = of_link (λ b. T (used p b)) (2 * (a / 2)) a (even_half (a / 2)) t
      to (inr t) = of_link (λ b. T (used p b)) (2 * (a / 2) + 1) a (odd_half (a / 2)) t

      from : T (used p a) ⊎ T (used p (opposite a)) → Arc p a
      from (inl t) = used_arc p a t
      from (inr t) = rw opposite_half at (used_arc p (opposite a) t)

  -- ---- theorem B

  pair : (l : ℕ) → bit (used p (2 * l)) + bit (used p (2 * l + 1)) ≡ bit (live p l) + bit (bridge p l)
  pair l =
      ⊎_elim (λ t. omega (arith, link-used l t, bit_true (live p l) t))
      (λ n. omega (
        arith,
        bit_false (used p (2 * l)) (λ t. n (rw (even_half l) at (used_arc p (2 * l) t))),
        bit_false (used p (2 * l + 1)) (λ t. n (rw (odd_half l) at (used_arc p (2 * l + 1) t))),
        bit_false (live p l) n,
        bit_false (bridge p l) (λ t. n (bridge-live p l t)),
      ))
      (T-or (live p l))

  -- theorem B: the arcs in use are as many as the links and the bridges
  pub arcs-in_use : arcs_used p ≡ live_links p + bridges p
  unfolding arcs_used live_links bridges
  arcs-in_use =
      omega (
        arith,
        pairs p.count (used p),
        counts_le p.count (λ l. used p (2 * l)) (λ l. used p (2 * l + 1)) (live p) (bridge p) (λ l h. omega (arith, pair l)),
        counts_le p.count (live p) (bridge p) (λ l. used p (2 * l)) (λ l. used p (2 * l + 1)) (λ l h. omega (arith, pair l)),
      )

  -- ---- the components together

  -- what is counted at a switch that the root reaches belongs to that root
  at_root : (r x : ℕ) (whole : Bool) → In r (roots p) → (T whole → x < S) → T (reached_from p r x && whole) ↔ (T whole × (root_of p x ≡ r))
  at_root r x whole i within = (
    λ t. (and_right (reached_from p r x) whole t, reaches_root r x i (and_left (reached_from p r x) whole t)),
    λ q. and_both (reached_from p r x) whole (let k = (in_roots r).0 i in (reached-root r x k.0 k.1).1 (within q.0, q.1)) q.0,
  )

  pub links-sum : sum_of (map (links_from p) (roots p)) ≡ live_links p
  unfolding links_from live_links
  links-sum =
      parts-count (live p) (λ r l. reached_from p r (first p l) && live p l) (λ l. root_of p (first p l)) (roots p) roots_distinct p.count
      (λ l h t. root-listed (first p l) (ok.first_in_is l t)) (λ r l i h. at_root r (first p l) (live p l) i (ok.first_in_is l))

  pub bridges-sum : sum_of (map (bridges_from p) (roots p)) ≡ bridges p
  unfolding bridges_from bridges
  bridges-sum =
      parts-count (bridge p) (bridge_from p) (λ l. root_of p (first p l)) (roots p) roots_distinct p.count
      (λ l h t. root-listed (first p l) (ok.first_in_is l (bridge-live p l t))) (λ r l i h. at_root r (first p l) (bridge p l) i (λ t. ok.first_in_is l (bridge-live p l t)))

  pub switches-sum : sum_of (map (switches_from p) (roots p)) ≡ S
  unfolding switches_from
  switches-sum =
      parts-count (λ x. true) (reached_from p) (root_of p) (roots p) roots_distinct S (λ x h t. root-listed x h)
      (λ r x i h. (λ t. (tt, reaches_root r x i t), λ q. let k = (in_roots r).0 i in (reached-root r x k.0 k.1).1 (h, q.1)))
      ∙ count-every S (λ x. true) (λ x h. tt)

  pub arcs-sum : sum_of (map (arcs_used_from p) (roots p)) ≡ arcs_used p
  unfolding arcs_used_from arcs_used
  arcs-sum =
      parts-count (used p) (used_from p) (λ a. root_of p (tail p a)) (roots p) roots_distinct (2 * p.count)
      (λ a h t. root-listed (tail p a) (tail_in p ok a (used_arc p a t))) (λ r a i h. used_of r a i)

  -- each component has fewer bridges than switches
  pub few_roots_bridges : bridges p + length (roots p) ≤ S
  few_roots_bridges =
      omega (arith, bridges-sum, switches-sum, sums_lt (bridges_from p) (switches_from p) (roots p) (λ r i. bridges-few p ok r (listed_in r i)))

  -- ---- the links of the component of a switch

  pub link_with_lem : (x l : ℕ) → x < S → T (link_with p x l) ↔ (T (live p l) × T (reached_from p (root_of p x) (first p l)))
  link_with_lem x l h = (
    λ t. let a = and_left (live p l) (eqb (root_of p (first p l)) (root_of p x)) t in
        (a, (reached-root (root_of p x) (first p l) (root_in x h) (root-own x h)).1 (ok.first_in_is l a, eqb→eq (root_of p (first p l)) (root_of p x) (and_right (live p l) (eqb (root_of p (first p l)) (root_of p x)) t))),
    λ q. and_both (live p l) (eqb (root_of p (first p l)) (root_of p x)) q.0 (eq→eqb ((reached-root (root_of p x) (first p l) (root_in x h) (root-own x h)).0 q.1).1),
  )

  -- the ends of an arc are of the component of its link
  tail-root : (a : ℕ) → Arc p a → root_of p (tail p a) ≡ root_of p (first p (a / 2))
  tail-root a h = ⊎_elim (λ e. ap (root_of p) e.0) (λ e. ap (root_of p) e.0 ∙ sym (link-roots (a / 2) h)) (ends p a)

  -- the arcs of the links of the component of x are those that leave a switch of it
  pub arc_with : (x a : ℕ) → x < S → (T (reached_from p (root_of p x) (tail p a)) × Arc p a) ↔ T (link_with p x (a / 2))
  arc_with x a h = (
    λ q. and_both (live p (a / 2)) (eqb (root_of p (first p (a / 2))) (root_of p x)) q.1 (eq→eqb (sym (tail-root a q.1) ∙ reaches_root (root_of p x) (tail p a) (root-listed x h) q.0)),
    λ t. let alive = and_left (live p (a / 2)) (eqb (root_of p (first p (a / 2))) (root_of p x)) t in
        let same = eqb→eq (root_of p (first p (a / 2))) (root_of p x) (and_right (live p (a / 2)) (eqb (root_of p (first p (a / 2))) (root_of p x)) t) in
        ((reached-root (root_of p x) (tail p a) (root_in x h) (root-own x h)).1 (tail_in p ok a alive, tail-root a alive ∙ same), alive),
  )

  pub links_with_lem : (x : ℕ) → x < S → links_with p x ≡ count p.count (link_with p x)
  unfolding links_with links_from
  links_with_lem x h =
      count_both p.count (λ l. reached_from p (root_of p x) (first p l) && live p l) (link_with p x)
      (λ l i. (
        λ t. (link_with_lem x l h).1 (and_right (reached_from p (root_of p x) (first p l)) (live p l) t, and_left (reached_from p (root_of p x) (first p l)) (live p l) t),
        λ t. let q = (link_with_lem x l h).0 t in and_both (reached_from p (root_of p x) (first p l)) (live p l) q.1 q.0,
      ))

  -- ---- a number that is no switch has no links

  alone : (r : ℕ) → S ≤ r → (visited_from p r).ord ≡ r ∷ []
  unfolding visit_from
  alone r h = ap (λ (s : St). s.ord) (visit-none (tail p) (head p) (arcs p) r (λ a i e. omega (arith, e, tail_in p ok a ((arcs-are p a).0 i))) p.switches (record { ord = r ∷ []; ent = [] }))

  none_from : (r : ℕ) → S ≤ r → links_from p r ≡ 0
  unfolding links_from
  none_from r h = count_none p.count (λ l. reached_from p r (first p l) && live p l) (λ l i t.
      let f = memb→in (first p l) (visited_from p r).ord (and_left (reached_from p r (first p l)) (live p l) t) in
      ⊎_elim (λ e. omega (arith, e, ok.first_in_is l (and_right (reached_from p r (first p l)) (live p l) t))) (λ z. z) (subst (λ (xs : List ℕ). In (first p l) xs) (alone r h) f))

  lowest-none : (x : ℕ) → S ≤ x → S ≤ least x (λ y. reached_from p y x)
  lowest-none x h = go (below? (least x (λ y. reached_from p y x)) x) (below? (least x (λ y. reached_from p y x)) S)
    where
      go : (least x (λ y. reached_from p y x) < x) ⊎ (x ≤ least x (λ y. reached_from p y x)) → (least x (λ y. reached_from p y x) < S) ⊎ (S ≤ least x (λ y. reached_from p y x))
          → S ≤ least x (λ y. reached_from p y x)
      go (inl l) (inl i) = absurd (omega (arith, joined_in (least x (λ y. reached_from p y x)) x i (least_passes x (λ y. reached_from p y x) l)))
      go (inr l) (inl i) = omega arith
      go l (inr i) = i

  pub links-none : (x : ℕ) → S ≤ x → links_with p x ≡ 0
  unfolding links_with
  links-none x h = none_from (root_of p x) (omega (arith, root-rest x (λ t. omega (arith, joined_in p.start x start_in t)), lowest-none x h))

  -- ---- where every switch is reached from the start

  module _ (all : AllFrom p p.start) where
    pub root-one : (x : ℕ) → x < S → root_of p x ≡ p.start
    root-one x h = root-first x ((visited_finds p ok p.start start_in x).1 (all x h))

    pub roots-one : roots p ≡ p.start ∷ []
    unfolding roots
    roots-one = ap (λ (l : List ℕ). p.start ∷ l) (keep-none (begun_at p) (range 0 S) (λ x i t. none x (omega (arith, range_in x 0 S i)) t))
      where
        none : (x : ℕ) → x < S → T (begun_at p x) → ⊥
        none x h t = ((begun-root x).0 t).0 (sym ((begun-root x).0 t).1 ∙ root-one x h)

    pub used-one : (a : ℕ) → used p a ≡ used_from p p.start a
    used-one a =
        T-same (used p a) (used_from p p.start a) (λ t. used-own p.start a (root-one (tail p a) (tail_in p ok a (used_arc p a t))) t) (used-from p.start a start-listed)

    pub links-one : (x : ℕ) → x < S → links_with p x ≡ live_links p
    unfolding links_with
    links-one x h = ap (links_from p) (root-one x h) ∙ links-all p ok p.start start_in all

    pub component-one : (x : ℕ) → x < S → component_of p x ≡ 0
    component-one x h = omega (arith, component_in x h, ap length roots-one)
