-- Theorem D for every component of a sound plant, within the limits: the trail of each is a closed walk from its root that crosses exactly its arcs in use; together they
-- cross exactly the arcs in use of the plant and have at most `max_hops` hops; and where each stands among them. Assumes a sound plant, and of a root that it is a switch of it.
use mathlib.Core.Path.{◌≡◌, refl, ap, ◌∙◌, subst}
use mathlib.Core.Logic.{inl, inr, ⊎_elim, ◌↔◌}
use mathlib.Core.List.{List, [], ◌∷◌, map, flatten}
use Prim.Native.Nat.{ℕ, suc, ◌+◌, ◌*◌, ◌≤◌, ◌<◌}
use native.Mathlib.Omega.{arith}
use native.Mathlib.Nat.{mul-le-mul_right}
use lib.Dec.{T}
use lib.ListN.{length, get_or, take, drop}
use lib.Seq.{take-length}
use Rattle.lists.specs.Members.{In}
use Rattle.lists.proofs.Count.{count-all}
use Rattle.lists.proofs.SumOf.{sums_plus, sums_times, sums_lt}
use Rattle.lists.proofs.Chained.{in_chained, chained_in, chained-length, chained-begin, chained-within}
use Rattle.limits.specs.Limits.{max_hops}
use Rattle.limits.specs.Sound.{Sound}
use Rattle.plant.specs.declared.Plant.{Plant}
use Rattle.plant.specs.Links.{live}
use Rattle.walks.specs.Arcs.{tail, Valid}
use Rattle.walks.specs.Graph.{Crosses, ClosedWalk, ClosedWalks, reached_from, used_from, switches_from, arcs_used_from}
use Rattle.walks.specs.Components.{roots, component_of, used, arcs_used}
use Rattle.walks.proofs.Valid.{sound_valid}
use Rattle.walks.proofs.Orientation.{from_arc}
use Rattle.walks.proofs.Counting.{bridges-few}
use Rattle.walks.proofs.Components.{used-reached, used_in, used-from, used-root, one-used, listed_in, component-part, component-within, switches-sum, arcs-sum}
use Rattle.walks.proofs.Limits.{few_arcs, few_arcs_roots}
use Rattle.routes.specs.Plants.{trail_from}
use Rattle.routes.proofs.Plants.{used-below, trail_theorem}
use Rattle.plan.specs.Plan.{trails_of, trail_of, trail_with, trail_begin}
use Rattle.plan.specs.Trails.{IsTrail, AreTrails}

module _ (p : Plant) where
  -- ---- where the trail of each component begins

  pub begin_first : trail_begin p 0 ≡ 0
  unfolding trails_of flatten
  begin_first = refl

  pub begin_next : (i : ℕ) → i < length (roots p) → trail_begin p (suc i) ≡ trail_begin p i + length (trail_from p (get_or (roots p) i 0))
  unfolding trails_of
  begin_next i h = chained-begin (trail_from p) (roots p) i h

  pub begin-within : (i : ℕ) → i < length (roots p) → trail_begin p i + length (trail_from p (get_or (roots p) i 0)) ≤ length (trail_of p)
  unfolding trails_of
  begin-within i h = chained-within (trail_from p) (roots p) i h

  pub begin-last : trail_begin p (length (roots p)) ≡ length (trail_of p)
  begin-last = ap (λ (rs : List ℕ). length (trails_of p rs)) (take-length (roots p))

module _ (p : Plant) (ok : Sound p) where
  abbrev valid : Valid p
  valid = sound_valid p ok

  -- ---- the trail of a component

  -- from any root
  pub hops-from : (r : ℕ) → r < p.switches → length (trail_from p r) ≤ max_hops
  unfolding switches_from
  hops-from r r_in =
      let few : switches_from p r ≤ p.switches = count-all p.switches (reached_from p r) in
      omega (
        arith,
        (trail_theorem p valid r r_in).short,
        few_arcs p ok r r_in,
        ok.few_switches,
        mul-le-mul_right (arcs_used_from p r) few,
        mul-le-mul_right (arcs_used_from p r) ok.few_switches,
      )

  within : (r : ℕ) → In r (roots p) → r < p.switches
  within = listed_in p valid ok.start_in

  pub trail-from : (r : ℕ) → In r (roots p) → IsTrail p r (trail_from p r)
  trail-from r i = record { closed = (trail_theorem p valid r (within r i)).closed; exactly = λ a. (crossed a, crosses a) }
    where
      crossed : (a : ℕ) → In a (trail_from p r) → T (reached_from p r (tail p a)) × T (used p a)
      crossed a h =
          let t = ((trail_theorem p valid r (within r i)).in_use a h).1 in
          (used-reached p r a t, used-from p valid ok.start_in r a i t)

      crosses : (a : ℕ) → T (reached_from p r (tail p a)) × T (used p a) → In a (trail_from p r)
      crosses a q =
          let t : T (used_from p r a) = subst T (used_in p valid ok.start_in r a i q.0) q.1 in
          (trail_theorem p valid r (within r i)).crosses a (used-below p r a t, t)

  -- in document 01's sense of a closed walk
  pub trail-closed : (r : ℕ) → In r (roots p) → ClosedWalk p (trail_from p r)
  trail-closed r i = record {
    from = r;
    walk = (trail-from r i).closed;
    arcs_alone = λ a h. from_arc p r a ((trail_theorem p valid r (within r i)).in_use a h).1;
  }

  -- ---- the trails together

  -- they are closed walks, as theorem C speaks of
  pub trails-closed : ClosedWalks p (map (trail_from p) (roots p))
  trails-closed = go (roots p) (λ r i. i)
    where
      go : (rs : List ℕ) → ((r : ℕ) → In r rs → In r (roots p)) → ClosedWalks p (map (trail_from p) rs)
      go [] h = tt
      go (r ∷ rs) h = (trail-closed r (h r (inl refl)), go rs (λ s i. h s (inr i)))

  -- they cross the arcs in use and no other
  exactly : (a : ℕ) → In a (trail_of p) ↔ T (used p a)
  unfolding trails_of
  exactly a = (λ h. let q = chained_in (trail_from p) a (roots p) h in (((trail-from q.0 q.1).exactly a).0 q.2).1, from)
    where
      from : T (used p a) → In a (flatten (map (trail_from p) (roots p)))
      from t =
          let q = used-root p valid ok.start_in a t in
          in_chained (trail_from p) a q.0 (roots p) q.1 (((trail-from q.0 q.1).exactly a).1 (used-reached p q.0 a q.2, t))

  -- and so every link in service
  pub trails_cross : (l : ℕ) → T (live p l) → Crosses l (trail_of p)
  trails_cross l t = ⊎_elim (λ u. inl ((exactly (2 * l)).1 u)) (λ u. inr ((exactly (2 * l + 1)).1 u)) (one-used p valid ok.start_in l t)

  -- a trail has at most a hop for each of its arcs and each switch of the plant, and then fewer than its own switches
  hops_lt : (r : ℕ) → In r (roots p) → length (trail_from p r) < p.switches * arcs_used_from p r + switches_from p r
  unfolding switches_from
  hops_lt r i =
      let few : switches_from p r ≤ p.switches = count-all p.switches (reached_from p r) in
      omega (
        arith,
        (trail_theorem p valid r (within r i)).short,
        bridges-few p valid r (within r i),
        mul-le-mul_right (arcs_used_from p r) few,
      )

  -- over all components
  hops-sum : length (trail_of p) + length (roots p) ≤ p.switches * arcs_used p + p.switches
  unfolding trails_of
  hops-sum =
      omega (
        arith,
        chained-length (trail_from p) (roots p),
        sums_lt (λ r. length (trail_from p r)) (λ r. p.switches * arcs_used_from p r + switches_from p r) (roots p) hops_lt,
        sums_plus (λ r. p.switches * arcs_used_from p r) (switches_from p) (roots p),
        sums_times p.switches (arcs_used_from p) (roots p) ∙ ap (λ (n : ℕ). p.switches * n) (arcs-sum p valid ok.start_in),
        switches-sum p valid ok.start_in,
      )

  -- each component has a root, so the more there are the fewer the arcs in use
  pub hops-limit : length (trail_of p) ≤ max_hops
  unfolding roots
  hops-limit =
      omega (
        arith,
        hops-sum,
        few_arcs_roots p ok,
        ok.few_links,
        ok.few_switches,
        mul-le-mul_right (arcs_used p) ok.few_switches,
      )

  pub trails-are : AreTrails p
  trails-are = record { each = trail-from; exactly = exactly; short = hops-limit }

  -- ---- the trail of the component of a switch is a stretch of them

  module _ (x : ℕ) (h : x < p.switches) where
    pub stretch : take (length (trail_with p x)) (drop (trail_begin p (component_of p x)) (trail_of p)) ≡ trail_with p x
    unfolding trails_of
    stretch = component-part p valid ok.start_in (trail_from p) x h

    pub stretch_in : trail_begin p (component_of p x) + length (trail_with p x) ≤ length (trail_of p)
    unfolding trails_of
    stretch_in = component-within p valid ok.start_in (trail_from p) x h
