-- The laws of distance and trail for a plant: distances over its arcs in use from a root, and the trail of the part that is reached from it. Assumes that the plant is
-- valid, and of the trail that the root is a switch of it.
use mathlib.Core.Path.{◌≡◌, ◌∙◌}
use mathlib.Core.Logic.{inl, inr, ⊎_elim}
use mathlib.Core.List.{List}
use Prim.Native.Nat.{ℕ, ◌+◌, ◌-◌, ◌*◌, ◌<◌}
use lib.Dec.{T}
use Rattle.lists.specs.Members.{In, memb}
use Rattle.lists.proofs.Members.{memb→in, in→memb}
use Rattle.lists.specs.Count.{count}
use Rattle.lists.proofs.Count.{count_both}
use Rattle.plant.specs.declared.Plant.{Plant}
use Rattle.plant.specs.Links.{first, live}
use Rattle.walks.specs.Arcs.{tail, head, Valid}
use Rattle.walks.specs.Graph.{Crosses, ClosedWalk, visited_from, reached_from, used_from, links_from, bridges_from, switches_from, arcs_used_from}
use Rattle.walks.proofs.Walk.{weaken}
use Rattle.walks.proofs.Labels.{tail_in, arc_below}
use Rattle.walks.proofs.Visited.{visited_root, visited_keeps, visited_inside}
use Rattle.walks.proofs.Orientation.{used-is, from_arc, strong}
use Rattle.walks.proofs.Counting.{one_from, arcs-from}
use Rattle.routes.specs.Meaning.{Fewest, Strong}
use Rattle.routes.specs.Plants.{distance_from, trail_from, TrailByRule}
use Rattle.routes.proofs.Fewest.{dist-fewest}
use Rattle.routes.proofs.Trails.{Tour, trail_tour}
use Rattle.routes.proofs.Rule.{trail_by_rule, trail-only}

module _ (p : Plant) where
  abbrev S : ℕ
  S = p.switches

  abbrev n : ℕ
  n = 2 * p.count

  -- the arcs in use are labels of the plant
  pub used-below : (r a : ℕ) → T (used_from p r a) → a < 2 * p.count
  used-below r a t = arc_below p a (from_arc p r a t)

  -- the law of distance: a walk of so many hops over arcs in use exists and none shorter; the number of switches stands for no walk
  pub distance_fewest : Valid p → (r u v : ℕ) → u < p.switches → v < p.switches → Fewest S n (tail p) (head p) (used_from p r) u v (distance_from p r u v)
  distance_fewest ok r u v h i = dist-fewest S n (tail p) (head p) (used_from p r) (λ a j t. tail_in p ok a (from_arc p r a t)) u v h i

  -- ---- the trail

  module _ (ok : Valid p) (r : ℕ) (r_in : r < p.switches) where
    abbrev found : List ℕ
    found = (visited_from p r).ord

    -- the arcs in use lead from each switch that is reached to each: theorem A
    pub part-strong : Strong S n (tail p) (head p) (used_from p r) r (reached_from p r)
    part-strong = record {
      inside = λ x t. visited_inside p ok r r_in x (memb→in x found t);
      tails = λ a i t. in→memb (tail p a) found ((used-is p r a).0 t).0;
      heads = λ a i t. in→memb (head p a) found (visited_keeps p ok r r_in a (from_arc p r a t) ((used-is p r a).0 t).0);
      starts = in→memb r found (visited_root p ok r r_in);
      joined = λ x y i k. weaken (λ a t. (used-below r a t, t)) (strong p r ok r_in x y (memb→in x found i) (memb→in y found k));
    }

    -- theorem D: the trail is a closed walk from the root, crosses exactly the arcs in use, and has at most so many hops
    pub trail_theorem : Tour n (tail p) (head p) (used_from p r) r (switches_from p r * arcs_used_from p r + (switches_from p r - 1)) (trail_from p r)
    unfolding switches_from arcs_used_from
    trail_theorem = trail_tour S n (tail p) (head p) (used_from p r) r (reached_from p r) part-strong

    -- it is by document 01's rule, and no other list is
    pub by_rule : TrailByRule p r (trail_from p r)
    by_rule = trail_by_rule S n (tail p) (head p) (used_from p r) r (reached_from p r) part-strong

    pub only_by_rule : (w : List ℕ) → TrailByRule p r w → w ≡ trail_from p r
    only_by_rule w h = trail-only S n (tail p) (head p) (used_from p r) r (reached_from p r) part-strong w h

    -- so the bound of theorem C is met: a closed walk crosses each link that is reached, over as many arcs as there are such links and bridges
    pub attained : ClosedWalk p (trail_from p r) × ((l : ℕ) → T (reached_from p r (first p l)) → T (live p l) → Crosses l (trail_from p r))
        × (count (2 * p.count) (λ a. memb a (trail_from p r)) ≡ links_from p r + bridges_from p r)
    unfolding arcs_used_from
    attained = (record { from = r; walk = trail_theorem.closed; arcs_alone = λ a h. from_arc p r a (trail_theorem.in_use a h).1 }, crosses, number)
      where
        on : (a : ℕ) → T (used_from p r a) → In a (trail_from p r)
        on a t = trail_theorem.crosses a (used-below r a t, t)

        crosses : (l : ℕ) → T (reached_from p r (first p l)) → T (live p l) → Crosses l (trail_from p r)
        crosses l h t = ⊎_elim (λ u. inl (on (2 * l) u)) (λ u. inr (on (2 * l + 1) u)) (one_from p ok r r_in l h t)

        number : count (2 * p.count) (λ a. memb a (trail_from p r)) ≡ links_from p r + bridges_from p r
        number =
            count_both (2 * p.count) (λ a. memb a (trail_from p r)) (used_from p r)
            (λ a h. (λ t. (trail_theorem.in_use a (memb→in a (trail_from p r) t)).1, λ t. in→memb a (trail_from p r) (on a t)))
            ∙ arcs-from p ok r r_in
