-- The round trail from a root: it leads back to the root, has each arc that is reached once and no other hop, so two hops to a link, and follows `next`. Of each link that is
-- reached one arc leads; by it the link is first crossed. Assumes a valid plant and a root that is a switch of it.
use mathlib.Core.Path.{◌≡◌, refl, sym, ap, subst}
use mathlib.Core.Logic.{◌⊎◌, inl, inr, ⊎_elim, ◌↔◌}
use mathlib.Core.Bool.{Bool, ◌&&◌}
use mathlib.Core.List.{List, [], ◌∷◌, ◌++◌}
use Prim.Native.Nat.{ℕ, ◌+◌, ◌*◌, ◌/◌, ◌<◌, ◌≤◌}
use native.Mathlib.Omega.{arith}
use lib.Dec.{T, lt→ltb}
use lib.ListN.{length}
use Rattle.lists.proofs.Tests.{and_left, and_right, and_both}
use Rattle.lists.specs.Members.{In, memb, Distinct}
use Rattle.lists.proofs.Members.{memb→in, in→memb}
use Rattle.lists.specs.Count.{count}
use Rattle.lists.proofs.Count.{count_both, pairs, distinct_count}
use Rattle.plant.specs.declared.Plant.{Plant}
use Rattle.plant.specs.Links.{first, live}
use Rattle.walks.specs.Walk.{Walk}
use Rattle.walks.specs.Visit.{St, rank}
use Rattle.walks.specs.Arcs.{opposite, tail, head, Arc, Valid}
use Rattle.walks.specs.Graph.{arcs, visited_from, reached_from, entered_from, earlier_from, links_from}
use Rattle.walks.specs.Inner.{leading_from, next_at, Turns}
use Rattle.walks.specs.Round.{Tour, tour, round_from}
use Rattle.walks.proofs.Visit.{ext_refl}
use Rattle.walks.proofs.Labels.{even_half, opposite_even, opposite_odd, opposite_twice, tail_even, tail-opposite, head-opposite, arc_below, even_arc, opposite_arc, arcs-are, head_in}
use Rattle.walks.proofs.Fuel.{unseen_first, unique}
use Rattle.walks.proofs.Visited.{begin, visited_run}
use Rattle.walks.proofs.NextAt.{first_all, from_first}
use Rattle.walks.proofs.Tour.{Met, Tours, Toured, tours, visit_of, hops_are, paired, real_hops, All, Whole, whole}
use Rattle.walks.proofs.Hops.{closes, ends, once}
use Rattle.walks.proofs.Halfway.{Here}
use Rattle.walks.proofs.Leading.{leads}
use Rattle.walks.proofs.FirstMet.{Firsts, first-at, Turned, turned_at, Made, made}
use Rattle.walks.proofs.NextHop.{after}
pub use Rattle.walks.proofs.Leading.{leading_one, leading_pair}

module _ (p : Plant) (ok : Valid p) (r : ℕ) (r_in : r < p.switches) where
  -- ---- the tour as a relation

  abbrev start : Tour
  start = record { seen = begin r; hops = [] }

  toured : Toured (tail p) (head p) (arcs p) r (arcs p) start (tour (tail p) (head p) (arcs p) p.switches r start)
  toured = tours (tail p) (head p) (arcs p) p.switches (λ a i. head_in p ok a ((arcs-are p a).0 i)) p.switches r start (omega (arith, unseen_first p.switches r r_in))

  -- it ends in the state in which the visit ends
  pub round_visits : (tour (tail p) (head p) (arcs p) p.switches r (record { seen = record { ord = r ∷ []; ent = [] }; hops = [] })).seen ≡ visited_from p r
  round_visits = unique (tail p) (head p) (arcs p) (visit_of (tail p) (head p) (arcs p) toured.run) (visited_run p ok r r_in)

  made_is : toured.made ≡ round_from p r
  unfolding round_from
  made_is = sym (hops_are (tail p) (head p) (arcs p) toured.run)

  pub run : Tours (tail p) (head p) (arcs p) r (arcs p) (begin r) [] (visited_from p r) (round_from p r) (round_from p r)
  unfolding round_from
  run =
      subst (λ (w : List ℕ). Tours (tail p) (head p) (arcs p) r (arcs p) (begin r) [] (visited_from p r) (round_from p r) w) made_is
      (subst (λ (t : St). Tours (tail p) (head p) (arcs p) r (arcs p) (begin r) [] t (round_from p r) toured.made) round_visits toured.run)

  -- ---- its hops

  pub round-closed : Walk (tail p) (head p) (round_from p r) r r
  round-closed = closes (tail p) (head p) (arcs p) (tail-opposite p) (head-opposite p) run

  -- with a hop it has the opposite one
  pub round-opposite : (a : ℕ) → In a (round_from p r) → In (opposite a) (round_from p r)
  round-opposite a i = paired (tail p) (head p) (arcs p) run a i

  -- its hops are the arcs that leave a reached switch
  pub round-arcs : (a : ℕ) → In a (round_from p r) ↔ (Arc p a × T (reached_from p r (tail p a)))
  round-arcs a = (
    λ i. (
      (arcs-are p a).0 (real_hops (tail p) (head p) (arcs p) back run (λ b j. j) a i),
      in→memb (tail p a) (visited_from p r).ord (ends (tail p) (head p) (arcs p) (tail-opposite p) (head-opposite p) run (inl refl) a i).0,
    ),
    λ h. here (met h.0 (w.rest (tail p a) (memb→in (tail p a) (visited_from p r).ord h.1))),
  )
    where
      back : (b : ℕ) → In b (arcs p) → In (opposite b) (arcs p)
      back b j = (arcs-are p (opposite b)).1 (opposite_arc p b ((arcs-are p b).0 j))

      w : Whole (tail p) (head p) (arcs p) r (begin r) (visited_from p r) (round_from p r)
      w = whole (tail p) (head p) (arcs p) run (λ b j e. inl j)

      met : Arc p a → In (tail p a) (r ∷ []) ⊎ All (tail p) (head p) (arcs p) (round_from p r) (tail p a) → Met a (round_from p r)
      met h (inl (inl e)) = w.this a ((arcs-are p a).1 h) e
      met h (inl (inr z)) = absurd z
      met h (inr f) = f a ((arcs-are p a).1 h) refl

      here : Met a (round_from p r) → In a (round_from p r)
      here (inl i) = i
      here (inr i) = subst (λ (b : ℕ). In b (round_from p r)) (opposite_twice a) (round-opposite (opposite a) i)

  pub round-once : Distinct (round_from p r)
  round-once = once (tail p) (head p) (arcs p) (tail-opposite p) (head-opposite p) run (inl refl) (λ b z. absurd z)

  -- ---- their number

  -- link l is among those that are reached
  abbrev part : ℕ → Bool
  part l = reached_from p r (first p l) && live p l

  even_hop : (l : ℕ) → T (memb (2 * l) (round_from p r)) ↔ T (part l)
  even_hop l = (
    λ t. let h = (round-arcs (2 * l)).0 (memb→in (2 * l) (round_from p r) t) in
        and_both (reached_from p r (first p l)) (live p l) (subst (λ (x : ℕ). T (reached_from p r x)) (tail_even p l) h.1) (subst (λ (k : ℕ). T (live p k)) (even_half l) h.0),
    λ t. in→memb (2 * l) (round_from p r)
        ((round-arcs (2 * l)).1 (
          even_arc p l (and_right (reached_from p r (first p l)) (live p l) t),
          subst (λ (x : ℕ). T (reached_from p r x)) (sym (tail_even p l)) (and_left (reached_from p r (first p l)) (live p l) t),
        )),
  )

  odd_hop : (l : ℕ) → T (memb (2 * l + 1) (round_from p r)) ↔ T (part l)
  odd_hop l = (
    λ t. (even_hop l).0 (in→memb (2 * l) (round_from p r)
        (subst (λ (b : ℕ). In b (round_from p r)) (opposite_odd l) (round-opposite (2 * l + 1) (memb→in (2 * l + 1) (round_from p r) t)))),
    λ t. in→memb (2 * l + 1) (round_from p r)
        (subst (λ (b : ℕ). In b (round_from p r)) (opposite_even l) (round-opposite (2 * l) (memb→in (2 * l) (round_from p r) ((even_hop l).1 t)))),
  )

  pub round-length : length (round_from p r) ≡ 2 * links_from p r
  unfolding links_from
  round-length =
      omega (
        arith,
        distinct_count (2 * p.count) (round_from p r) round-once (λ a i. arc_below p a ((round-arcs a).0 i).0),
        pairs p.count (λ a. memb a (round_from p r)),
        count_both p.count (λ l. memb (2 * l) (round_from p r)) part (λ l h. even_hop l),
        count_both p.count (λ l. memb (2 * l + 1) (round_from p r)) part (λ l h. odd_hop l),
      )

  -- ---- the hop after each hop

  first-here : Here p r r (arcs p) (begin r) []
  first-here = record {
    at = inl refl;
    from = from_first p;
    known = λ b z. absurd z;
    entered = λ b z. absurd z;
    before = λ y i. inl (only y i);
    led = λ b t m. ⊎_elim (λ z. z) (λ z. absurd z) m;
    ahead = λ b i e t z. z;
  }
    where
      only : (y : ℕ) → (y ≡ r) ⊎ ⊥ → rank y (r ∷ []) ≤ rank r (r ∷ [])
      only y (inl q) = omega (arith, ap (λ (z : ℕ). rank z (r ∷ [])) q)
      only y (inr z) = absurd z

  -- it follows `next`, from the first leading arc that leaves the root until it would go back from it
  pub round_next : (up next : ℕ → ℕ) → Turns p r up next → Walk (λ a. a) next (round_from p r) (next_at p r up r 0) (up r)
  round_next up next t =
      subst (λ (a : ℕ). Walk (λ b. b) next (round_from p r) a (up r)) (first_all p r up r)
      (after p ok r r_in up next t run first-here (ext_refl (visited_from p r)) (λ b i j. i)).walk

  -- ---- where a link is first met

  all_made : Made p ok r r_in r (begin r) (round_from p r)
  all_made = made p ok r r_in run first-here (ext_refl (visited_from p r)) (λ b i j. i)

  module _ (x y : List ℕ) (a : ℕ) (e : round_from p r ≡ x ++ (a ∷ y)) (n : In (opposite a) x → ⊥) where
    -- the hop by which it is first crossed leads
    round-first : T (leading_from p r a)
    round-first = ⊎_elim (λ t. t) (λ i. absurd (⊎_elim n (λ z. z) i)) (first-at p r x y [] a (subst (λ (w : List ℕ). Firsts p r [] w) e all_made.firsts))

    -- so a link that is not entered is first met at its later visited end, and it is crossed at once back
    pub first_met_is : (T (entered_from p r (a / 2)) → ⊥) → T (earlier_from p r (head p a) (tail p a)) × ((z : List ℕ) × (y ≡ opposite a ∷ z))
    first_met_is f = (
      ⊎_elim (λ w. absurd (f w.0)) (λ w. lt→ltb _ _ w.1) (leads p r a round-first).way,
      turned_at p r x y a (subst (λ (w : List ℕ). Turned p r w) e all_made.turned) round-first f,
    )
