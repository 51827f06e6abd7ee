-- Theorem B: the arcs in use from a root are as many as the links and the bridges of the part that is reached from it, and these bridges are fewer than the
-- reached switches. Assumes a valid plant and a root that is a switch of it; at the end, that every switch is reached.
use mathlib.Core.Path.{◌≡◌, refl, sym, ap, subst}
use mathlib.Core.Logic.{◌⊎◌, inl, inr, ⊎_elim}
use mathlib.Core.Bool.{Bool, true, false, ◌&&◌, ◌||◌}
use mathlib.Core.List.{List, map}
use Prim.Native.Nat.{ℕ, suc, ◌+◌, ◌*◌, ◌/◌, ◌<◌}
use native.Mathlib.Omega.{arith}
use lib.Dec.{T}
use lib.ListN.{length-map}
use Rattle.lists.specs.Tests.{choose}
use Rattle.lists.proofs.Agree.{in_map}
use Rattle.lists.proofs.Tests.{T-or, T_true, T-same, and_left, and_right, and_both}
use Rattle.lists.specs.Members.{In, memb}
use Rattle.lists.proofs.Members.{memb→in, in→memb}
use Rattle.lists.specs.Count.{bit, count}
use Rattle.lists.proofs.Count.{bit_true, bit_false, bit-one, bit_ltb, count_le, count_both, count-memb, pairs, counts_le}
use Rattle.plant.specs.declared.Plant.{Plant}
use Rattle.plant.specs.Links.{first, second, live}
use Rattle.walks.proofs.Walk.{trans, weaken}
use Rattle.walks.specs.Visit.{rank}
use Rattle.walks.proofs.Visit.{rank_inj}
use Rattle.walks.specs.Arcs.{opposite, tail, head, Arc, Avoid, Valid}
use Rattle.walks.specs.Graph.{Crosses, AllFrom, visited_from, reached_from, entered_from, earlier_from, chosen_from, used_from, bridge_from, links_from, bridges_from, arcs_used_from, switches_from, bridge, live_links, bridges}
use Rattle.walks.proofs.Labels.{even_half, odd_half, opposite_half, opposite_even, crosses, crosses?, crossed-is, tail_even, head_even, tail-opposite, head-opposite, ends, ends-apart, tail_in, even_arc, opposite_avoid}
use Rattle.walks.proofs.Visited.{visited_keeps, visited_good, entered_arc, visited_reach, visited_number, visited_finds, visited_all}
use Rattle.walks.proofs.Tests.{walk-back, bridge-live, bridge-is}
use Rattle.walks.proofs.Orientation.{Used, chosen_arc, used-is, from_arc}

-- of an arc and the opposite one: l tells whether the link is in service, b whether it is a bridge, c whether it was entered, x and y which end was visited first
bits : (l b c x y : Bool) → T l → bit x + bit y ≡ 1 → bit (l && (b || choose c x y)) + bit (l && (b || choose c y x)) ≡ suc (bit b)
bits true true c x y t e = refl
bits true false true x y t e = e
bits true false false x y t e = omega arith
bits false b c x y t e = absurd t

module _ (p : Plant) (ok : Valid p) (r : ℕ) (r_in : r < p.switches) where
  abbrev found : List ℕ
  found = (visited_from p r).ord

  abbrev entries : List ℕ
  entries = (visited_from p r).ent

  -- ---- one or two arcs of each link

  -- an arc that leaves a reached switch is in use if the rule chooses it
  at-reached : (a : ℕ) → In (tail p a) found → used_from p r a ≡ chosen_from p r a
  unfolding used_from
  at-reached a i = rw (T_true (reached_from p r (tail p a)) (in→memb (tail p a) found i)) refl

  -- of such an arc and the opposite one, both are in use if the link is a bridge, and else just one is
  pub used-opposite : (a : ℕ) → Arc p a → In (tail p a) found → bit (used_from p r a) + bit (used_from p r (opposite a)) ≡ suc (bit (bridge p (a / 2)))
  used-opposite a h i =
      let j = visited_keeps p ok r r_in a h i in
      rw (at-reached a i, at-reached (opposite a) (subst (λ (x : ℕ). In x found) (sym (tail-opposite p a)) j), opposite_half a, tail-opposite p a, head-opposite p a)
      (bits (live p (a / 2)) (bridge p (a / 2)) (entered_from p r (a / 2)) (earlier_from p r (tail p a) (head p a)) (earlier_from p r (head p a) (tail p a)) h
      (bit_ltb (rank (tail p a) found) (rank (head p a) found) (λ e. ends-apart p ok a h (rank_inj (tail p a) (head p a) found i j e))))

  module _ (l : ℕ) (here : T (reached_from p r (first p l))) (part : T (live p l)) where
    pub used_pair : bit (used_from p r (2 * l)) + bit (used_from p r (2 * l + 1)) ≡ suc (bit (bridge p l))
    used_pair =
        let e = used-opposite (2 * l) (even_arc p l part) (subst (λ (x : ℕ). In x found) (sym (tail_even p l)) (memb→in (first p l) found here)) in
        rw (opposite_even l, even_half l) at e

    -- an arc of each link that is reached is in use
    pub one_from : T (used_from p r (2 * l)) ⊎ T (used_from p r (2 * l + 1))
    one_from = bit-one (used_from p r (2 * l)) (used_from p r (2 * l + 1)) (omega (arith, used_pair))

  -- the link of an arc in use is reached
  pub used-link : (a : ℕ) → Used p r a → T (reached_from p r (first p (a / 2)) && live p (a / 2))
  used-link a t =
      let h = from_arc p r a t in
      let i = ((used-is p r a).0 t).0 in
      and_both (reached_from p r (first p (a / 2))) (live p (a / 2))
      (in→memb (first p (a / 2)) found
      (⊎_elim (λ e. subst (λ (x : ℕ). In x found) e.0 i) (λ e. subst (λ (x : ℕ). In x found) e.1 (visited_keeps p ok r r_in a h i)) (ends p a))) h

  -- ---- theorem B

  pair : (l : ℕ) → bit (used_from p r (2 * l)) + bit (used_from p r (2 * l + 1)) ≡ bit (reached_from p r (first p l) && live p l) + bit (reached_from p r (first p l) && bridge p l)
  pair l =
      ⊎_elim
      (λ t.
      let here = and_left (reached_from p r (first p l)) (live p l) t in
      let part = and_right (reached_from p r (first p l)) (live p l) t in
      rw (T_true (reached_from p r (first p l)) here) (omega (arith, used_pair l here part, bit_true (live p l) part)))
      (λ n. omega (
        arith,
        bit_false (used_from p r (2 * l)) (λ t. n (rw (even_half l) at (used-link (2 * l) t))),
        bit_false (used_from p r (2 * l + 1)) (λ t. n (rw (odd_half l) at (used-link (2 * l + 1) t))),
        bit_false (reached_from p r (first p l) && live p l) n,
        bit_false (reached_from p r (first p l) && bridge p l) (λ t. n (and_both (reached_from p r (first p l)) (live p l)
            (and_left (reached_from p r (first p l)) (bridge p l) t) (bridge-live p l (and_right (reached_from p r (first p l)) (bridge p l) t)))),
      ))
      (T-or (reached_from p r (first p l) && live p l))

  -- theorem B: the arcs in use are as many as the links that are reached and the bridges among them
  pub arcs-from : arcs_used_from p r ≡ links_from p r + bridges_from p r
  unfolding arcs_used_from links_from bridges_from
  arcs-from =
      let f : ℕ → Bool = λ l. reached_from p r (first p l) && live p l in
      let g : ℕ → Bool = λ l. reached_from p r (first p l) && bridge p l in
      omega (
        arith,
        pairs p.count (used_from p r),
        counts_le p.count (λ l. used_from p r (2 * l)) (λ l. used_from p r (2 * l + 1)) f g (λ l h. omega (arith, pair l)),
        counts_le p.count f g (λ l. used_from p r (2 * l)) (λ l. used_from p r (2 * l + 1)) (λ l h. omega (arith, pair l)),
      )

  -- ---- bridges

  -- a bridge whose ends the visit found has been entered, or else the entered arcs would lead round it
  pub bridge-entered : (l : ℕ) → T (bridge p l) → In (first p l) found → T (entered_from p r l)
  bridge-entered l t h = go (crosses? l entries)
    where
      live_l : T (live p l)
      live_l = bridge-live p l t

      avoids : (Crosses l entries → ⊥) → (a : ℕ) → In a entries → Avoid p l a
      avoids n a j = (entered_arc p ok r r_in a j, λ e. n (crosses a l entries j e))

      i : In (second p l) found
      i = rw (head_even p l) at (visited_keeps p ok r r_in (2 * l) (even_arc p l live_l) (rw (tail_even p l) h))

      go : Crosses l entries ⊎ (Crosses l entries → ⊥) → T (entered_from p r l)
      go (inl c) = (crossed-is l entries).1 c
      go (inr n) =
          absurd ((bridge-is p ok l live_l).0 t
          (trans (walk-back p (opposite_avoid p l) (weaken (avoids n) (visited_reach p ok r r_in (first p l) h))) (weaken (avoids n) (visited_reach p ok r r_in (second p l) i))))

  -- the bridges that are reached are among the entered links, and so fewer than the reached switches
  pub bridges-few : bridges_from p r < switches_from p r
  unfolding bridges_from
  bridges-few =
      omega (
        arith,
        count_le p.count (λ l. reached_from p r (first p l) && bridge p l) (λ k. memb k crossed) (λ l h t. in→memb l crossed (go l ((crossed-is l entries).0
            (bridge-entered l (and_right (reached_from p r (first p l)) (bridge p l) t) (memb→in (first p l) found (and_left (reached_from p r (first p l)) (bridge p l) t)))))),
        count-memb p.count crossed,
        length-map entries (λ (a : ℕ). a / 2),
        (visited_good p ok r r_in).size,
        visited_number p ok r r_in,
      )
    where
      -- the entered links
      crossed : List ℕ
      crossed = map (λ a. a / 2) entries

      go : (l : ℕ) → Crosses l entries → In l crossed
      go l (inl i) = subst (λ (k : ℕ). In k crossed) (even_half l) (in_map (λ a. a / 2) (2 * l) entries i)
      go l (inr i) = subst (λ (k : ℕ). In k crossed) (odd_half l) (in_map (λ a. a / 2) (2 * l + 1) entries i)

  -- ---- where every switch is reached

  module _ (all : AllFrom p r) where
    pub all-reached : (l : ℕ) → T (live p l) → T (reached_from p r (first p l))
    all-reached l t = (visited_finds p ok r r_in (first p l)).1 (all (first p l) (ok.first_in_is l t))

    pub links-all : links_from p r ≡ live_links p
    unfolding links_from live_links
    links-all =
        count_both p.count (λ l. reached_from p r (first p l) && live p l) (live p)
        (λ l h. (and_right (reached_from p r (first p l)) (live p l), λ t. and_both (reached_from p r (first p l)) (live p l) (all-reached l t) t))

    -- every bridge is reached
    pub bridge-all : (l : ℕ) → bridge_from p r l ≡ bridge p l
    bridge-all l =
        T-same (bridge_from p r l) (bridge p l) (and_right (reached_from p r (first p l)) (bridge p l))
        (λ t. and_both (reached_from p r (first p l)) (bridge p l) (all-reached l (bridge-live p l t)) t)

    pub bridges-all : bridges_from p r ≡ bridges p
    unfolding bridges_from bridges
    bridges-all = ap (count p.count) (λ i l. bridge-all l i)

    -- the arcs in use are those that the rule chooses
    pub used-chosen : (a : ℕ) → used_from p r a ≡ chosen_from p r a
    used-chosen a =
        T-same (used_from p r a) (chosen_from p r a) (λ t. ((used-is p r a).0 t).1)
        (λ t. (used-is p r a).1 (visited_all p ok r r_in all (tail p a) (tail_in p ok a (chosen_arc p r a t)), t))

    -- an arc of each link is in use
    pub one-used : (l : ℕ) → T (live p l) → T (used_from p r (2 * l)) ⊎ T (used_from p r (2 * l + 1))
    one-used l t = one_from l (all-reached l t) t

    -- theorem B for all links
    pub arcs-all : arcs_used_from p r ≡ live_links p + bridges p
    arcs-all = omega (arith, arcs-from, links-all, bridges-all)
