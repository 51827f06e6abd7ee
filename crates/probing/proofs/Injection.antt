-- Injection at a switch of a plant: the trail of its component leaves the switch, the order has each link of the component once, and E, the number of links that a search is over,
-- is its length. So probe m returns exactly if m is less than the place of the first broken link. Assumes a sound plant and one of its switches.
use mathlib.Core.Path.{◌≡◌, refl, sym, subst}
use mathlib.Core.Logic.{◌⊎◌, inl, inr, ⊎_elim, ◌↔◌}
use mathlib.Core.Bool.{Bool}
use mathlib.Core.List.{List, [], ◌∷◌}
use Prim.Native.Nat.{ℕ, ◌+◌, ◌*◌, ◌/◌, ◌≤◌, ◌<◌}
use native.Mathlib.Omega.{arith}
use lib.Dec.{T, ltb}
use lib.ListN.{length}
use Rattle.lists.specs.Members.{In, memb}
use Rattle.lists.proofs.Members.{memb→in, in→memb}
use Rattle.lists.proofs.Count.{count_le, count-all, distinct_count}
use Rattle.plant.specs.declared.Plant.{Plant}
use Rattle.limits.specs.Limits.{max_links}
use Rattle.limits.specs.Sound.{Sound}
use Rattle.walks.specs.Walk.{Walk}
use Rattle.walks.specs.Arcs.{tail, head, Valid}
use Rattle.walks.specs.Graph.{reached_from}
use Rattle.walks.specs.Components.{root_of, roots, link_with, links_with, used}
use Rattle.walks.proofs.Valid.{sound_valid}
use Rattle.walks.proofs.Live.{live_below}
use Rattle.walks.proofs.Labels.{even_half, odd_half, tail_in}
use Rattle.walks.proofs.Components.{root_reaches, root-listed, reaches_root, link_with_lem, arc_with, links_with_lem}
use Rattle.plan.specs.Plan.{trail_with, round_with}
use Rattle.plan.proofs.Plan.{used_arc, strongly_connected, one-used}
use Rattle.plan.proofs.Rounds.{round-from}
use Rattle.plan.proofs.Trails.{trail-from, trail-closed}
use Rattle.rings.specs.Packet.{by_link}
use Rattle.rings.specs.Injection.{order_of, probe_run}
use Rattle.rings.proofs.FirstDown.{first_down}
use Rattle.rings.proofs.Injection as rings
use Rattle.rings.proofs.Injection.{RingAt, order_once, order-crosses}

module _ (p : Plant) (ok : Sound p) (x : ℕ) (x_in : x < p.switches) where
  abbrev w : List ℕ
  w = trail_with p x

  valid : Valid p
  valid = sound_valid p ok

  pub root_among : In (root_of p x) (roots p)
  root_among = root-listed p valid ok.start_in x x_in

  -- the trail crosses the arcs in use of the component
  exactly : (a : ℕ) → In a w ↔ (T (reached_from p (root_of p x) (tail p a)) × T (used p a))
  exactly = (trail-from p ok (root_of p x) root_among).exactly

  pub trail-used : (a : ℕ) → In a w → T (used p a)
  trail-used a i = ((exactly a).0 i).1

  -- some hop of the trail leaves x: the first of a walk over arcs in use from x to where a hop of the trail begins, or that hop
  leaves : (v : List ℕ) → ((a : ℕ) → In a v → In a w) → (v ≡ []) ⊎ ((a : ℕ) × In a w × (tail p a ≡ x))
  leaves [] f = inl refl
  leaves (b ∷ v) f =
      let u = (exactly b).0 (f b (inl refl)) in
      let same = sym (reaches_root p valid ok.start_in (root_of p x) (tail p b) root_among u.0) in
      let r = strongly_connected p ok x (tail p b) x_in (tail_in p valid b (used_arc p b u.1)) same in
      inr (step (f b (inl refl)) r.0 r.1 r.2)
    where
      step : In b w → (u : List ℕ) → Walk (tail p) (head p) u x (tail p b) → ((a : ℕ) → In a u → T (used p a)) → (a : ℕ) × In a w × (tail p a ≡ x)
      step i [] e g = (b, i, sym e)
      step i (a ∷ u) q g = (a, (exactly a).1 (subst (λ (y : ℕ). T (reached_from p (root_of p x) y)) (sym q.0) (root_reaches p valid ok.start_in x x_in), g a (inl refl)), q.0)

  pub ring-at : RingAt p w x
  ring-at = record { closed = trail-closed p ok (root_of p x) root_among; leaves = leaves w (λ a i. i) }

  -- each link that it crosses is one of the component
  pub trail-links : (a : ℕ) → In a w → T (link_with p x (a / 2))
  trail-links a i = let u = (exactly a).0 i in (arc_with p valid ok.start_in x a x_in).0 (u.0, used_arc p a u.1)

  -- the order has each link in service of the component
  pub order-links : (l : ℕ) → In l (order_of p w x) ↔ T (link_with p x l)
  order-links l = (
    λ h. let c = (order-crosses p w x l).0 h in subst (λ (k : ℕ). T (link_with p x k)) c.2 (trail-links c.0 c.1),
    λ t. ⊎_elim (λ u. on (2 * l) u (even_half l) t) (λ u. on (2 * l + 1) u (odd_half l) t) (one-used p ok l ((link_with_lem p valid ok.start_in x l x_in).0 t).0),
  )
    where
      on : (a : ℕ) → T (used p a) → a / 2 ≡ l → T (link_with p x l) → In l (order_of p w x)
      on a u e t = (order-crosses p w x l).1 (a, (exactly a).1 (((arc_with p valid ok.start_in x a x_in).1 (subst (λ (k : ℕ). T (link_with p x k)) (sym e) t)).0, u), e)

  -- so it is as long as there are links in service
  pub order-length : length (order_of p w x) ≡ links_with p x
  order-length =
      omega (
        arith,
        links_with_lem p valid ok.start_in x x_in,
        distinct_count p.count (order_of p w x) (order_once p w x) (λ l h. live_below p l ((link_with_lem p valid ok.start_in x l x_in).0 ((order-links l).0 h)).0),
        count_le p.count (λ l. memb l (order_of p w x)) (link_with p x) (λ l h t. (order-links l).0 (memb→in l (order_of p w x) t)),
        count_le p.count (link_with p x) (λ l. memb l (order_of p w x)) (λ l h t. in→memb l (order_of p w x) ((order-links l).1 t)),
      )

  pub links-few : links_with p x ≤ max_links
  links-few = omega (arith, links_with_lem p valid ok.start_in x x_in, count-all p.count (link_with p x), ok.few_links)

  -- probe m returns exactly if m is less than the place of the first broken link
  pub probe-tells : (up : ℕ → Bool) (m : ℕ) → 1 ≤ m → m ≤ links_with p x
      → (probe_run p (used p) w x (links_with p x) (by_link up) m).ended ≡ ltb m (first_down up (order_of p w x))
  probe-tells up = rings.probe-tells p w x ring-at (links_with p x) (used p) trail-used up order-length

  -- the round trail has each arc of the links of the component, and no other label
  pub round-exactly : (a : ℕ) → In a (round_with p x) ↔ T (link_with p x (a / 2))
  round-exactly a =
      let q = (round-from p ok (root_of p x) root_among).each a in
      let r = arc_with p valid ok.start_in x a x_in in
      (λ i. r.0 (q.0 i), λ t. q.1 (r.1 t))

  pub round-links : (a : ℕ) → In a (round_with p x) → T (link_with p x (a / 2))
  round-links a = (round-exactly a).0
