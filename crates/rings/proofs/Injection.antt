-- For a closed walk over arcs of a plant, from any root, and an injection switch that it leaves: the switch has a place, its ring is a closed walk, the order has the
-- links that are crossed, each once. Where the table has rules for its arcs, a probe that returns has crossed all its labels, and a lost one was so at the first that is not
-- up; where e is the length of the order too, probe m returns exactly if the first m links of the order are up, and so if m is less than the place of the first broken
-- link. Assumes nothing more of the plant.
use mathlib.Core.Path.{◌≡◌, refl, sym, ap, ◌∙◌, subst}
use mathlib.Core.Logic.{◌⊎◌, inl, inr, ⊎_elim, ◌↔◌}
use mathlib.Core.Bool.{Bool, true, false}
use mathlib.Core.List.{List, [], ◌++◌}
use Prim.Native.Nat.{ℕ, ◌/◌, ◌≤◌, ◌<◌}
use native.Mathlib.Omega.{arith}
use native.Mathlib.Nat.{zero-add}
use lib.Dec.{T, eqb, ltb}
use lib.ListN.{length, get_or, take}
use borrow.Author.Tests.{eq-eqb, ne_eqb}
use Rattle.lists.proofs.Tests.{bool?}
use Rattle.lists.specs.Members.{In, all, Distinct}
use Rattle.plant.specs.declared.Plant.{Plant}
use Rattle.plant.specs.Links.{live}
use Rattle.walks.specs.Walk.{Walk}
use Rattle.walks.specs.Arcs.{tail, head, Arc}
use Rattle.walks.specs.Graph.{ClosedWalk}
use Rattle.walks.proofs.Labels.{tail-opposite, head-opposite, opposite_arc}
use Rattle.rings.specs.Packet.{by_link, run, rules_for}
use Rattle.rings.specs.Rules.{in_all}
use Rattle.rings.specs.Ring.{FirstHop, ring}
use Rattle.rings.specs.Order.{order}
use Rattle.rings.specs.Probe.{outward, back, probe}
use Rattle.rings.proofs.FirstDown.{first_down, first-take}
use Rattle.rings.specs.Injection.{probe_rules, place_of, ring_of, order_of, probe_of, probe_run}
use Rattle.rings.proofs.Packet.{run-ended, run_clear, lost_at}
use Rattle.rings.proofs.Ring.{place-first, ring-empty, read-labels, read_walk}
use Rattle.rings.proofs.Order.{order_distinct, label_order, order_label}
use Rattle.rings.proofs.Probe.{probe_clear, probe-all, probe-walk}

-- ---- whatever the plant and the trail

module _ (p : Plant) (w : List ℕ) (s : ℕ) where
  -- the ring has the labels of the trail
  pub ring-labels : (a : ℕ) → In a (ring_of p w s) ↔ In a w
  unfolding ring_of ring
  ring-labels a = read-labels (place_of p w s) w a

  -- the order has no link twice
  pub order_once : Distinct (order_of p w s)
  unfolding order_of
  order_once = order_distinct (ring_of p w s)

  -- it has the links that the trail crosses, and no other
  pub order-crosses : (l : ℕ) → In l (order_of p w s) ↔ ((a : ℕ) × In a w × (a / 2 ≡ l))
  unfolding order_of
  order-crosses l = (
    λ h. let c = order_label (ring_of p w s) l h in (c.0, (ring-labels c.0).0 c.1, c.2),
    λ c. subst (λ (k : ℕ). In k (order (ring_of p w s))) c.2 (label_order (ring_of p w s) c.0 ((ring-labels c.0).1 c.1)),
  )

  module _ (table : ℕ → Bool) (e : ℕ) (up : ℕ → Bool) where
    -- the full check is the whole ring under the forwarding table
    pub full_run : probe_run p table w s e up e ≡ run (rules_for table (tail p)) up (head p) s 0 (ring_of p w s)
    unfolding probe_run probe_rules probe_of probe
    full_run = rw (eq-eqb e e refl)

    -- every other probe goes out and back under all rules
    pub back-run : (m : ℕ) → (m ≡ e → ⊥) → probe_run p table w s e up m ≡ run (in_all p) up (head p) s 0 (outward m (ring_of p w s) ++ back (outward m (ring_of p w s)))
    unfolding probe_run probe_rules probe_of probe
    back-run m n = rw (ne_eqb m e n)

-- ---- a closed walk and an injection switch

-- w is a closed walk over arcs of the plant, and some hop of it leaves s, unless it is empty
pub record RingAt (p : Plant) (w : List ℕ) (s : ℕ) : Type 0 where
  pub closed : ClosedWalk p w
  pub leaves : (w ≡ []) ⊎ ((a : ℕ) × In a w × (tail p a ≡ s))

module _ (p : Plant) (w : List ℕ) (s : ℕ) (at : RingAt p w s) where
  place_at : (a : ℕ) × In a w × (tail p a ≡ s) → FirstHop (tail p) s w (place_of p w s)
  place_at r = place-first (tail p) s w r.0 r.1 r.2

  -- if the order has a link, the switch has a place: the first hop of the trail that leaves it
  pub has-place : 1 ≤ length (order_of p w s) → FirstHop (tail p) s w (place_of p w s)
  unfolding order_of ring_of order
  has-place h =
      ⊎_elim (λ e. absurd (omega (arith, h, ap (λ (v : List ℕ). length (order v)) (ap (ring (tail p) s) e ∙ ring-empty (tail p) s)))) place_at at.leaves

  -- the ring is a closed walk from s
  pub ring-closed : Walk (tail p) (head p) (ring_of p w s) s s
  unfolding ring_of ring
  ring-closed = ⊎_elim
      (λ e. subst (λ (v : List ℕ). Walk (tail p) (head p) v s s) (sym (ap (ring (tail p) s) e ∙ ring-empty (tail p) s)) refl)
      (λ r. read_walk (tail p) (head p) s at.closed.from w (place_of p w s) at.closed.walk (place_at r))
      at.leaves

  module _ (e : ℕ) where
    -- every probe is a closed walk from s, over arcs of the plant
    pub probe-closed : (m : ℕ) → Walk (tail p) (head p) (probe_of p w s e m) s s
    unfolding probe_of
    probe-closed m = probe-walk (tail p) (head p) (tail-opposite p) (head-opposite p) e m (ring_of p w s) s ring-closed

    pub probe-arcs : (m a : ℕ) → In a (probe_of p w s e m) → Arc p a
    unfolding probe_of
    probe-arcs m = probe-all (Arc p) (opposite_arc p) e m (ring_of p w s) (λ a h. at.closed.arcs_alone a ((ring-labels p w s a).0 h))

    -- ---- where the table has a rule for each arc of the walk, the full check has rules

    module _ (table : ℕ → Bool) (in_table : (a : ℕ) → In a w → T (table a)) where
      full_table : (m : ℕ) → eqb m e ≡ true → (a : ℕ) → In a (probe_of p w s e m) → T (table a)
      unfolding probe_of probe
      full_table m t a h = in_table a ((ring-labels p w s a).0 (rw t at h))

      -- a probe runs under rules for arcs of a kind that all its labels are of
      meets : (m : ℕ) → (kind : ℕ → Bool) × (probe_rules p table e m ≡ rules_for kind (tail p)) × ((a : ℕ) → In a (probe_of p w s e m) → T (kind a))
      unfolding probe_rules in_all
      meets m = go (bool? (eqb m e))
        where
          go : (eqb m e ≡ true) ⊎ (eqb m e ≡ false)
              → (kind : ℕ → Bool) × (probe_rules p table e m ≡ rules_for kind (tail p)) × ((a : ℕ) → In a (probe_of p w s e m) → T (kind a))
          go (inl t) = (table, rw t, full_table m t)
          go (inr t) = (λ a. live p (a / 2), rw t, probe-arcs m)

      module _ (up : ℕ → Bool) (m : ℕ) where
        -- so only the states of its labels matter
        pub probe-states : (probe_run p table w s e up m).ended ≡ all up (probe_of p w s e m)
        unfolding probe_run
        probe-states = let k = meets m in rw k.1 (run-ended (tail p) (head p) k.0 up (probe_of p w s e m) s s 0 (probe-closed m) k.2)

        -- a probe that returns is back at s, over all its labels
        pub probe-home : (probe_run p table w s e up m).ended ≡ true → probe_run p table w s e up m ≡ record { ended = true; hops = length (probe_of p w s e m); last = s }
        unfolding probe_run
        probe-home t =
            let k = meets m in
            rw k.1 (run_clear (tail p) (head p) k.0 up (probe_of p w s e m) s s 0 (probe-closed m) k.2 (sym probe-states ∙ t) ∙ rw zero-add)

        -- one that is lost was so at its first label that is not up
        pub probe-lost : (probe_run p table w s e up m).ended ≡ false
            → ((i : ℕ) → i < (probe_run p table w s e up m).hops → up (get_or (probe_of p w s e m) i 0) ≡ true) × (up (get_or (probe_of p w s e m) (probe_run p table w s e up m).hops 0) ≡ false)
        unfolding probe_run
        probe-lost f = let k = meets m in rw k.1 (lost_at (tail p) (head p) k.0 up (probe_of p w s e m) s s (probe-closed m) k.2 (rw k.1 at f))

    -- ---- where either label of a link is up if the link is, and e is the length of the order

    module _ (table : ℕ → Bool) (in_table : (a : ℕ) → In a w → T (table a)) (up : ℕ → Bool) (long : length (order_of p w s) ≡ e) (m : ℕ) (h : 1 ≤ m) (i : m ≤ e) where
      -- probe m returns exactly if the first m links of the order are up
      pub probe-ended : (probe_run p table w s e (by_link up) m).ended ≡ all up (take m (order_of p w s))
      unfolding probe_of order_of
      probe-ended = probe-states table in_table (by_link up) m ∙ probe_clear up (ring_of p w s) e m long h i

      -- so if m is less than the place of the first broken link
      pub probe-tells : (probe_run p table w s e (by_link up) m).ended ≡ ltb m (first_down up (order_of p w s))
      probe-tells = probe-ended ∙ first-take up (order_of p w s) m (omega (arith, long))
