-- The round run, by a state byte for each label (document 02, order 6). The ring of a switch on a closed walk that has each arc of some links, and no other label, comes home
-- exactly if every direction of these is up, and no labels of which that holds are fewer than two to each of them; where the two directions of each of these are up or down together, a
-- probe by label is the probe by link. Assumes nothing more of the plant.
use mathlib.Core.Path.{◌≡◌, refl, sym, ap, ◌∙◌, subst}
use mathlib.Core.Logic.{◌⊎◌, ⊎_elim, ◌↔◌}
use mathlib.Core.Bool.{Bool, true, false, not}
use mathlib.Core.List.{List, [], ◌∷◌, ◌++◌, map, append-nil}
use Prim.Native.Nat.{ℕ, ◌*◌, ◌/◌, ◌≤◌}
use native.Mathlib.Omega.{arith}
use lib.Dec.{T, eqb}
use lib.ListN.{length, get_or, take, drop, length-append, take-append-drop}
use borrow.Author.Tests.{eq-eqb, ne_eqb}
use Rattle.lists.specs.Tests.{choose}
use Rattle.lists.proofs.Tests.{not_both}
use Rattle.lists.specs.Members.{In, memb, all}
use Rattle.lists.proofs.Members.{in?, in→memb, all-at, at_all}
use Rattle.lists.specs.Numbers.{range}
use Rattle.lists.proofs.Numbers.{values_length, values-at}
use Rattle.lists.specs.Count.{count}
use Rattle.lists.proofs.Count.{count_le, count-memb, pairs}
use Rattle.plant.specs.declared.Plant.{Plant}
use Rattle.plant.specs.Links.{live}
use Rattle.walks.specs.Walk.{Walk}
use Rattle.walks.specs.Arcs.{tail, head, Arc}
use Rattle.walks.proofs.Live.{live_below}
use Rattle.walks.proofs.Labels.{even_or_odd, even_half, odd_half, opposite_half, arc_below}
use Rattle.rings.specs.Packet.{End, ends, run}
use Rattle.rings.specs.Rules.{up_by, up_by_link, in_all}
use Rattle.rings.specs.Ring.{read_from, ring}
use Rattle.rings.specs.Injection.{place_of, ring_of, probe_rules, probe_of, probe_run}
use Rattle.rings.specs.Round.{up_by_label, EveryUp, Vouches, round_run, Together, link_bytes}
use Rattle.rings.proofs.Packet.{run-ended, run_clear, run-same}
use Rattle.rings.proofs.Ring.{place_is, ring-empty}
use Rattle.rings.proofs.Rules.{all_arc}
use Rattle.rings.proofs.Probe.{probe-all}
use Rattle.rings.proofs.Injection.{RingAt, ring-labels, ring-closed}

-- the ring has as many labels as the walk
ring-length : (p : Plant) (w : List ℕ) (s : ℕ) → length (ring_of p w s) ≡ length w
unfolding ring_of ring read_from
ring-length p w s =
    let k = place_of p w s in
    omega (arith, length-append (drop k w) (take k w), length-append (take k w) (drop k w), ap length (take-append-drop k w))

-- ---- a closed walk from r that has each arc of some links in service and no other label, and a switch that it leaves, unless it is empty

module _ (p : Plant) (links : ℕ → Bool) (alive : (l : ℕ) → T (links l) → T (live p l)) (w : List ℕ) (r : ℕ) (closed : Walk (tail p) (head p) w r r)
    (whole : (a : ℕ) → In a w ↔ T (links (a / 2))) (s : ℕ) (leaves : (w ≡ []) ⊎ ((a : ℕ) × In a w × (tail p a ≡ s)))
  where
    ring-at : RingAt p w s
    ring-at = record { closed = record { from = r; walk = closed; arcs_alone = λ a h. alive (a / 2) ((whole a).0 h) }; leaves = leaves }

    -- the ring has the arcs too
    ring-whole : (a : ℕ) → In a (ring_of p w s) ↔ T (links (a / 2))
    ring-whole a = (λ h. (whole a).0 ((ring-labels p w s a).0 h), λ h. (ring-labels p w s a).1 ((whole a).1 h))

    -- each hop has a rule, so only the states of its labels matter
    ends_clear : (up : ℕ → Bool) → ends (in_all p) up (head p) s (ring_of p w s) ≡ all up (ring_of p w s)
    unfolding run in_all
    ends_clear up = run-ended (tail p) (head p) (λ a. live p (a / 2)) up (ring_of p w s) s s 0 (ring-closed p w s ring-at) (λ a h. alive (a / 2) ((ring-whole a).0 h))

    -- the packet comes home exactly if every direction is up
    home-exactly : (states : List ℕ) → (ends (in_all p) (up_by_label states) (head p) s (ring_of p w s) ≡ true) ↔ EveryUp p links states
    home-exactly states = (
      λ e a h. all-at (up_by_label states) (ring_of p w s) (sym (ends_clear (up_by_label states)) ∙ e) a ((ring-whole a).1 h),
      λ f. ends_clear (up_by_label states) ∙ at_all (up_by_label states) (ring_of p w s) (λ a h. f a ((ring-whole a).0 h)),
    )

    pub vouches : Vouches p links s (ring_of p w s)
    vouches states h = home-exactly states

    pub round-home : (states : List ℕ) → ((round_run p w s states).ended ≡ true) ↔ EveryUp p links states
    unfolding round_run run
    round-home = home-exactly

    -- one that is home is back at its switch, after as many hops as there are labels
    pub round-back : (states : List ℕ) → (round_run p w s states).ended ≡ true → round_run p w s states ≡ record { ended = true; hops = length w; last = s }
    unfolding round_run run in_all
    round-back states e =
        run_clear (tail p) (head p) (λ a. live p (a / 2)) (up_by_label states) (ring_of p w s) s s 0 (ring-closed p w s ring-at) (λ a h. alive (a / 2) ((ring-whole a).0 h)) (sym (ends_clear (up_by_label states)) ∙ e)
        ∙ ap (λ (n : ℕ). record { ended = true; hops = n; last = s }) (omega (arith, ring-length p w s))

-- from where a closed walk begins its ring is the walk itself
pub ring-own : (p : Plant) (w : List ℕ) (r : ℕ) → Walk (tail p) (head p) w r r → ring_of p w r ≡ w
unfolding ring_of ring read_from
ring-own p [] r q = ring-empty (tail p) r
ring-own p (a ∷ w) r q =
    ap (λ (k : ℕ). drop k (a ∷ w) ++ take k (a ∷ w)) (place_is (tail p) r (a ∷ w) 0 (record { inside = omega arith; leaves = q.0; before = λ i h. absurd (omega arith) }))
    ∙ append-nil (a ∷ w)

-- ---- no labels with that property are fewer

module _ (p : Plant) where
  -- the byte of label a where label k alone is down
  abbrev byte_but : ℕ → ℕ → ℕ
  byte_but k a = choose (eqb a k) 0 1

  -- a byte for each label: that of k is down, if there is one, and every other is up
  abbrev one_down : ℕ → List ℕ
  one_down k = map (byte_but k) (range 0 (2 * p.count))

  one_up : (k a : ℕ) → Arc p a → (a ≡ k → ⊥) → up_by_label (one_down k) a ≡ true
  unfolding up_by
  one_up k a h n = rw (values-at (byte_but k) 0 (2 * p.count) a (arc_below p a h), ne_eqb a k n)

  one_down_lem : (a : ℕ) → Arc p a → up_by_label (one_down a) a ≡ false
  unfolding up_by
  one_down_lem a h = rw (values-at (byte_but a) 0 (2 * p.count) a (arc_below p a h), eq-eqb a a refl)

  -- whatever labels a packet carries that comes home exactly if every direction of some links in service is up: there are two to each of these
  module _ (links : ℕ → Bool) (alive : (l : ℕ) → T (links l) → T (live p l)) (s : ℕ) (w : List ℕ) (vouched : Vouches p links s w) where
    told : (k : ℕ) → (ends (in_all p) (up_by_label (one_down k)) (head p) s w ≡ true) ↔ EveryUp p links (one_down k)
    told k = vouched (one_down k) (omega (arith, values_length (byte_but k) 0 (2 * p.count)))

    -- with every byte up it comes home
    home : ends (in_all p) (up_by_label (one_down (2 * p.count))) (head p) s w ≡ true
    home = (told (2 * p.count)).1 (λ a h. one_up (2 * p.count) a (alive (a / 2) h) (λ e. omega (arith, arc_below p a (alive (a / 2) h))))

    -- with label a alone down it would come home all the same, if it did not carry a
    home_without : (a : ℕ) → (In a w → ⊥) → ends (in_all p) (up_by_label (one_down a)) (head p) s w ≡ true
    unfolding run
    home_without a n = ap (λ (e : End). e.ended) (run-same (in_all p) (in_all p) (up_by_label (one_down a)) (up_by_label (one_down (2 * p.count))) (head p) w s 0 (λ x b h. refl) same) ∙ home
      where
        same : (x b : ℕ) → In b w → in_all p x b ≡ true → up_by_label (one_down a) b ≡ up_by_label (one_down (2 * p.count)) b
        same x b h t =
            let arc = all_arc p x b t in
            one_up a b arc (λ e. n (subst (λ (c : ℕ). In c w) e h)) ∙ sym (one_up (2 * p.count) b arc (λ e. omega (arith, arc_below p b arc)))

    -- so it carries each of their arcs
    carries : (a : ℕ) → T (links (a / 2)) → In a w
    carries a h = ⊎_elim (λ i. i) (λ n. absurd (not_both (up_by_label (one_down a) a) ((told a).0 (home_without a n) a h) (one_down_lem a (alive (a / 2) h)))) (in? a w)

    two-each : count (2 * p.count) (λ a. links (a / 2)) ≡ 2 * count p.count links
    two-each = pairs p.count (λ a. links (a / 2)) ∙ simp (even_half, odd_half) (omega arith)

    pub vouched_fewest : 2 * count p.count links ≤ length w
    vouched_fewest =
        omega (
          arith,
          two-each,
          count_le (2 * p.count) (λ a. links (a / 2)) (λ a. memb a w) (λ a h t. in→memb a w (carries a t)),
          count-memb (2 * p.count) w,
        )

  -- ---- some links in service whose two directions are up or down together

  module _ (links : ℕ → Bool) (alive : (l : ℕ) → T (links l) → T (live p l)) (states : List ℕ) (together : Together links states) where
    -- of each the byte of either label tells
    pub label_link : (a : ℕ) → T (links (a / 2)) → up_by_label states a ≡ up_by_link (link_bytes p states) a
    unfolding up_by link_bytes
    label_link a h = ⊎_elim (λ e. ap (up_by states) e) (λ e. ap (up_by states) e ∙ sym (together (a / 2) h)) (even_or_odd a) ∙ sym first_byte
      where
        first_byte : up_by_link (link_bytes p states) a ≡ up_by_label states (2 * (a / 2))
        first_byte = ap (λ (b : ℕ). not (eqb b 0)) (values-at (λ l. get_or states (2 * l) 0) 0 p.count (a / 2) (live_below p (a / 2) (alive (a / 2) h)))

    -- over a trail of no other links, the run of a probe by label is the run by link
    pub probe_together : (table : ℕ → Bool) (w : List ℕ) → ((a : ℕ) → In a w → T (links (a / 2))) → (s e m : ℕ)
        → probe_run p table w s e (up_by_label states) m ≡ probe_run p table w s e (up_by_link (link_bytes p states)) m
    unfolding probe_run probe_of
    probe_together table w of s e m =
        let rule = probe_rules p table e m in
        run-same rule rule (up_by_label states) (up_by_link (link_bytes p states)) (head p) (probe_of p w s e m) s 0 (λ x a i. refl)
        (λ x a i t. label_link a (probe-all (λ b. T (links (b / 2))) (λ b u. subst (λ (l : ℕ). T (links l)) (sym (opposite_half b)) u) e m (ring_of p w s) (λ b j. of b ((ring-labels p w s b).0 j)) a i))
