-- Where a probe got to (document 02, order 1). Its way back counts on, under any states of labels. Where either label of a link is up if the link is, a lost probe is lost
-- on its way out, since it comes back over the links that it went out by; the label that it did not cross is of the first broken link of the order. Assumes a closed walk
-- that leaves the injection switch, and rules for its arcs.
use mathlib.Core.Path.{◌≡◌, refl, sym, ap, ◌∙◌}
use mathlib.Core.Logic.{◌⊎◌, inl, inr}
use mathlib.Core.Bool.{Bool, true, false}
use mathlib.Core.List.{List, [], ◌∷◌, ◌++◌, append-nil}
use Prim.Native.Nat.{ℕ, zero, suc, ◌-◌, ◌/◌, ◌≤◌, ◌<◌}
use native.Mathlib.Omega.{arith}
use native.Mathlib.Nat.{zero-add}
use lib.Dec.{T, eqb}
use lib.ListN.{length, get_or, take, length-append, get_or-append}
use lib.Seq.{take_all, take-append-le}
use Rattle.lists.specs.Tests.{choose}
use Rattle.lists.proofs.Tests.{not_both, below?}
use Rattle.lists.specs.Members.{In, all}
use Rattle.lists.proofs.Members.{all-at}
use Rattle.lists.proofs.Parts.{all_take}
use Rattle.plant.specs.declared.Plant.{Plant}
use Rattle.walks.specs.Arcs.{head}
use Rattle.rings.specs.Packet.{by_link, leads_to, run}
use Rattle.rings.specs.Rules.{in_all}
use Rattle.rings.specs.Order.{firsts, order, nth}
use Rattle.rings.specs.FirstDown.{FirstDown}
use Rattle.rings.specs.Probe.{back, outward, probe}
use Rattle.rings.specs.Injection.{ring_of, order_of, probe_of, probe_run}
use Rattle.rings.proofs.Packet.{run_on_lem}
use Rattle.rings.proofs.Order.{Firsts, none, old, new, orders}
use Rattle.rings.proofs.Probe.{there_and_back_clear, outward-front}
use Rattle.rings.proofs.Injection.{RingAt, back-run, probe-states, probe-lost}

-- the way back counts on: with all labels of the way out crossed, the probe goes on from where they lead, after as many hops as they are
pub counts_on : (p : Plant) (w : List ℕ) (s : ℕ) (table : ℕ → Bool) (e : ℕ) (up : ℕ → Bool) (m : ℕ) → (m ≡ e → ⊥)
    → (run (in_all p) up (head p) s 0 (outward m (ring_of p w s))).ended ≡ true
    → probe_run p table w s e up m
    ≡ run (in_all p) up (head p) (leads_to (head p) s (outward m (ring_of p w s))) (length (outward m (ring_of p w s))) (back (outward m (ring_of p w s)))
counts_on p w s table e up m n t =
    back-run p w s table e up m n ∙ run_on_lem (in_all p) up (head p) (outward m (ring_of p w s)) (back (outward m (ring_of p w s))) s 0 t ∙ rw zero-add

-- ---- the first label whose link is down is of the first broken link of the order

first-lost : (up : ℕ → Bool) {seen w o : List ℕ} → Firsts seen w o → (k : ℕ) → k < length w → all up seen ≡ true
    → ((i : ℕ) → i < k → up (get_or w i 0 / 2) ≡ true) → up (get_or w k 0 / 2) ≡ false
    → (j : ℕ) × (j < length o) × (get_or o j 0 ≡ get_or w k 0 / 2) × ((i : ℕ) → i < j → up (get_or o i 0) ≡ true)
first-lost up none k h s before down = absurd (omega arith)
first-lost up (old {seen} {w} {o} {a} q r) zero h s before down = absurd (not_both (up (a / 2)) (all-at up seen s (a / 2) q) down)
first-lost up (old q r) (suc k) h s before down = first-lost up r k (omega arith) s (λ i g. before (suc i) (omega arith)) down
first-lost up (new n r) zero h s before down = (0, omega arith, refl, λ i g. absurd (omega arith))
first-lost up (new {seen} {w} {o} {a} n r) (suc k) h s before down =
    let u : up (a / 2) ≡ true = before 0 (omega arith) in
    let f = first-lost up r k (omega arith) (rw u s) (λ i g. before (suc i) (omega arith)) down in
    (suc f.0, omega (arith, f.1), f.2, earlier u f.0 f.3)
  where
    earlier : up (a / 2) ≡ true → (j : ℕ) → ((i : ℕ) → i < j → up (get_or o i 0) ≡ true) → (i : ℕ) → i < suc j → up (get_or ((a / 2) ∷ o) i 0) ≡ true
    earlier u j f zero g = u
    earlier u j f (suc i) g = f i (omega arith)

module _ (p : Plant) (w : List ℕ) (s m e : ℕ) where
  abbrev ring : List ℕ
  ring = ring_of p w s

  -- the way out of probe m over e links: for the full check, m = e, the whole ring
  abbrev way : List ℕ
  way = choose (eqb m e) ring (outward m ring)

  -- ---- the ring begins with the way out, and so does the probe

  way-ring : (u : List ℕ) × (way ++ u ≡ ring)
  way-ring = go (eqb m e)
    where
      go : (t : Bool) → (u : List ℕ) × (choose t ring (outward m ring) ++ u ≡ ring)
      go true = ([], append-nil ring)
      go false = outward-front m ring

  way-probe : (u : List ℕ) × (way ++ u ≡ probe_of p w s e m)
  unfolding probe_of probe
  way-probe = go (eqb m e) ring (outward m ring)
    where
      go : (t : Bool) (r o : List ℕ) → (u : List ℕ) × (choose t r o ++ u ≡ choose t r (o ++ back o))
      go true r o = ([], append-nil r)
      go false r o = (back o, refl)

  pub way-take : (n : ℕ) → n ≤ length way → take n (probe_of p w s e m) ≡ take n way
  way-take n h = ap (take n) (sym way-probe.1) ∙ take-append-le n way way-probe.0 h

  -- the same label stands in all three
  same : (i : ℕ) → i < length way → (get_or ring i 0 ≡ get_or way i 0) × (get_or (probe_of p w s e m) i 0 ≡ get_or way i 0)
  same i h = (
    sym (ap (λ (l : List ℕ). get_or l i 0) way-ring.1) ∙ get_or-append way way-ring.0 0 i h,
    sym (ap (λ (l : List ℕ). get_or l i 0) way-probe.1) ∙ get_or-append way way-probe.0 0 i h,
  )

  -- ---- where either label of a link is up if the link is, all labels of a probe are up if those of its way out are

  module _ (up : ℕ → Bool) where
    way_clear : all (by_link up) (probe_of p w s e m) ≡ all (by_link up) way
    unfolding probe_of probe
    way_clear = go (eqb m e) ring (outward m ring)
      where
        go : (t : Bool) (r o : List ℕ) → all (by_link up) (choose t r (o ++ back o)) ≡ all (by_link up) (choose t r o)
        go true r o = refl
        go false r o = there_and_back_clear up o

    -- ---- a probe that is lost, where the table has a rule for each arc of the walk

    module _ (at : RingAt p w s) (table : ℕ → Bool) (in_table : (a : ℕ) → In a w → T (table a)) (f : (probe_run p table w s e (by_link up) m).ended ≡ false) where
      abbrev hops : ℕ
      hops = (probe_run p table w s e (by_link up) m).hops

      stopped : ((i : ℕ) → i < hops → up (get_or (probe_of p w s e m) i 0 / 2) ≡ true) × (up (get_or (probe_of p w s e m) hops 0 / 2) ≡ false)
      stopped = probe-lost p w s at e table in_table (by_link up) m f

      -- it is lost on its way out: else all labels of that are up, and so all of its labels
      pub lost_out : hops < length way
      lost_out = go (below? hops (length way))
        where
          front : take (length way) (probe_of p w s e m) ≡ way
          front = way-take (length way) (omega arith) ∙ take_all (length way) way (omega arith)

          go : (hops < length way) ⊎ (length way ≤ hops) → hops < length way
          go (inl h) = h
          go (inr h) =
              let fits : length way ≤ length (probe_of p w s e m) = omega (arith, ap length way-probe.1, length-append way way-probe.0) in
              let clear = sym (ap (all (by_link up)) front) ∙ (all_take (by_link up) (probe_of p w s e m) (length way) fits).1 (λ i k. stopped.0 i (omega arith)) in
              absurd (not_both _ (probe-states p w s at e table in_table (by_link up) m ∙ way_clear ∙ clear) f)

      -- the label that it did not cross is of the first broken link of the order
      pub lost_broken : (k : ℕ) × FirstDown up (order_of p w s) k × (nth (order_of p w s) k ≡ get_or way hops 0 / 2)
      unfolding order_of order
      lost_broken =
          let long = ap length way-ring.1 in
          let g = same hops lost_out in
          let d = first-lost up (orders [] ring) hops (omega (arith, length-append way way-ring.0, long, lost_out)) refl
          (λ i k. let b = same i (omega (arith, lost_out)) in ap (λ (a : ℕ). up (a / 2)) (b.0 ∙ sym b.1) ∙ stopped.0 i k)
          (ap (λ (a : ℕ). up (a / 2)) (g.0 ∙ sym g.1) ∙ stopped.1)
          in
          let one : suc d.0 - 1 ≡ d.0 = omega arith in
          let link : get_or (firsts [] ring) d.0 0 ≡ get_or way hops 0 / 2 = d.2 ∙ ap (λ (a : ℕ). a / 2) g.0 in (
            suc d.0,
            record {
              from_one = omega arith;
              to_last = omega (arith, d.1);
              down = rw (one, link) (ap (λ (a : ℕ). up (a / 2)) (sym g.1) ∙ stopped.1);
              before = λ j a b. d.3 (j - 1) (omega arith);
            },
            rw one link,
          )
