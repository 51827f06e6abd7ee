-- Arcs that are taken, by what the code reads of a visit; the arcs in use and the leading arcs among them. Assumes a sound plant where a law says so.
use mathlib.Core.Path.{◌≡◌, sym, ap, ◌∙◌}
use mathlib.Core.Logic.{◌⊎◌, inl, inr, ⊎_elim}
use mathlib.Core.Bool.{Bool, true, false}
use mathlib.Core.List.{List}
use Prim.Native.Nat.{ℕ, ◌+◌, ◌-◌, ◌*◌, ◌/◌, ◌≤◌, ◌<◌}
use native.Mathlib.Omega.{arith}
use lib.Dec.{T}
use lib.ListN.{get_or}
use Rattle.lists.specs.Arrays.{flag}
use Rattle.lists.specs.Count.{count}
use Rattle.lists.proofs.Tests.{T-or, T_true, true_T, not_true_false, and_comm}
use Rattle.lists.proofs.Members.{memb→in, in→memb}
use Rattle.lists.proofs.Stepwise.{count_past}
use Rattle.lists.proofs.Agree.{count_same}
use Rattle.plant.specs.declared.Plant.{Plant}
use Rattle.plant.specs.Links.{first, second, live}
use Rattle.limits.specs.Limits.{max_links}
use Rattle.limits.specs.Sound.{Sound}
use Rattle.walks.specs.Arcs.{tail, head, Arc, Valid}
use Rattle.walks.specs.Graph.{reached_from, visited_from, used_from, bridge}
use Rattle.walks.specs.Components.{root_of, used}
use Rattle.walks.specs.Inner.{taken_from, leading_from}
use Rattle.walks.proofs.Labels.{tail_even, tail_odd, head_even, head_odd, even_half, odd_half, even_arc, tail_in, ends}
use Rattle.walks.proofs.Visited.{visited_keeps}
use Rattle.walks.proofs.Components.{root_in, root_reaches, root-listed, used_arc}
use Rattle.walks.proofs.Valid.{sound_valid}
use Rattle.arcs.proofs.Past.{dead_past}
use Rattle.arcs.specs.declared.Visited.{Visited}
use Rattle.arcs.specs.Flags.{Flags, count_set}
use Rattle.arcs.specs.Shows.{Visits, Tells, TellsAll}
use Rattle.uses.specs.Inner.{is_taken, taken_by}

-- where the test fails from k on, as many flags are set as numbers below k pass
pub flags_count : (n : ℕ) (test : ℕ → Bool) (k : ℕ) (flags : List Bool) → Flags n test flags → k ≤ n → ((j : ℕ) → k ≤ j → test j ≡ false) → count_set flags ≡ count k test
unfolding count_set
flags_count n test k flags f h g =
    let e : n ≡ k + (n - k) = omega arith in
    ap (λ (m : ℕ). count m (λ i. get_or flags i false)) (f.places ∙ e) ∙ count_same (k + (n - k)) (λ i. get_or flags i false) test f.tells ∙ count_past test k (n - k) g

-- ---- what is not in service has no arc that is taken

from_dead : (p : Plant) (r : ℕ) (two : ℕ → Bool) (a : ℕ) → live p (a / 2) ≡ false → taken_from p r two a ≡ false
unfolding taken_from
from_dead p r two a e = rw e (and_comm (reached_from p r (tail p a)) false)

pub taken-past : (p : Plant) (r : ℕ) (two : ℕ → Bool) (a : ℕ) → 2 * p.count ≤ a → taken_from p r two a ≡ false
taken-past p r two a h = from_dead p r two a (dead_past p a h)

module _ (p : Plant) (v : Visited) (two : ℕ → Bool) where
  by_dead : (a : ℕ) → live p (a / 2) ≡ false → taken_by p v two a ≡ false
  unfolding taken_by
  by_dead a e = rw e

  pub by_past : (a : ℕ) → 2 * p.count ≤ a → taken_by p v two a ≡ false
  by_past a h = by_dead a (dead_past p a h)

  -- ---- the two arcs of link l, between x and y

  module _ (l : ℕ) where
    pub pair_dead : live p l ≡ false → (taken_by p v two (2 * l) ≡ false) × (taken_by p v two (2 * l + 1) ≡ false)
    pair_dead e = (by_dead (2 * l) (ap (live p) (even_half l) ∙ e), by_dead (2 * l + 1) (ap (live p) (odd_half l) ∙ e))

    module _ (part : live p l ≡ true) {x y : ℕ} (x_is : x ≡ first p l) (y_is : y ≡ second p l) where
      pub pair_unseen : flag v.seen x ≡ false → (taken_by p v two (2 * l) ≡ false) × (taken_by p v two (2 * l + 1) ≡ false)
      unfolding taken_by
      pair_unseen e = (rw (even_half l, part, sym x_is, e), rw (odd_half l, part, sym x_is, e))

      -- u and w are what the code finds of them
      pub pair_seen : flag v.seen x ≡ true
          → (u w : Bool) → u ≡ is_taken (two l) (flag v.entered l) (get_or v.rank x 0) (get_or v.rank y 0)
          → w ≡ is_taken (two l) (flag v.entered l) (get_or v.rank y 0) (get_or v.rank x 0)
          → (u ≡ taken_by p v two (2 * l)) × (w ≡ taken_by p v two (2 * l + 1))
      unfolding taken_by
      pair_seen e u w g h = (
        g ∙ rw (even_half l, part, sym x_is, e, tail_even p l ∙ sym x_is, head_even p l ∙ sym y_is),
        h ∙ rw (odd_half l, part, sym x_is, e, tail_odd p l ∙ sym y_is, head_odd p l ∙ sym x_is),
      )

-- ---- what is taken by a visit

T_false : (b : Bool) → (T b → ⊥) → b ≡ false
T_false b n = not_true_false b (λ e. n (true_T b e))

module _ {p : Plant} (sound : Sound p) where
  ok : Valid p
  ok = sound_valid p sound

  module _ {r : ℕ} (r_in : r < p.switches) where
    -- the head of an arc is reached, if its tail is, and so is the first end of its link
    along : (a : ℕ) → Arc p a → T (reached_from p r (tail p a)) → T (reached_from p r (head p a))
    along a h t = in→memb (head p a) (visited_from p r).ord (visited_keeps p ok r r_in a h (memb→in (tail p a) (visited_from p r).ord t))

    to_first : (a : ℕ) → Arc p a → T (reached_from p r (tail p a)) → T (reached_from p r (first p (a / 2)))
    to_first a h t = ⊎_elim (λ q. rw q.0 at t) (λ q. rw q.1 at (along a h t)) (ends p a)

    from_first : (a : ℕ) → Arc p a → T (reached_from p r (first p (a / 2))) → T (reached_from p r (tail p a))
    from_first a h t =
        ⊎_elim (λ q. rw q.0 t) (λ q. rw (q.0, sym (head_even p (a / 2))) (along (2 * (a / 2)) (even_arc p (a / 2) h) (rw (tail_even p (a / 2)) t))) (ends p a)

    -- an arc that leaves a reached switch is taken, or is not, as by the visit
    taken_is : {v : Visited} → Tells p r v → (two : ℕ → Bool) (a : ℕ) → Arc p a → T (reached_from p r (tail p a)) → taken_by p v two a ≡ taken_from p r two a
    unfolding taken_by taken_from is_taken
    taken_is tells two a h t =
        let i = to_first a h t in
        rw (
          T_true (live p (a / 2)) h,
          T_true (reached_from p r (tail p a)) t,
          tells.sees (first p (a / 2)) i,
          tells.enters (a / 2) i,
          tells.ranks (tail p a) t,
          tells.ranks (head p a) (along a h t),
        )

  -- by the visits of all components, with the bridges for those that have two, these are the arcs in use
  in_use-at : {v : Visited} → TellsAll p v → (a : ℕ) → T (live p (a / 2)) ⊎ (T (live p (a / 2)) → ⊥) → taken_by p v (bridge p) a ≡ used p a
  unfolding used used_from taken_from
  in_use-at all a (inl h) =
      let x_in = tail_in p ok a h in
      let r = root_of p (tail p a) in
      taken_is (root_in p ok sound.start_in (tail p a) x_in) (all r (root-listed p ok sound.start_in (tail p a) x_in)) (bridge p) a h
      (root_reaches p ok sound.start_in (tail p a) x_in)
  in_use-at {v} all a (inr n) =
      by_dead p v (bridge p) a (T_false (live p (a / 2)) n) ∙ sym (T_false (used p a) (λ t. n (used_arc p a t)))

  pub in_use : {v : Visited} → TellsAll p v → {b u : List Bool} → Flags max_links (bridge p) b → Flags (2 * max_links) (taken_by p v (flag b)) u → Flags (2 * max_links) (used p) u
  in_use {v} all {b} f g = record {
    places = g.places;
    tells = λ a. g.tells a ∙ ap (λ (two : ℕ → Bool). taken_by p v two a) (λ j l. f.tells l j) ∙ in_use-at all a (T-or (live p (a / 2)));
  }

  -- by one visit, where no link has two, these are the leading arcs: it tells of what is reached from its root, and sees nothing else
  visit-tells : {r : ℕ} {v : Visited} → Visits p r v → Tells p r v
  visit-tells {r} visits = record {
    sees = λ x t. visits.shows.sees x ∙ T_true (reached_from p r x) t;
    ranks = λ x t. visits.shows.ranks x;
    enters = λ l t. visits.shows.enters l;
  }

  leading_at : {r : ℕ} {v : Visited} → Visits p r v → (two : ℕ → Bool) (a : ℕ) → T (live p (a / 2)) ⊎ (T (live p (a / 2)) → ⊥)
      → T (reached_from p r (tail p a)) ⊎ (T (reached_from p r (tail p a)) → ⊥) → taken_by p v two a ≡ taken_from p r two a
  unfolding taken_by taken_from
  leading_at visits two a (inl h) (inl t) = taken_is visits.root_in (visit-tells visits) two a h t
  leading_at {r} visits two a (inl h) (inr n) =
      rw (
        T_true (live p (a / 2)) h,
        T_false (reached_from p r (tail p a)) n,
        visits.shows.sees (first p (a / 2)) ∙ T_false (reached_from p r (first p (a / 2))) (λ t. n (from_first visits.root_in a h t)),
      )
  leading_at {r} {v} visits two a (inr n) _ = by_dead p v two a (T_false (live p (a / 2)) n) ∙ sym (from_dead p r two a (T_false (live p (a / 2)) n))

  pub leading : {r : ℕ} {v : Visited} → Visits p r v → (b : List Bool) {u : List Bool} → ((l : ℕ) → flag b l ≡ false) → Flags (2 * max_links) (taken_by p v (flag b)) u
      → Flags (2 * max_links) (leading_from p r) u
  leading {r} {v} visits b none g = record {
    places = g.places;
    tells = λ a.
        g.tells a ∙ ap (λ (two : ℕ → Bool). taken_by p v two a) (λ j l. none l j)
        ∙ leading_at visits (λ l. false) a (T-or (live p (a / 2))) (T-or (reached_from p r (tail p a)));
  }
