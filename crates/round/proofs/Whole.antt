-- The round trail of a plant from a root, by arrays that tell the visit, the leading arcs and their chains: hop by hop it is the definition's. Assumes a sound plant and a
-- visit of it.
use mathlib.Core.Path.{◌≡◌, refl, sym, ap, ap₂, ◌∙◌, subst}
use mathlib.Core.Logic.{◌⊎◌, inl, inr, ⊎_elim}
use mathlib.Core.Bool.{Bool, true, false, ◌&&◌}
use mathlib.Core.List.{List}
use Prim.Native.Nat.{ℕ, suc, ◌+◌, ◌-◌, ◌*◌, ◌/◌, ◌≤◌, ◌<◌}
use native.Mathlib.Omega.{arith}
use lib.Dec.{T, eqb, ltb}
use lib.ListN.{length}
use Rattle.lists.specs.Tests.{choose}
use Rattle.lists.specs.Arrays.{flag, at}
use Rattle.lists.specs.Count.{bit}
use Rattle.lists.specs.Least.{least_from}
use Rattle.lists.proofs.Tests.{T-or, T_true, true_T, not_true_false, and_left, and_right, and_both}
use Rattle.lists.proofs.Count.{bit_true, bit_false, count-all, count_none, pairs, counts_le}
use Rattle.lists.proofs.Members.{memb→in, in→memb}
use Rattle.plant.specs.declared.Plant.{Plant}
use Rattle.plant.specs.Links.{first, live}
use Rattle.limits.specs.Limits.{max_switches, max_links}
use Rattle.limits.specs.Sound.{Sound}
use Rattle.walks.specs.Arcs.{opposite, tail, head, Arc, Valid}
use Rattle.walks.specs.Graph.{reached_from, entered_from, visited_from, links_from}
use Rattle.walks.specs.Inner.{taken_from, leading_from, next_at, Turns}
use Rattle.walks.specs.Round.{round_from}
use Rattle.walks.proofs.Labels.{even_half, odd_half, opposite_even, opposite_twice, tail_even, head_odd, head-opposite, arc_below, even_arc}
use Rattle.walks.proofs.Valid.{sound_valid}
use Rattle.walks.proofs.Visited.{visited_keeps}
use Rattle.walks.proofs.Round.{leading_one, leading_pair, round_next, round-length}
use Rattle.arcs.specs.declared.Visited.{Visited}
use Rattle.arcs.specs.Chains.{Chained, TailsIn, following}
use Rattle.arcs.specs.Flags.{Flags, count_set}
use Rattle.arcs.specs.Net.{Ends}
use Rattle.arcs.specs.Shows.{Visits}
use Rattle.arcs.proofs.Ends.{tail-place, head-place}
use Rattle.uses.proofs.Uses.{flags_count, taken-past}
use Rattle.round.specs.Round.{follow, labels_of}
use Rattle.round.specs.Inner.{or_back, HeadsIn, enters_by, EntersOnce, WaysBack, hop_after, HopsAfter}
use Rattle.round.proofs.Follow.{follow-walk}
use Rattle.round.proofs.Turning.{opposite-below}

-- a function that is a path between functions, at one number
at_one : {A : Type 0} {f g : ℕ → A} → f ≡ g → (a : ℕ) → f a ≡ g a
at_one e a = ap (λ h. h a) e

module _ (p : Plant) (sound : Sound p) (tails heads : List ℕ) (ends : Ends p tails heads) where
  pub heads_in : HeadsIn heads
  heads_in = head-place p heads ends.heads_are sound

  -- the flags of leading arcs, from the visit v
  module _ (v : Visited) (visits : Visits p v.root v) (leading : List Bool) (flags : Flags (2 * max_links) (leading_from p v.root) leading) where
    abbrev r : ℕ
    r = v.root

    abbrev n : ℕ
    n = 2 * p.count

    ok : Valid p
    ok = sound_valid p sound

    -- ---- what the arrays tell

    leading_is : flag leading ≡ leading_from p r
    leading_is = λ j a. flags.tells a j

    entered-is : flag v.entered ≡ entered_from p r
    entered-is = λ j l. visits.shows.enters l j

    -- a leading arc is an arc that leaves a reached switch
    reached : (a : ℕ) → T (leading_from p r a) → T (reached_from p r (tail p a))
    unfolding taken_from
    reached a t = and_left (reached_from p r (tail p a)) _ t

    real : (a : ℕ) → T (leading_from p r a) → Arc p a
    unfolding taken_from
    real a t = and_left (live p (a / 2)) _ (and_right (reached_from p r (tail p a)) _ t)

    pub tails_in : TailsIn n tails leading
    tails_in a h t = tail-place p tails ends.tails_are sound a

    entering : (a : ℕ) → T (enters_by n heads leading v.entered a) → T (leading_from p r a) × T (entered_from p r (a / 2))
    entering a t = (
      subst T (at_one leading_is a) (and_left (flag leading a) (flag v.entered (a / 2)) t),
      subst T (at_one entered-is (a / 2)) (and_right (flag leading a) (flag v.entered (a / 2)) t),
    )

    pub enters-once : EntersOnce n heads leading v.entered
    enters-once = record {
      heads_in = heads_in;
      once = λ a b s t e. let x = entering a s in let y = entering b t in leading_one p ok r visits.root_in a b x.0 y.0 x.1 y.1 (sym (at_one ends.heads_are a) ∙ e ∙ at_one ends.heads_are b);
    }

    -- ---- the number of hops

    -- the leading arcs of a link: one if its first end is reached, else none
    one-leads : (l : ℕ) → bit (leading_from p r (2 * l)) + bit (leading_from p r (2 * l + 1)) ≡ bit (reached_from p r (first p l) && live p l)
    one-leads l = go (T-or (reached_from p r (first p l) && live p l))
      where
        link : (a : ℕ) → a / 2 ≡ l → T (leading_from p r a) → T (live p l)
        link a e t = subst (λ (k : ℕ). T (live p k)) e (real a t)

        one : (T (leading_from p r (2 * l)) × (T (leading_from p r (2 * l + 1)) → ⊥)) ⊎ ((T (leading_from p r (2 * l)) → ⊥) × T (leading_from p r (2 * l + 1)))
            → bit (leading_from p r (2 * l)) + bit (leading_from p r (2 * l + 1)) ≡ 1
        one (inl x) = omega (arith, bit_true (leading_from p r (2 * l)) x.0, bit_false (leading_from p r (2 * l + 1)) x.1)
        one (inr x) = omega (arith, bit_false (leading_from p r (2 * l)) x.0, bit_true (leading_from p r (2 * l + 1)) x.1)

        odd : T (leading_from p r (2 * l + 1)) → T (reached_from p r (first p l))
        odd t =
            let i = memb→in (tail p (2 * l + 1)) (visited_from p r).ord (reached (2 * l + 1) t) in
            in→memb (first p l) (visited_from p r).ord (rw (head_odd p l) at (visited_keeps p ok r visits.root_in (2 * l + 1) (real (2 * l + 1) t) i))

        go : T (reached_from p r (first p l) && live p l) ⊎ (T (reached_from p r (first p l) && live p l) → ⊥)
            → bit (leading_from p r (2 * l)) + bit (leading_from p r (2 * l + 1)) ≡ bit (reached_from p r (first p l) && live p l)
        go (inl t) =
            let pair = leading_pair p ok r visits.root_in (2 * l) (even_arc p l (and_right (reached_from p r (first p l)) (live p l) t)) (rw (tail_even p l) (and_left (reached_from p r (first p l)) (live p l) t)) in
            omega (arith, one (rw (opposite_even l) at pair), bit_true (reached_from p r (first p l) && live p l) t)
        go (inr f) =
            omega (
              arith,
              bit_false (reached_from p r (first p l) && live p l) f,
              bit_false (leading_from p r (2 * l)) (λ t. f (and_both (reached_from p r (first p l)) (live p l) (rw (tail_even p l) at (reached (2 * l) t)) (link (2 * l) (even_half l) t))),
              bit_false (leading_from p r (2 * l + 1)) (λ t. f (and_both (reached_from p r (first p l)) (live p l) (odd t) (link (2 * l + 1) (odd_half l) t))),
            )

    pub leading_count : count_set leading ≡ links_from p r
    unfolding links_from
    leading_count =
        let f : ℕ → Bool = λ l. reached_from p r (first p l) && live p l in
        let none : ℕ → Bool = λ l. false in
        flags_count (2 * max_links) (leading_from p r) n leading flags (omega (arith, sound.few_links)) (taken-past p r (λ l. false))
        ∙ omega (
          arith,
          pairs p.count (leading_from p r),
          counts_le p.count (λ l. leading_from p r (2 * l)) (λ l. leading_from p r (2 * l + 1)) f none (λ l h. omega (arith, one-leads l)),
          counts_le p.count f none (λ l. leading_from p r (2 * l)) (λ l. leading_from p r (2 * l + 1)) (λ l h. omega (arith, one-leads l)),
          count_none p.count none (λ l h t. t),
        )

    pub hops-few : count_set leading ≤ max_links
    unfolding links_from
    hops-few = omega (arith, leading_count, count-all p.count (λ l. reached_from p r (first p l) && live p l), sound.few_links)

    -- ---- hop by hop

    module _ (first after up next : List ℕ) (chained : Chained n (at tails) (flag leading) first after) (ways : WaysBack n heads leading v.entered up)
        (hops : HopsAfter n heads leading v.entered first after up next)
      where
        -- the next leading arc at x from label k on, or the way back
        next-is : (x k : ℕ) → or_back n (following n (at tails) (flag leading) x k) (at up x) ≡ next_at p r (at up) x k
        unfolding or_back following next_at
        next-is x k =
            ap₂ (λ (t : ℕ → ℕ) (f : ℕ → Bool). choose (ltb (least_from (n - k) k (λ a. f a && eqb (t a) x)) n) (least_from (n - k) k (λ a. f a && eqb (t a) x)) (at up x)) ends.tails_are leading_is

        first-is : (x : ℕ) → x < max_switches → or_back n (at first x) (at up x) ≡ next_at p r (at up) x 0
        first-is x h = ap (λ (k : ℕ). or_back n k (at up x)) (chained.firsts x h) ∙ next-is x 0

        module _ (a : ℕ) (t : T (leading_from p r a)) where
          below : a < n
          below = arc_below p a (real a t)

          flagged : flag leading a ≡ true
          flagged = at_one leading_is a ∙ T_true (leading_from p r a) t

          head_in : head p a < max_switches
          head_in = subst (λ (x : ℕ). x < max_switches) (at_one ends.heads_are a) (heads_in a)

          module _ (e : T (entered_from p r (a / 2))) where
            entered : flag v.entered (a / 2) ≡ true
            entered = at_one entered-is (a / 2) ∙ T_true (entered_from p r (a / 2)) e

            up_is : at up (head p a) ≡ opposite a
            up_is =
                ap (at up) (sym (at_one ends.heads_are a))
                ∙ ways a below (and_both (flag leading a) (flag v.entered (a / 2)) (true_T (flag leading a) flagged) (true_T (flag v.entered (a / 2)) entered))

            enters : at next a ≡ next_at p r (at up) (head p a) 0
            unfolding hop_after
            enters = hops a below ∙ rw (flagged, entered) (rw (at_one ends.heads_are a) (first-is (head p a) head_in))

          turns : (T (entered_from p r (a / 2)) → ⊥) → at next a ≡ opposite a
          unfolding hop_after
          turns f =
              let e : flag v.entered (a / 2) ≡ false = at_one entered-is (a / 2) ∙ not_true_false (entered_from p r (a / 2)) (λ q. f (true_T (entered_from p r (a / 2)) q)) in
              hops a below ∙ rw (flagged, e) refl

          -- the opposite arc does not lead
          other : flag leading (opposite a) ≡ false
          other =
              at_one leading_is (opposite a)
              ∙ not_true_false (leading_from p r (opposite a)) (λ q. ⊎_elim (λ x. x.1 (true_T (leading_from p r (opposite a)) q)) (λ x. x.0 t) (leading_pair p ok r visits.root_in a (real a t) (reached a t)))

          resumes : at next (opposite a) ≡ next_at p r (at up) (tail p a) (suc a)
          unfolding hop_after
          resumes =
              hops (opposite a) (opposite-below a p.count below)
              ∙ rw (other, opposite_twice a)
              (rw (at_one ends.heads_are (opposite a) ∙ head-opposite p a)
              (ap (λ (k : ℕ). or_back n k (at up (tail p a))) (chained.afters a below (true_T (flag leading a) flagged) ∙ ap (λ (x : ℕ). following n (at tails) (flag leading) x (suc a)) (at_one ends.tails_are a))
              ∙ next-is (tail p a) (suc a)))

        turning : Turns p r (at up) (at next)
        turning = record { ups = up_is; enters = enters; turns = turns; resumes = resumes }

        pub whole : (m b : ℕ) → m ≡ 2 * count_set leading → b ≡ or_back n (at first r) (at up r) → labels_of (record { hops = m; begin = b; next = next }) ≡ round_from p r
        unfolding labels_of
        whole m b f e =
            let from : b ≡ next_at p r (at up) r 0 = e ∙ first-is r (omega (arith, visits.root_in, sound.few_switches)) in
            let long : m ≡ length (round_from p r) = omega (arith, leading_count, round-length p ok r visits.root_in) in
            ap₂ (follow (at next)) from long ∙ follow-walk (at next) (round_from p r) (next_at p r (at up) r 0) (at up r) (round_next p ok r visits.root_in (at up) (at next) turning)
