-- The place of the first broken link of an order as a number: it says what `FirstDown` says, and is past the last exactly if all links are up. Assumes nothing.
use mathlib.Core.Path.{◌≡◌, sym, ap, ◌∙◌}
use mathlib.Core.Logic.{◌⊎◌, inl, inr, ◌↔◌}
use mathlib.Core.Bool.{Bool, true, false, not}
use mathlib.Core.List.{List}
use Prim.Native.Nat.{ℕ, suc, ◌+◌, ◌-◌, ◌≤◌, ◌<◌}
use native.Mathlib.Omega.{arith}
use lib.Dec.{ltb}
use lib.ListN.{length, get_or, take}
use borrow.Author.Tests.{lt-ltb, ltb-true, ltb-false, not-true, not-false}
use Rattle.lists.proofs.Tests.{bool?, T_true, true_T, not_both, not_true_false, same_test}
use Rattle.lists.specs.Members.{In, all}
use Rattle.lists.proofs.Members.{get_d_in, in_get_d}
use Rattle.lists.specs.Least.{least}
use Rattle.lists.proofs.Least.{least-top, least_passes, least_first}
use Rattle.lists.proofs.Parts.{all_take}
use Rattle.rings.specs.FirstDown.{FirstDown}

module _ (up : ℕ → Bool) (ls : List ℕ) where
  -- the place of the first link that is down, from 1; one more than there are links if all are up
  unfoldable pub first_down : ℕ
  first_down = suc (least (length ls) (λ i. not (up (get_or ls i 0))))

  pub first_one : 1 ≤ first_down
  unfolding first_down
  first_one = omega arith

  pub first-most : first_down ≤ length ls + 1
  unfolding first_down
  first-most = omega (arith, least-top (length ls) (λ i. not (up (get_or ls i 0))))

  -- by places from 0
  at_first : first_down ≤ length ls → up (get_or ls (first_down - 1) 0) ≡ false
  unfolding first_down
  at_first h =
      let n = least (length ls) (λ i. not (up (get_or ls i 0))) in
      let e : suc n - 1 ≡ n = omega arith in
      rw e (not-true (up (get_or ls n 0)) (T_true (not (up (get_or ls n 0))) (least_passes (length ls) (λ i. not (up (get_or ls i 0))) (omega arith))))

  before-first : (i : ℕ) → suc i < first_down → up (get_or ls i 0) ≡ true
  unfolding first_down
  before-first i h =
      let t = up (get_or ls i 0) in
      not-false t (not_true_false (not t) (λ e. least_first (length ls) (λ j. not (up (get_or ls j 0))) i (omega arith) (true_T (not t) e)))

  -- the first m are up exactly if the first that is down comes later
  pub first-take : (m : ℕ) → m ≤ length ls → all up (take m ls) ≡ ltb m first_down
  first-take m h =
      same_test (all up (take m ls)) (ltb m first_down) (λ e. lt-ltb m first_down (later ((all_take up ls m h).0 e) (bool? (ltb m first_down))))
      (λ e. let k = ltb-true m first_down e in (all_take up ls m h).1 (λ i j. before-first i (omega arith)))
    where
      later : ((i : ℕ) → i < m → up (get_or ls i 0) ≡ true) → (ltb m first_down ≡ true) ⊎ (ltb m first_down ≡ false) → m < first_down
      later f (inl e) = ltb-true m first_down e
      later f (inr e) =
          let k = ltb-false m first_down e in
          absurd (not_both (up (get_or ls (first_down - 1) 0)) (f (first_down - 1) (omega (arith, first_one))) (at_first (omega arith)))

  -- where a link is down, the number tells the first one
  pub first_some : first_down ≤ length ls → FirstDown up ls first_down
  first_some h = record {
    from_one = first_one;
    to_last = h;
    down = at_first h;
    before = λ j a b. before-first (j - 1) (omega arith);
  }

  -- it is past the last exactly if all are up
  pub first-none : (first_down ≡ length ls + 1) ↔ ((l : ℕ) → In l ls → up l ≡ true)
  first-none = (λ e l h. up_at e l (in_get_d ls l h), λ f. past ((all_take up ls (length ls) (omega arith)).1 (λ i h. f (get_or ls i 0) (get_d_in ls i h))))
    where
      past : all up (take (length ls) ls) ≡ true → first_down ≡ length ls + 1
      past e = omega (arith, first-most, ltb-true (length ls) first_down (sym (first-take (length ls) (omega arith)) ∙ e))

      up_at : first_down ≡ length ls + 1 → (l : ℕ) → (i : ℕ) × (i < length ls) × (get_or ls i 0 ≡ l) → up l ≡ true
      up_at e l r = ap up (sym r.2) ∙ before-first r.0 (omega (arith, r.1))
