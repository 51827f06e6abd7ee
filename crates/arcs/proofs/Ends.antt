-- The ends of links and arcs, read from the arrays of tails and heads. Assumes a sound plant where they are said to be switches that there can be.
use mathlib.Core.Path.{◌≡◌, ap, ◌∙◌}
use mathlib.Core.Logic.{⊎_elim}
use mathlib.Core.List.{List}
use Prim.Native.Nat.{ℕ, zero, suc, ◌*◌, ◌/◌, ◌%◌, ◌<◌}
use native.Mathlib.Omega.{arith}
use Rattle.lists.specs.Arrays.{at}
use Rattle.lists.proofs.Tests.{below?}
use Rattle.plant.specs.declared.Plant.{Plant}
use Rattle.plant.specs.Links.{side, first, second}
use Rattle.limits.specs.Limits.{max_switches}
use Rattle.limits.specs.Sound.{Sound}
use Rattle.walks.specs.Arcs.{tail, head}
use Rattle.walks.proofs.Labels.{tail_even, head_even}
use Rattle.arcs.proofs.Past.{tail-past, head-past}

-- the ends of each link of the listing are switches, out of service or not
side_in : (k x y n : ℕ) → x < n → y < n → side k x y < n
side_in zero x y n h i = h
side_in (suc k) x y n h i = i

module _ (p : Plant) (sound : Sound p) (a : ℕ) (h : a < 2 * p.count) where
  tail-listed : tail p a < p.switches
  unfolding tail
  tail-listed = side_in (a % 2) (first p (a / 2)) (second p (a / 2)) p.switches (sound.first_in_is (a / 2) (omega arith)) (sound.second_in (a / 2) (omega arith))

  head-listed : head p a < p.switches
  unfolding head
  head-listed = side_in (a % 2) (second p (a / 2)) (first p (a / 2)) p.switches (sound.second_in (a / 2) (omega arith)) (sound.first_in_is (a / 2) (omega arith))

module _ (p : Plant) (xs : List ℕ) where
  module _ (e : at xs ≡ tail p) where
    -- the tail of the first arc of link l is its first end
    pub first_end : (l : ℕ) → at xs (2 * l) ≡ first p l
    first_end l = ap (λ (f : ℕ → ℕ). f (2 * l)) e ∙ tail_even p l

    pub tail-place : Sound p → (a : ℕ) → at xs a < max_switches
    tail-place sound a =
        ⊎_elim (λ h. omega (arith, ap (λ (f : ℕ → ℕ). f a) e, sound.few_switches, tail-listed p sound a h))
        (λ h. omega (arith, ap (λ (f : ℕ → ℕ). f a) e, tail-past p a h sound)) (below? a (2 * p.count))

  module _ (e : at xs ≡ head p) where
    -- its head is the second
    pub second_end : (l : ℕ) → at xs (2 * l) ≡ second p l
    second_end l = ap (λ (f : ℕ → ℕ). f (2 * l)) e ∙ head_even p l

    pub head-place : Sound p → (a : ℕ) → at xs a < max_switches
    head-place sound a =
        ⊎_elim (λ h. omega (arith, ap (λ (f : ℕ → ℕ). f a) e, sound.few_switches, head-listed p sound a h))
        (λ h. omega (arith, ap (λ (f : ℕ → ℕ). f a) e, head-past p a h sound)) (below? a (2 * p.count))
