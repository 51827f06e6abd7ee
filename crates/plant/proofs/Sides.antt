-- The one end of a link or the other, by a number that is 0 or not. Assumes nothing.
use mathlib.Core.Path.{◌≡◌, refl}
use Prim.Native.Nat.{ℕ, zero, suc}
use native.Mathlib.Omega.{arith}
use Rattle.plant.specs.Links.{side}

pub side_even : (k x y : ℕ) → k ≡ 0 → x ≡ side k x y
side_even zero x y e = refl
side_even (suc k) x y e = absurd (omega arith)

pub side_odd : (k x y : ℕ) → (k ≡ 0 → ⊥) → y ≡ side k x y
side_odd zero x y f = absurd (f refl)
side_odd (suc k) x y f = refl
