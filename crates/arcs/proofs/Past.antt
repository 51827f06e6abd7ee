-- Labels past the links of a plant: their arcs are zero at both ends, and take no part. Assumes a sound plant where a law says so.
use mathlib.Core.Path.{◌≡◌, refl, ap, ◌∙◌}
use mathlib.Core.Bool.{false}
use Prim.Native.Nat.{ℕ, zero, suc, ◌*◌, ◌/◌, ◌%◌, ◌≤◌}
use native.Mathlib.Omega.{arith}
use Rattle.plant.specs.declared.Link.{Link}
use Rattle.plant.specs.declared.Plant.{Plant}
use Rattle.plant.specs.Links.{side, live}
use Rattle.limits.specs.Sound.{Sound}
use Rattle.walks.specs.Arcs.{tail, head}
use Rattle.walks.specs.Graph.{bridge}
use Rattle.walks.proofs.Live as links

side_same : (k x : ℕ) → side k x x ≡ x
side_same zero x = refl
side_same (suc k) x = refl

module _ (p : Plant) (a : ℕ) (past : 2 * p.count ≤ a) where
  pub dead_past : live p (a / 2) ≡ false
  dead_past = links.dead_past p (a / 2) (omega arith)

  module _ (sound : Sound p) where
    pub tail-past : tail p a ≡ 0
    unfolding tail
    tail-past = ap (λ (k : Link). side (a % 2) k.first k.second) (sound.zeros (a / 2) (omega arith)) ∙ side_same (a % 2) 0

    pub head-past : head p a ≡ 0
    unfolding head
    head-past = ap (λ (k : Link). side (a % 2) k.second k.first) (sound.zeros (a / 2) (omega arith)) ∙ side_same (a % 2) 0

-- a link past them is no bridge
pub bridge-past : (p : Plant) (l : ℕ) → p.count ≤ l → bridge p l ≡ false
unfolding bridge
bridge-past p l h = rw (links.dead_past p l h)
