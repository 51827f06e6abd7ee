-- A link that a visit entered is at a switch that it reached; the first end of every link is a switch. Assumes a sound plant, and a root that is a switch of it where a law has one.
use mathlib.Core.Path.{ap}
use mathlib.Core.Logic.{⊎_elim}
use Prim.Native.Nat.{ℕ, ◌+◌, ◌*◌, ◌<◌}
use native.Mathlib.Omega.{arith}
use lib.Dec.{T}
use Rattle.lists.proofs.Tests.{below?}
use Rattle.lists.proofs.Members.{in→memb}
use Rattle.plant.specs.declared.Link.{Link}
use Rattle.plant.specs.declared.Plant.{Plant}
use Rattle.plant.specs.Links.{first}
use Rattle.limits.specs.Sound.{Sound}
use Rattle.walks.specs.Graph.{visited_from, reached_from, entered_from}
use Rattle.walks.proofs.Labels.{tail_even, head_odd, crossed-is}
use Rattle.walks.proofs.Visited.{visited_good}
use Rattle.walks.proofs.Valid.{sound_valid}

module _ (p : Plant) (sound : Sound p) where
  pub first_in_is : (l : ℕ) → first p l < p.switches
  first_in_is l = ⊎_elim (sound.first_in_is l) (λ h. omega (arith, ap (λ (k : Link). k.first) (sound.zeros l h), sound.some_switch)) (below? l p.count)

  pub entered-first : (r l : ℕ) → r < p.switches → T (entered_from p r l) → T (reached_from p r (first p l))
  entered-first r l h t =
      let good = visited_good p (sound_valid p sound) r h in
      in→memb (first p l) (visited_from p r).ord
      (⊎_elim (λ i. rw (tail_even p l) at (good.low (2 * l) i)) (λ i. rw (head_odd p l) at (good.high (2 * l + 1) i)) ((crossed-is l (visited_from p r).ent).0 t))
