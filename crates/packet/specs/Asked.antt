-- Inner: what the functions of this crate ask of their callers, and the labels that inner functions go over. No promise of a call needs it.
use Rattle.std.specs.Prelude.{◌≡◌, Bool, true, List, ◌++◌, ℕ, ◌*◌, ◌≤◌, eqb, length}
use Rattle.lists.specs.Tests.{choose}
use Rattle.lists.specs.Arrays.{flag}
use Rattle.plant.specs.declared.Plant.{Plant}
use Rattle.walks.specs.Arcs.{Arc}
use Rattle.rings.specs.Probe.{back}

-- ---- what is asked

-- rules as flags: they are for arcs of the plant alone
abbrev pub ForArcs : Plant → List Bool → Type 0
ForArcs p rules = (a : ℕ) → flag rules a ≡ true → Arc p a

-- of a run by a state byte for each n labels, one or the two of a link: rules for arcs of the plant, and so many bytes
pub record CanRunBy (n : ℕ) (p : Plant) (rules : List Bool) (states : List ℕ) : Type 0 where
  pub arcs : ForArcs p rules
  pub bytes : choose (eqb n 1) (2 * p.count) p.count ≤ length states

-- of a run by a state byte for each link
abbrev pub CanRun : Plant → List Bool → List ℕ → Type 0
CanRun p rules states = CanRunBy 2 p rules states

-- out over two stretches, and back over them
abbrev pub out_and_back : List ℕ → List ℕ → List ℕ
out_and_back x y = (x ++ y) ++ (back y ++ back x)
