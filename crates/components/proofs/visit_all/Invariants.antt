-- The components of the start and of the roots below x are found.
use Rattle.std.proofs.Common.{◌∷◌}
use Rattle.lists.specs.Numbers.{range, keep}
use Rattle.walks.specs.Components.{begun_at}
use Rattle.components.specs.Inner.{Covers}
use Rattle.components.proofs.visit_all.Given as goal

abbrev pub invariant-loop-x : goal.invariant-loop-x
invariant-loop-x l = Covers l.all.plant.now (l.all.plant.now.start ∷ keep (begun_at l.all.plant.now) (range 0 l.x)) l.f
