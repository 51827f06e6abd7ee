-- Inner: an arc that is taken, by what the code reads of a visit. No promise of a call needs it.
use Rattle.std.specs.Prelude.{Bool, ◌&&◌, ◌||◌, ℕ, ◌/◌, ltb}
use Rattle.lists.specs.Arrays.{flag, at}
use Rattle.lists.specs.Tests.{choose}
use Rattle.plant.specs.declared.Plant.{Plant}
use Rattle.plant.specs.Links.{first, live}
use Rattle.walks.specs.Arcs.{tail, head}
use Rattle.arcs.specs.declared.Visited.{Visited}

-- is an arc taken whose link has two or not, and is entered or not, and whose tail and head have these numbers in the visit?
unfoldable pub is_taken : Bool → Bool → ℕ → ℕ → Bool
is_taken two entered tail head = two || choose entered (ltb tail head) (ltb head tail)

-- is arc a taken by what v tells? Its link is in service and at a switch that is seen
unfoldable pub taken_by : Plant → Visited → (ℕ → Bool) → ℕ → Bool
taken_by p v two a =
    live p (a / 2) && (flag v.seen (first p (a / 2)) && is_taken (two (a / 2)) (flag v.entered (a / 2)) (at v.rank (tail p a)) (at v.rank (head p a)))
