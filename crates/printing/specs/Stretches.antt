-- Inner: the stretch that the trail of a component has among the labels of all trails, laid one after another. Assumes nothing.
use Rattle.std.specs.Prelude.{List, ℕ, ◌+◌, ◌≤◌, ◌<◌, length, get_or, take, drop}
use Rattle.planning.specs.declared.Component.{Component}
use Rattle.planning.specs.Components.{zero_component}

abbrev pub stretch_of : List ℕ → Component → List ℕ
stretch_of labels c = take c.hops (drop c.begin labels)

-- the labels have the stretch of each component
pub record Stretches (cs : List Component) (labels : List ℕ) : Type 0 where
  pub within : (i : ℕ) → i < length cs → (get_or cs i zero_component).begin + (get_or cs i zero_component).hops ≤ length labels
