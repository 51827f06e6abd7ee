-- No components, by the definition.
use Rattle.std.proofs.Common.{refl}
use Rattle.planning.specs.Components.{components_with}
use Rattle.planning.proofs.Components.none.Goals as goal

pub returns : goal.returns
unfolding components_with
returns c = refl
