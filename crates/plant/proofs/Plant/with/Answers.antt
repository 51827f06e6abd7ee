-- The plant of so many switches and links: by its definition.
use Rattle.std.proofs.Common.{rules}
use Rattle.plant.specs.Links.{zero_link, plant_with}
use Rattle.plant.proofs.Plant.with.Goals as goal

pub returns : goal.returns
unfolding plant_with
returns c = simp c.zero-zero.ensures
