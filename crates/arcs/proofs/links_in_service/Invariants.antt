-- So many links below l are in service.
use Rattle.std.proofs.Common.{◌≡◌}
use Rattle.lists.specs.Count.{count}
use Rattle.plant.specs.Links.{live}
use Rattle.arcs.proofs.links_in_service.Given as goal

abbrev pub invariant-loop-l : goal.invariant-loop-l
invariant-loop-l l = l.e ≡ count l.l (live l.fn.p)
