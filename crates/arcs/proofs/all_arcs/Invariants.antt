-- The flags of the labels below a are laid.
use Rattle.std.proofs.Common.{false, ◌*◌, ◌/◌}
use Rattle.lists.proofs.Laid.{Laid}
use Rattle.plant.specs.Links.{live}
use Rattle.limits.specs.Limits.{max_links}
use Rattle.arcs.proofs.all_arcs.Given as goal

abbrev pub invariant-loop-a : goal.invariant-loop-a
invariant-loop-a l = Laid false (2 * max_links) (λ a. live l.p (a / 2)) l.a l.r
