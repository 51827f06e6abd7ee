-- The ways back of the arcs below a are laid.
use Rattle.round.proofs.Turning.{Back}
use Rattle.round.proofs.ways_back.Given as goal

abbrev pub invariant-loop-a : goal.invariant-loop-a
invariant-loop-a l = Back l.t.labels l.t.heads l.t.leading l.t.entered l.a l.up
