-- A run back: the packet is not lost, and is where the way back over the labels passed, which are the last ones, has brought it.
use Rattle.std.proofs.Common.{◌≡◌, ◌++◌, true, List, ℕ}
use Rattle.rings.specs.Probe.{back}
use Rattle.packet.specs.Runs.{end_of, goes_by}
use Rattle.packet.proofs.Course.run_back.Given as goal

abbrev pub invariant-loop-a : goal.invariant-loop-a
invariant-loop-a g l = record {
  going : l.at.ended ≡ true;
  passed : List ℕ;
  parts : l.a-iterator.iter.rest.now ++ passed ≡ l.labels;
  came : end_of l.at ≡ goes_by g.row.N l.self.plant.now l.self.rules.now l.self.states.now (end_of l.initial.at) (back passed);
}
