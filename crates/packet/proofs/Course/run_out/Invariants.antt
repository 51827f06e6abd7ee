-- A run: the packet is not lost, and is where the labels before the next have brought it.
use Rattle.std.proofs.Common.{◌≡◌, true, take}
use Rattle.packet.specs.Runs.{end_of, goes_by}
use Rattle.packet.proofs.Course.run_out.Given as goal

abbrev pub invariant-loop-a : goal.invariant-loop-a
invariant-loop-a g l = record {
  going : l.at.ended ≡ true;
  came : end_of l.at ≡ goes_by g.row.N l.self.plant.now l.self.rules.now l.self.states.now (end_of l.initial.at) (take l.a-index l.labels);
}
