-- The calls that are left lead from here to where all calls lead from the new search; each call so far counted one probe and one packet at most.
use Rattle.std.proofs.Common.{◌≡◌, ◌≤◌, drop}
use Rattle.search.specs.Calls.{perform, begun}
use Rattle.search.specs.Answers.{calls_in}
use Rattle.performing.proofs.perform.Given as goal

abbrev pub invariant-loop-b : goal.invariant-loop-b
invariant-loop-b l = record {
  few_probes : l.p.probes ≤ l.b-index;
  few_packets : l.p.packets ≤ l.b-index;
  same_end : perform l.p (calls_in (drop l.b-index l.calls)) ≡ perform (begun l.links) (calls_in l.calls);
}
