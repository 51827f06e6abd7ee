-- k is at most the allowance of the links; what is left to it falls.
use Rattle.std.proofs.Common.{◌-◌, ◌≤◌}
use Rattle.allowance.specs.Allowance.{allowance}
use Rattle.allowance.proofs.allowance.Given as goal

abbrev pub invariant-loop-k : goal.invariant-loop-k
invariant-loop-k l = l.k ≤ allowance l.links

abbrev pub decreases-loop-k : goal.decreases-loop-k
decreases-loop-k l = allowance l.links - l.k
