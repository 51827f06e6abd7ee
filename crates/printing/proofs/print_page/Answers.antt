-- A trail is never longer than the longest.
use Rattle.std.proofs.Common.{arith}
use Rattle.plan.proofs.Trails.{hops-limit}
use Rattle.printing.proofs.print_page.Goals as goal

pub print_plan-requires-else-from-le-SHORT-clause-hops_bound :
    goal.print_plan-requires-else-from-le-SHORT-clause-hops_bound
print_plan-requires-else-from-le-SHORT-clause-hops_bound g c = (omega (arith, hops-limit _ c.args.x.now.layout.chart.ends.sound), omega arith)
