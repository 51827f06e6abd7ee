-- There are few enough of both, and the flags that are set are as many as the bridges and the arcs in use.
use Rattle.std.proofs.Common.{arith}
use Rattle.planning.proofs.Counted.{bridges-few, rules-few, numbers-are}
use Rattle.planning.proofs.numbers_of.Goals as goal

pub overflow_cast-result : goal.overflow_cast-result
overflow_cast-result c = omega (arith, c.count_set-bridges.ensures, bridges-few c.args.x.now.chart, c.count_set-rules.ensures, rules-few c.args.x.now.chart)

pub overflow_cast-result-2 : goal.overflow_cast-result-2
overflow_cast-result-2 c = omega (arith, c.count_set-bridges.ensures, bridges-few c.args.x.now.chart, c.count_set-rules.ensures, rules-few c.args.x.now.chart)

pub returns : goal.returns
returns c = numbers-are c.args.x.now _ _ _ c.links_in_service-links.ensures c.count_set-bridges.ensures c.count_set-rules.ensures
