-- There are places enough for the rules, and the table of the arcs in use is the plant's.
use Rattle.std.proofs.Common.{◌∙◌}
use Rattle.planning.proofs.Counted.{places-enough, table_is}
use Rattle.planning.proofs.table_of.Goals as goal

pub table_of-requires-clause-used_bound : goal.table_of-requires-clause-used_bound
table_of-requires-clause-used_bound c = (places-enough c.args.x.now).1

pub returns : goal.returns
returns c = c.table_of.ensures ∙ table_is c.args.x.now
