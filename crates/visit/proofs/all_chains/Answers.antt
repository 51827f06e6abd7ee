-- The tails of the plant's arcs are switches that there can be, and its arcs are the flagged ones.
use Rattle.visit.proofs.Whole.{tails_in, all-chained}
use Rattle.visit.proofs.all_chains.Goals as goal

pub chains_of-requires-clause-tails_in : goal.chains_of-requires-clause-tails_in
chains_of-requires-clause-tails_in c = tails_in _ c.requires.sound c.args.tails.now c.requires.tails_value c.all_arcs.ensures

pub returns : goal.returns
returns c = all-chained _ c.requires.sound c.args.tails.now c.requires.tails_value c.all_arcs.ensures c.chains_of.ensures
