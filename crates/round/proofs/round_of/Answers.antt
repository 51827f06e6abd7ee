-- The arrays tell the hop after each hop.
use Rattle.std.proofs.Common.{arith}
use Rattle.round.proofs.Whole.{heads_in, tails_in, enters-once, hops-few, whole}
use Rattle.round.proofs.round_of.Goals as goal

pub chains_of-chains-requires-clause-tails_in : goal.chains_of-chains-requires-clause-tails_in
chains_of-chains-requires-clause-tails_in c = let e = c.args.ends.now in tails_in _ e.sound _ _ e.ends _ c.requires.visits _ c.leading_arcs-leading.ensures

pub ways_back-up-requires-clause-enters_once : goal.ways_back-up-requires-clause-enters_once
ways_back-up-requires-clause-enters_once c = let e = c.args.ends.now in enters-once _ e.sound _ _ e.ends _ c.requires.visits _ c.leading_arcs-leading.ensures

pub hops_after-next-requires-clause-heads_in : goal.hops_after-next-requires-clause-heads_in
hops_after-next-requires-clause-heads_in c = let e = c.args.ends.now in heads_in _ e.sound _ _ e.ends

pub overflow_cast-result : goal.overflow_cast-result
overflow_cast-result c = let e = c.args.ends.now in omega (arith, c.count_set-links.ensures, hops-few _ e.sound _ _ e.ends _ c.requires.visits _ c.leading_arcs-leading.ensures)

pub overflow_mul-result : goal.overflow_mul-result
overflow_mul-result c = let e = c.args.ends.now in omega (arith, c.count_set-links.ensures, hops-few _ e.sound _ _ e.ends _ c.requires.visits _ c.leading_arcs-leading.ensures)

pub returns : goal.returns
returns c =
    let e = c.args.ends.now in
    whole _ e.sound _ _ e.ends _ c.requires.visits _ c.leading_arcs-leading.ensures _ _ _ _ c.chains_of-chains.ensures c.ways_back-up.ensures c.hops_after-next.ensures _ _
    (omega (arith, c.count_set-links.ensures)) c.or_back-begin.ensures
