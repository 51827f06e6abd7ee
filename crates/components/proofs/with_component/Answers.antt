-- What is found with one root more.
use Rattle.components.proofs.Adding.{covers_more}
use Rattle.components.proofs.with_component.Goals as goal

pub returns : goal.returns
returns c rs covers apart =
    covers_more _ c.args.all.now.sound rs _ _ covers apart _ c.visit_by-v.ensures c.requires.count_lt_max_switches _ c.settle.ensures _ c.renumber.ensures _ c.join.ensures
