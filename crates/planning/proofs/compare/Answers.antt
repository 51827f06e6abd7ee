-- The trail of each component.
use Rattle.walks.specs.Components.{roots}
use Rattle.routes.specs.Plants.{trail_from}
use Rattle.plan.specs.Plan.{trails_of}
use Rattle.planning.proofs.OneAfterAnother.{numbered}
use Rattle.planning.proofs.compare.Goals as goal

pub compare_each-requires : goal.compare_each-requires
compare_each-requires c i from h = numbered c.args.x.now.layout.chart h

pub returns : goal.returns
unfolding trails_of
returns c =
    let x = c.args.x.now.layout.chart in
    c.compare_each.ensures (record { lent = c.args.lent.now; list = trail_from x.ends.plant; numbers = roots x.ends.plant; count_is = x.charted.count_is; told = λ i from r h e. e })
