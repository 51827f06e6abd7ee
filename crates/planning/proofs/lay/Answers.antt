-- The trail of each component.
use Rattle.walks.specs.Components.{roots}
use Rattle.routes.specs.Plants.{trail_from}
use Rattle.plan.specs.Plan.{trails_of}
use Rattle.planning.proofs.lay.Goals as goal

pub lay_each-requires : goal.lay_each-requires
unfolding trails_of
lay_each-requires c =
    record {
      list = trail_from c.args.x.now.layout.chart.ends.plant;
      numbers = roots c.args.x.now.layout.chart.ends.plant;
      count_is = c.args.x.now.layout.chart.charted.count_is;
      fits = c.requires;
      may_lay = λ i from b h room. (h, room);
      laid = λ i from b j d h e. e;
    }

pub returns : goal.returns
unfolding trails_of
returns c =
    c.lay_each.ensures (record {
      list = trail_from c.args.x.now.layout.chart.ends.plant;
      numbers = roots c.args.x.now.layout.chart.ends.plant;
      count_is = c.args.x.now.layout.chart.charted.count_is;
      fits = c.requires;
      may_lay = λ i from b h room. (h, room);
      laid = λ i from b j d h e. e;
    })
