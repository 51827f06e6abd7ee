-- The round trail of each component.
use Rattle.walks.specs.Components.{roots}
use Rattle.walks.specs.Round.{round_from}
use Rattle.plan.specs.Plan.{rounds_of}
use Rattle.planning.proofs.lay_round.Goals as goal

pub lay_each-requires : goal.lay_each-requires
unfolding rounds_of
lay_each-requires c =
    record {
      list = round_from c.args.x.now.ends.plant;
      numbers = roots c.args.x.now.ends.plant;
      count_is = c.args.x.now.charted.count_is;
      fits = c.requires;
      may_lay = λ i from b h room. (h, room);
      laid = λ i from b j d h e. e;
    }

pub returns : goal.returns
unfolding rounds_of
returns c =
    c.lay_each.ensures (record {
      list = round_from c.args.x.now.ends.plant;
      numbers = roots c.args.x.now.ends.plant;
      count_is = c.args.x.now.charted.count_is;
      fits = c.requires;
      may_lay = λ i from b h room. (h, room);
      laid = λ i from b j d h e. e;
    })
