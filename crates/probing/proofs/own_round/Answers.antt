-- The round trail of the component of a switch is a part of the lent round trails of all components.
use Rattle.probing.proofs.Lent.{round-part}
use Rattle.probing.proofs.own_round.Goals as goal

pub returns : goal.returns
returns c =
    round-part c.args.layout.now.chart.ends.plant c.args.layout.now.chart.ends.sound c.args.switch c.requires.switch_lt_switches c.args.round.now _ c.component_with-c.result
    c.requires.round_value c.component_with-c.ensures c.part.ensures
