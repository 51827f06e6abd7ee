-- The trail of the component of a switch is a part of the lent trails of all components.
use Rattle.probing.proofs.Lent.{trail-part}
use Rattle.probing.proofs.own_trail.Goals as goal

pub returns : goal.returns
returns c =
    trail-part c.args.layout.now.chart.ends.plant c.args.layout.now.chart.ends.sound c.args.switch c.requires.switch_lt_switches c.args.trail.now _ c.component_with-c.result
    c.requires.trail_value c.component_with-c.ensures c.part.ensures
