-- Half the hops of the round trail of its component; a switch that is none has no link.
use Rattle.std.proofs.Common.{◌/◌, ap, ◌∙◌}
use Rattle.planning.specs.declared.Component.{Component}
use Rattle.planning.proofs.Charts.{links-told, none_told}
use Rattle.planning.proofs.links_with.Goals as goal

pub returns-then-switch-x : goal.returns-then-switch-x
returns-then-switch-x c =
    ap (λ (d : Component). d.round_hops / 2) c.component_with-c.ensures ∙ links-told c.args.x.now _ c.if-switch-x.true

pub returns : goal.returns
returns c = none_told c.args.x.now _ c.if-switch-x.false
