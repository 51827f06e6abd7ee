-- What comes after the spaces is a short number.
use Rattle.std.proofs.Common.{ap, ◌∙◌}
use Rattle.columns.specs.Fields.{is_short, is_number}
use Rattle.columns.proofs.Fields.{part-is}
use Rattle.columns.proofs.is_number.Goals as goal

pub returns : goal.returns
unfolding is_number
returns c = c.is_short.ensures ∙ ap is_short (part-is c.args.field.now c.spaces_before-from.result c.spaces_before-from.ensures.value)
