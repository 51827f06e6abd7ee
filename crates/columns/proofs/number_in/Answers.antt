-- What comes after the spaces makes the number.
use Rattle.std.proofs.Common.{ap, ◌∙◌}
use Rattle.text.specs.Decimal.{read_decimal}
use Rattle.columns.specs.Fields.{is_short, is_number, number_in}
use Rattle.columns.proofs.Fields.{part-is}
use Rattle.columns.proofs.number_in.Goals as goal

pub short_of-requires : goal.short_of-requires
unfolding is_number
short_of-requires c = ap is_short (part-is c.args.field.now c.spaces_before-from.result c.spaces_before-from.ensures.value) ∙ c.requires

pub returns-clause-value : goal.returns-clause-value
unfolding number_in
returns-clause-value c = c.short_of.ensures.value ∙ ap read_decimal (part-is c.args.field.now c.spaces_before-from.result c.spaces_before-from.ensures.value)
