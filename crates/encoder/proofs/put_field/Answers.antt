use Rattle.std.proofs.Common.{arith}
use Rattle.encoder.proofs.PutLaws.{field-size}
use Rattle.encoder.proofs.put_field.Goals as goal

pub put_number-requires : goal.put_number-requires
put_number-requires c = omega (arith, c.requires, field-size c.args.f c.args.value c.if-value-f.false)

pub overflow_add-result : goal.overflow_add-result
overflow_add-result c = omega (arith, c.requires, field-size c.args.f c.args.value c.if-value-f.false)

pub returns-clause-value : goal.returns-clause-value
returns-clause-value c = omega (arith, field-size c.args.f c.args.value c.if-value-f.false)
