use Rattle.std.proofs.Common.{◌<◌, length, arith, refl}
use Rattle.codec.proofs.PartLaws.{read-near, read_next}
use Rattle.codec.proofs.read_fields.Goals as goal

pub overflow_add-next-in-loop-i : goal.overflow_add-next-in-loop-i
overflow_add-next-in-loop-i g c =
    let h : c.loop-i.i < length c.args.fields.now.list = omega (arith, c.loop-i-test.true) in
    omega (arith, read-near _ _ _ _ c.loop-i.invariant h _ c.read_field-found.ensures.size_is c.args.fields.now.narrow, c.args.fields.now.few, c.requires, c.well_formed)

pub loop-i-preserved : goal.loop-i-preserved
loop-i-preserved g c =
    let h : c.loop-i.i < length c.args.fields.now.list = omega (arith, c.loop-i-test.true) in
    let f = c.read_field-found.ensures in
    read_next _ _ _ _ c.loop-i.invariant h _ f.size_is c.args.fields.now.narrow _ f.value_is _ (rw f.redundant_is refl)
