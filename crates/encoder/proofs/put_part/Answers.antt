use Rattle.std.proofs.Common.{arith, ◌∙◌}
use lib.ListN.{length-set}
use Rattle.encoder.proofs.PutLaws.{part_room, part_end, part-laid}
use Rattle.encoder.proofs.put_part.Goals as goal

pub bounds-buf-at : goal.bounds-buf-at
bounds-buf-at g c = omega (arith, part_room c.args.buf.now c.args.at c.args.fields.now.list c.args.values.now c.requires)

pub put_fields-requires : goal.put_fields-requires
put_fields-requires g c = (
  omega (arith, c.args.fields.now.few),
  (omega (arith, c.args.fields.now.few), simp length-set (part_room c.args.buf.now c.args.at c.args.fields.now.list c.args.values.now c.requires)),
)

pub returns-clause-value : goal.returns-clause-value
returns-clause-value g c = c.put_fields.ensures.value ∙ part_end c.args.buf.now c.args.at c.args.fields.now.list c.args.values.now

pub returns-clause-buf_after : goal.returns-clause-buf_after
returns-clause-buf_after g c =
    c.put_fields.ensures.buf_after ∙ part-laid c.args.buf.now c.args.at c.args.fields.now.list c.args.values.now _ c.part_map.ensures
