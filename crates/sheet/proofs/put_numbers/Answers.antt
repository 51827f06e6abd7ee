-- The numbers, the spaces and the line's end, one after the other: each has its columns.
use Rattle.std.proofs.Common.{arith}
use Rattle.text.proofs.LaidLaws.{laid_then}
use Rattle.sheet.specs.Columns.{rules_columns, links_columns}
use Rattle.sheet.specs.Numbers.{numbers_of}
use Rattle.sheet.proofs.Page.{field-size, numbers-size}
use Rattle.sheet.proofs.put_numbers.Goals as goal

pub put_right-second-requires-clause-room : goal.put_right-second-requires-clause-room
put_right-second-requires-clause-room c =
    let d = c.requires.rules_bound in
    omega (arith, numbers-size _ _ d.0 d.1, field-size rules_columns c.args.rules (omega arith) d.0)

pub put_right-rest-requires-clause-room : goal.put_right-rest-requires-clause-room
put_right-rest-requires-clause-room c =
    let d = c.requires.rules_bound in
    omega (arith, numbers-size _ _ d.0 d.1, field-size rules_columns c.args.rules (omega arith) d.0, field-size links_columns c.args.links (omega arith) d.1)

pub put_spaces-end-requires : goal.put_spaces-end-requires
put_spaces-end-requires c =
    let d = c.requires.rules_bound in
    omega (arith, numbers-size _ _ d.0 d.1, field-size rules_columns c.args.rules (omega arith) d.0, field-size links_columns c.args.links (omega arith) d.1)

pub end_line-requires : goal.end_line-requires
end_line-requires c =
    let d = c.requires.rules_bound in
    omega (arith, numbers-size _ _ d.0 d.1, field-size rules_columns c.args.rules (omega arith) d.0, field-size links_columns c.args.links (omega arith) d.1)

pub returns : goal.returns
unfolding numbers_of
returns c = laid_then c.put_right-second.ensures (laid_then c.put_right-rest.ensures (laid_then c.put_spaces-end.ensures c.end_line.ensures))
