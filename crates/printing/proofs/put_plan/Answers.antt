-- The numbers, the rules and the trails, one after the other, each within its part of the most bytes.
use Rattle.std.proofs.Common.{arith}
use Rattle.text.proofs.LaidLaws.{laid_same}
use Rattle.printing.proofs.PageLaws.{table-few, table-most, count-few, stretches, lines_fit, plant-laid}
use Rattle.printing.proofs.put_plan.Goals as goal

pub shared_ref_as_front-rules : goal.shared_ref_as_front-rules
shared_ref_as_front-rules c = omega (arith, c.from.ensures, table-few c.args.x.now.layout.chart.ends.plant _ c.table_of-t.ensures c.args.x.now.layout.chart.ends.sound)

pub shared_ref_as_front-cs : goal.shared_ref_as_front-cs
shared_ref_as_front-cs c =
    omega (arith, c.from-2.ensures, count-few c.args.x.now.layout.chart.ends.plant c.args.x.now.layout.chart.ends.sound c.args.labels.now c.lay.ensures c.args.x.now.layout.measured.components_are)

pub put_rules-end-requires : goal.put_rules-end-requires
put_rules-end-requires c =
    let p = c.args.x.now.layout.chart.ends.plant in
    let most = table-most p _ c.table_of-t.ensures c.args.x.now.layout.chart.ends.sound in
    rw c.from.ensures (omega (arith, most, c.put_numbers-next.ensures.upper_bound, laid_same c.put_numbers-next.ensures.laid, c.requires.page_room))

pub put_trails-requires-clause-stretches : goal.put_trails-requires-clause-stretches
put_trails-requires-clause-stretches c =
    rw c.from-2.ensures (stretches c.args.x.now.layout.chart.ends.plant c.args.x.now.layout.chart.ends.sound c.args.labels.now c.lay.ensures c.args.x.now.layout.measured.components_are)

pub put_trails-requires-clause-room : goal.put_trails-requires-clause-room
put_trails-requires-clause-room c =
    let p = c.args.x.now.layout.chart.ends.plant in
    let sound = c.args.x.now.layout.chart.ends.sound in
    let most = rw (← c.from.ensures) at (table-most p _ c.table_of-t.ensures sound) in
    let fit = lines_fit p sound c.args.labels.now c.lay.ensures c.args.x.now.layout.measured.components_are in
    rw c.from-2.ensures (omega (arith, fit, most, c.put_numbers-next.ensures.upper_bound, c.put_rules-end.ensures.place, laid_same c.put_numbers-next.ensures.laid, laid_same c.put_rules-end.ensures, c.requires.page_room))

pub returns : goal.returns
returns c =
    plant-laid c.args.x.now.layout.chart.ends.plant c.args.x.now.layout.chart.ends.sound c.args.labels.now c.numbers_of.ensures c.table_of-t.ensures c.lay.ensures c.args.x.now.layout.measured.components_are
    c.put_numbers-next.ensures.laid (rw c.from.ensures at c.put_rules-end.ensures) (rw c.from-2.ensures at c.put_trails.ensures)
