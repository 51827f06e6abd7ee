-- The line of the labels of the stretch.
use Rattle.printing.proofs.PageLaws.{stretch_cut}
use Rattle.printing.proofs.put_stretch.Goals as goal

pub put_trail-requires : goal.put_trail-requires
put_trail-requires c = rw (stretch_cut c.args.labels.now c.args.c _ _ c.from-from.ensures c.from.ensures) c.requires.room

pub returns : goal.returns
returns c = rw (stretch_cut c.args.labels.now c.args.c _ _ c.from-from.ensures c.from.ensures) at c.put_trail.ensures
