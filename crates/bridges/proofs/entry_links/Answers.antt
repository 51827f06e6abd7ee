-- Of the two ends of an entered link the one with the higher number gets it.
use Rattle.std.proofs.Common.{◌*◌}
use Rattle.arcs.proofs.Ends.{first_end, second_end, tail-place, head-place}
use Rattle.bridges.proofs.Cycles.{entry_pass, entry_second, entry_first, entry_all}
use Rattle.bridges.proofs.entry_links.Goals as goal
use Rattle.bridges.proofs.entry_links.Goals.{then-all-l+then-all-x, then-all-l+else-all-x, else-all-l}

pub bounds-all-x : goal.bounds-all-x
bounds-all-x c =
    let e = c.args.all.now.ends.now in
    tail-place e.plant e.tails e.ends.tails_are e.sound (2 * c.loop-l.l)

pub bounds-all-y : goal.bounds-all-y
bounds-all-y c =
    let e = c.args.all.now.ends.now in
    head-place e.plant e.heads e.ends.heads_are e.sound (2 * c.loop-l.l)

pub bounds-up-x : goal.bounds-up-x
bounds-up-x c =
    let e = c.args.all.now.ends.now in
    tail-place e.plant e.tails e.ends.tails_are e.sound (2 * c.loop-l.l)

pub loop-l-preserved : goal.loop-l-preserved
loop-l-preserved c =
    let e = c.args.all.now.ends.now in
    let k = c.loop-l in
    let x = first_end e.plant e.tails e.ends.tails_are k.l in
    let y = second_end e.plant e.heads e.ends.heads_are k.l in
    elim c.if-all-l.branch [
      | then-all-l+then-all-x w ↦ rw w.up-is (entry_second e.sound c.args.all.now.tells_all k.invariant w.if-all-l.true x y w.if-all-x.true)
      | then-all-l+else-all-x w ↦ rw w.up-is (entry_first e.sound c.args.all.now.tells_all k.invariant w.if-all-l.true x y w.if-all-x.false)
      | else-all-l w ↦ rw w.up-is (entry_pass e.sound c.args.all.now.tells_all k.invariant w.if-all-l.false)
    ]

pub returns : goal.returns
returns c = entry_all c.args.all.now.ends.now.sound c.loop-l.invariant c.loop-l-test.false
