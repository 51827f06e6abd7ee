-- Each entered switch leaves one fewer unvisited; an arc that is tried, entered or not, leads on, and the next of its chain rises.
use Rattle.std.proofs.Common.{◌≡◌, ◌<◌, false, get_or, arith}
use Rattle.lists.specs.Arrays.{at}
use Rattle.limits.specs.Limits.{max_switches}
use Rattle.visit.proofs.Entering.{unvisited-kept, enter-numbers, enter_falls, enter-at}
use Rattle.visit.proofs.Goes.{goes_begin, goes_end, goes_next, goes_rises, flagged, turn_old, turn_new}
use Rattle.visit.proofs.+visit_from.Goals as goal
use Rattle.visit.proofs.+visit_from.Goals.{then-not-v-to, else-not-v-to}

pub loop-a-preserved : goal.loop-a-preserved
loop-a-preserved t c w =
    let k = c.loop-a in
    let g = k.invariant w in
    let below = c.loop-a-test.true in
    let near : at c.args.heads.now k.a < max_switches = w.heads_in k.a below (flagged _ _ _ _ _ below g) in
    elim c.if-not-v-to.branch [
      | then-not-v-to z ↦ rw z.v-is (turn_new _ _ _ _ _ below g c.requires.n_bound near z.if-not-v-to.true (rw z.enter.ensures at (z.visit_from-v.ensures w)) _ (goes_next _ _ _ _ _ below g w.chained))
      | else-not-v-to z ↦ rw z.v-is (turn_old _ _ _ _ _ below g z.if-not-v-to.false _ (goes_next _ _ _ _ _ below g w.chained))
    ]

pub loop-a-init : goal.loop-a-init
loop-a-init t c w = goes_begin _ _ _ _ _ c.requires.at.room _ (w.chained.firsts _ c.requires.at.within)

pub enter-requires-clause-next_lt_max_switches : goal.enter-requires-clause-next_lt_max_switches
enter-requires-clause-next_lt_max_switches t c =
    let w = c.requires.some_arcs in
    let g = c.loop-a.invariant w in
    let near : at c.args.heads.now c.loop-a.a < max_switches = w.heads_in c.loop-a.a c.loop-a-test.true (flagged _ _ _ _ _ c.loop-a-test.true g) in
    enter-numbers c.loop-a.v _ g.room near c.if-not-v-to.true

pub visit_from-v-requires : goal.visit_from-v-requires
visit_from-v-requires t c =
    let w = c.requires.some_arcs in
    let g = c.loop-a.invariant w in
    let near : at c.args.heads.now c.loop-a.a < max_switches = w.heads_in c.loop-a.a c.loop-a-test.true (flagged _ _ _ _ _ c.loop-a-test.true g) in
    let new : get_or c.loop-a.v.seen (at c.args.heads.now c.loop-a.a) false ≡ false = c.if-not-v-to.true in
    rw c.enter.ensures (
      omega (arith, enter_falls c.loop-a.v _ g.room near new, unvisited-kept c.args.v0.seen c.loop-a.v.seen g.kept, c.decreases),
      (c.requires.n_bound, (w, enter-at c.loop-a.v _ g.room near new _)),
    )

pub loop-a-smaller : goal.loop-a-smaller
loop-a-smaller t c =
    let w = c.requires.some_arcs in
    let g = c.loop-a.invariant w in
    omega (arith, goes_next _ _ _ _ _ c.loop-a-test.true g w.chained, goes_rises _ _ _ _ _ c.loop-a-test.true g, c.loop-a-test.true)

pub returns : goal.returns
returns t c w = goes_end _ _ _ _ _ c.loop-a-test.false (c.loop-a.invariant w)
