-- Of the two that the climb has come to the one with the higher number goes back over the link by which it was entered.
use Rattle.std.proofs.Common.{◌≤◌, refl, sym, arith}
use Rattle.lists.specs.Arrays.{at}
use Rattle.arcs.proofs.Ends.{first_end, second_end}
use Rattle.bridges.proofs.Cycles.{climb_begin, climb_places, climb_flip, climb_back, climb_end}
use Rattle.bridges.proofs.climb.Goals as goal

pub loop-x-init : goal.loop-x-init
loop-x-init c =
    let e = c.args.all.now.ends.now in
    let h = c.requires in
    let p = e.plant in
    rw (sym (first_end p e.tails e.ends.tails_are c.args.k), sym (second_end p e.heads e.ends.heads_are c.args.k)) at
    (climb_begin e.sound c.args.all.now.tells_all h.covered h.in_service h.not_entered)

pub bounds-all-i : goal.bounds-all-i
bounds-all-i c = (climb_places c.args.all.now.ends.now.sound c.loop-x.invariant).0

pub bounds-all-j : goal.bounds-all-j
bounds-all-j c = (climb_places c.args.all.now.ends.now.sound c.loop-x.invariant).1

pub bounds-up-i : goal.bounds-up-i
bounds-up-i c = (climb_places c.args.all.now.ends.now.sound c.loop-x.invariant).0

pub bounds-c-l : goal.bounds-c-l
bounds-c-l c =
    let e = c.args.all.now.ends.now in
    let h = c.requires in
    let g = climb_flip e.sound c.loop-x.invariant in
    let less : at c.args.all.now.visited.rank c.loop-x.x ≤ at c.args.all.now.visited.rank c.loop-x.y = omega (arith, c.if-all-i.true) in
    (climb_back e.sound c.args.all.now.tells_all e.ends h.entry_links g (λ q. c.loop-x-test.true (sym q)) less refl).place

pub across-y-requires : goal.across-y-requires
across-y-requires c =
    let e = c.args.all.now.ends.now in
    let h = c.requires in
    let g = climb_flip e.sound c.loop-x.invariant in
    let less : at c.args.all.now.visited.rank c.loop-x.x ≤ at c.args.all.now.visited.rank c.loop-x.y = omega (arith, c.if-all-i.true) in
    (climb_back e.sound c.args.all.now.tells_all e.ends h.entry_links g (λ q. c.loop-x-test.true (sym q)) less refl).place

pub loop-x-smaller-then-all-i : goal.loop-x-smaller-then-all-i
loop-x-smaller-then-all-i c =
    let e = c.args.all.now.ends.now in
    let h = c.requires in
    let g = climb_flip e.sound c.loop-x.invariant in
    let less : at c.args.all.now.visited.rank c.loop-x.x ≤ at c.args.all.now.visited.rank c.loop-x.y = omega (arith, c.if-all-i.true) in
    omega (arith, (climb_back e.sound c.args.all.now.tells_all e.ends h.entry_links g (λ q. c.loop-x-test.true (sym q)) less c.across-y.ensures).less)

pub loop-x-preserved-then-all-i : goal.loop-x-preserved-then-all-i
loop-x-preserved-then-all-i c =
    let e = c.args.all.now.ends.now in
    let h = c.requires in
    let g = climb_flip e.sound c.loop-x.invariant in
    let less : at c.args.all.now.visited.rank c.loop-x.x ≤ at c.args.all.now.visited.rank c.loop-x.y = omega (arith, c.if-all-i.true) in
    climb_flip e.sound (climb_back e.sound c.args.all.now.tells_all e.ends h.entry_links g (λ q. c.loop-x-test.true (sym q)) less c.across-y.ensures).step

pub bounds-c-l-else-all-i : goal.bounds-c-l-else-all-i
bounds-c-l-else-all-i c =
    let e = c.args.all.now.ends.now in
    let h = c.requires in
    (climb_back e.sound c.args.all.now.tells_all e.ends h.entry_links c.loop-x.invariant c.loop-x-test.true c.if-all-i.false refl).place

pub across-x-requires : goal.across-x-requires
across-x-requires c =
    let e = c.args.all.now.ends.now in
    let h = c.requires in
    (climb_back e.sound c.args.all.now.tells_all e.ends h.entry_links c.loop-x.invariant c.loop-x-test.true c.if-all-i.false refl).place

pub loop-x-smaller : goal.loop-x-smaller
loop-x-smaller c =
    let e = c.args.all.now.ends.now in
    let h = c.requires in
    omega (arith, (climb_back e.sound c.args.all.now.tells_all e.ends h.entry_links c.loop-x.invariant c.loop-x-test.true c.if-all-i.false c.across-x.ensures).less)

pub loop-x-preserved : goal.loop-x-preserved
loop-x-preserved c =
    let e = c.args.all.now.ends.now in
    let h = c.requires in
    (climb_back e.sound c.args.all.now.tells_all e.ends h.entry_links c.loop-x.invariant c.loop-x-test.true c.if-all-i.false c.across-x.ensures).step

pub returns : goal.returns
returns c = climb_end c.args.all.now.ends.now.sound c.loop-x.invariant c.loop-x-test.false
