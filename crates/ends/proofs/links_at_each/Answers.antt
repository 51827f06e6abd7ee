-- A link in service adds one at its first end and one at its second, where a count is no more than the links before; any other adds none.
use Rattle.std.proofs.Common.{refl, sym, ◌∙◌, arith}
use Rattle.ends.proofs.Ends.{counts_none, counts_are, first_small, second_small, counts_live, counts_dead}
use Rattle.ends.proofs.links_at_each.Goals as goal
use Rattle.ends.proofs.links_at_each.Goals.{then-in_service, else-in_service}

pub loop-link-init : goal.loop-link-init
loop-link-init c = counts_none _

pub overflow_add-counts : goal.overflow_add-counts
overflow_add-counts c =
    let k = c.loop-link in
    let n = first_small c.args.p.now c.requires c.from.ensures k.link-index c.loop-link-test.true k.counts k.invariant _ _ c.from-then-in_service.ensures refl in
    omega (arith, n)

pub overflow_add-counts-then-in_service : goal.overflow_add-counts-then-in_service
overflow_add-counts-then-in_service c =
    let k = c.loop-link in
    let n = second_small c.args.p.now c.requires c.from.ensures k.link-index c.loop-link-test.true k.counts k.invariant _ _ c.from-then-in_service.ensures c.from-then-in_service-2.ensures in
    omega (arith, n)

pub loop-link-preserved : goal.loop-link-preserved
loop-link-preserved c =
    let k = c.loop-link in
    elim c.if-in_service.branch [
      | then-in_service w ↦ rw w.counts-is (counts_live c.args.p.now c.requires c.from.ensures k.link-index c.loop-link-test.true k.counts k.invariant _ _ w.from-then-in_service.ensures w.from-then-in_service-2.ensures (sym c.in_service.ensures ∙ w.if-in_service.true))
      | else-in_service w ↦ rw w.counts-is (counts_dead c.args.p.now c.requires c.from.ensures k.link-index c.loop-link-test.true k.counts k.invariant (sym c.in_service.ensures ∙ w.if-in_service.false))
    ]

pub returns : goal.returns
returns c =
    let k = c.loop-link in
    counts_are c.args.p.now c.requires c.from.ensures k.link-index k.counts k.auto.link-index-end c.loop-link-test.false k.invariant
