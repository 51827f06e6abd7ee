-- A link in service counts with the component of its first end, for which there is a place.
use Rattle.std.proofs.Common.{◌≡◌, ℕ, ◌∙◌, subst, arith}
use lib.ListN.{length-set}
use Rattle.lists.specs.Arrays.{at}
use Rattle.lists.specs.Count.{count}
use Rattle.lists.proofs.Members.{get_d_same}
use Rattle.limits.specs.Limits.{max_switches}
use Rattle.planning.proofs.Charts.{of_component, links-are}
use Rattle.planning.proofs.Counting.{links_all, told, component-place, few, counted_yes, counted_no}
use Rattle.planning.proofs.links_by.Goals as goal
use Rattle.planning.proofs.links_by.Goals.{then-in_service, else-in_service}

pub loop-link-init : goal.loop-link-init
unfolding count
loop-link-init c = record { long = omega arith; counts = λ i. get_d_same max_switches i 0 }

pub bounds-links-i : goal.bounds-links-i
bounds-links-i c =
    let alive = told _ c.args.ends.now.sound _ c.from.ensures _ c.loop-link-test.true _ c.in_service.ensures ∙ c.if-in_service.true in
    component-place _ c.args.ends.now.sound _ c.from.ensures _ c.loop-link-test.true _ c.requires alive _ _ c.from-y.ensures c.from-i.ensures

pub overflow_add-links : goal.overflow_add-links
overflow_add-links c =
    let alive = told _ c.args.ends.now.sound _ c.from.ensures _ c.loop-link-test.true _ c.in_service.ensures ∙ c.if-in_service.true in
    omega (arith, few _ c.args.ends.now.sound _ c.from.ensures _ c.loop-link-test.true _ c.requires alive _ _ c.from-y.ensures c.from-i.ensures _ c.loop-link.invariant)

pub bounds-links-i-then-in_service : goal.bounds-links-i-then-in_service
bounds-links-i-then-in_service c =
    let alive = told _ c.args.ends.now.sound _ c.from.ensures _ c.loop-link-test.true _ c.in_service.ensures ∙ c.if-in_service.true in
    component-place _ c.args.ends.now.sound _ c.from.ensures _ c.loop-link-test.true _ c.requires alive _ _ c.from-y.ensures c.from-i.ensures

pub loop-link-preserved : goal.loop-link-preserved
loop-link-preserved c =
    let k = c.loop-link in
    let mark = told _ c.args.ends.now.sound _ c.from.ensures _ c.loop-link-test.true _ c.in_service.ensures in
    elim c.if-in_service.branch [
      | then-in_service w ↦ rw w.links-is (record {
        long = length-set k.links _ _ ∙ k.invariant.long;
        counts = counted_yes _ c.args.ends.now.sound _ c.from.ensures _ c.loop-link-test.true _ c.requires (mark ∙ w.if-in_service.true) _ _ w.from-y.ensures w.from-i.ensures _ k.invariant;
      })
      | else-in_service w ↦ rw w.links-is (record { long = k.invariant.long; counts = counted_no _ c.args.ends.now.sound _ c.from.ensures _ (mark ∙ w.if-in_service.false) _ k.invariant })
    ]

pub returns : goal.returns
returns c =
    let k = c.loop-link in
    let e : k.link-index ≡ c.args.ends.now.plant.count = omega (arith, c.loop-link-test.false, k.auto.link-index-end, links_all _ c.args.ends.now.sound _ c.from.ensures) in
    links-are _ c.args.ends.now.sound k.links (subst (λ (m : ℕ). (i : ℕ) → at k.links i ≡ count m (of_component c.args.ends.now.plant i)) e k.invariant.counts)
