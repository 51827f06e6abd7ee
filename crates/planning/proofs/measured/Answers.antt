-- Each component has a place, and the hops so far with its own are within the limits.
use Rattle.std.proofs.Common.{◌≡◌, ℕ, ◌<◌, length, sym, subst, arith}
use Rattle.walks.specs.Components.{roots}
use Rattle.planning.specs.declared.Components.{Components}
use Rattle.planning.proofs.Measuring.{Measuring, measuring_none, measuring_next, few_hops, components_are, hops_all}
use Rattle.planning.proofs.measured.Goals as goal

pub loop-i-init : goal.loop-i-init
loop-i-init c = subst (λ (cs : Components). Measuring c.args.ends.now.plant 0 cs 0 0) (sym c.none-components.ensures) (measuring_none _)

pub overflow_mul-both : goal.overflow_mul-both
overflow_mul-both c =
    let i_in : c.loop-i.i < length (roots c.args.ends.now.plant) = omega (arith, c.requires.finds.count_is) in
    omega (arith, (few_hops _ c.args.ends.now.sound _ c.requires.finds _ i_in _ _ _ c.loop-i.invariant _ c.requires.hops_by _ c.links_by-links.ensures).1)

pub overflow_add-begin : goal.overflow_add-begin
overflow_add-begin c =
    let i_in : c.loop-i.i < length (roots c.args.ends.now.plant) = omega (arith, c.requires.finds.count_is) in
    omega (arith, (few_hops _ c.args.ends.now.sound _ c.requires.finds _ i_in _ _ _ c.loop-i.invariant _ c.requires.hops_by _ c.links_by-links.ensures).0)

pub overflow_add-round : goal.overflow_add-round
overflow_add-round c =
    let i_in : c.loop-i.i < length (roots c.args.ends.now.plant) = omega (arith, c.requires.finds.count_is) in
    omega (arith, (few_hops _ c.args.ends.now.sound _ c.requires.finds _ i_in _ _ _ c.loop-i.invariant _ c.requires.hops_by _ c.links_by-links.ensures).1)

pub loop-i-preserved : goal.loop-i-preserved
loop-i-preserved c =
    let i_in : c.loop-i.i < length (roots c.args.ends.now.plant) = omega (arith, c.requires.finds.count_is) in
    measuring_next _ c.args.ends.now.sound _ c.requires.finds _ i_in _ _ _ c.loop-i.invariant _ c.requires.hops_by _ c.links_by-links.ensures _

pub returns : goal.returns
returns c =
    let k = c.loop-i in
    let e : k.i ≡ length (roots c.args.ends.now.plant) = omega (arith, c.requires.finds.count_is) in
    let all = subst (λ (n : ℕ). Measuring c.args.ends.now.plant n k.components k.begin k.round) e k.invariant in
    record {
      components_are = components_are _ c.args.ends.now.sound _ c.requires.finds _ _ _ all;
      hops_are = hops_all _ c.args.ends.now.sound _ c.requires.finds _ _ _ all;
    }
