-- The ends are laid label by label, and are zero past the last.
use Rattle.std.proofs.Common.{◌*◌, ◌<◌, arith}
use Rattle.lists.proofs.Laid.{laid_none, laid_put, laid_all}
use Rattle.limits.specs.Limits.{max_links}
use Rattle.walks.specs.Arcs.{tail, head}
use Rattle.arcs.proofs.Past.{tail-past, head-past}
use Rattle.arcs.proofs.ends_of.Goals as goal

pub loop-a-init : goal.loop-a-init
loop-a-init c = (laid_none 0 (2 * max_links) (tail c.args.p), laid_none 0 (2 * max_links) (head c.args.p))

pub loop-a-preserved : goal.loop-a-preserved
unfolding tail head
loop-a-preserved c =
    let k = c.loop-a in
    let p = c.args.p in
    let few : k.a < 2 * max_links = omega (arith, c.loop-a-test.true, c.from-a-end.ensures, c.requires.few_links) in (
      laid_put 0 (2 * max_links) (tail p) k.a k.tails k.invariant.0 _ few c.tail_of.ensures,
      laid_put 0 (2 * max_links) (head p) k.a k.heads k.invariant.1 _ few c.head_of.ensures,
    )

pub invariant_of-result-clause-ends : goal.invariant_of-result-clause-ends
invariant_of-result-clause-ends c =
    let k = c.loop-a in
    let p = c.args.p in
    record {
      tails_are = λ j b. laid_all 0 (2 * max_links) (tail p) k.a k.tails k.invariant.0 (λ d h. tail-past p d (omega (arith, c.loop-a-test.false, c.from-a-end.ensures)) c.requires) b j;
      heads_are = λ j b. laid_all 0 (2 * max_links) (head p) k.a k.heads k.invariant.1 (λ d h. head-past p d (omega (arith, c.loop-a-test.false, c.from-a-end.ensures)) c.requires) b j;
    }
