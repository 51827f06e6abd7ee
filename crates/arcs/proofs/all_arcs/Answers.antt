-- The flags are laid label by label, and none is set past the last.
use Rattle.std.proofs.Common.{ℕ, Bool, false, ◌*◌, ◌/◌, ◌<◌, sym, ◌∙◌, arith}
use Rattle.lists.proofs.Laid.{laid_none, laid_put, laid_all}
use Rattle.plant.specs.declared.Plant.{Plant}
use Rattle.plant.specs.Links.{live}
use Rattle.limits.specs.Limits.{max_links}
use Rattle.walks.proofs.Live.{live-listed}
use Rattle.arcs.proofs.Past.{dead_past}
use Rattle.arcs.proofs.all_arcs.Goals as goal

abbrev part : Plant → ℕ → Bool
part p a = live p (a / 2)

pub loop-a-init : goal.loop-a-init
loop-a-init c = laid_none false (2 * max_links) (part c.args.p.now)

pub loop-a-preserved : goal.loop-a-preserved
loop-a-preserved c =
    let k = c.loop-a in
    let few : k.a < 2 * max_links = omega (arith, c.loop-a-test.true, c.from-a-end.ensures, c.requires.few_links) in
    let told = c.in_service.ensures ∙ sym (live-listed c.args.p.now (k.a / 2) (omega (arith, c.loop-a-test.true, c.from-a-end.ensures))) in
    laid_put false (2 * max_links) (part c.args.p.now) k.a k.r k.invariant _ few told

pub returns : goal.returns
returns c =
    let k = c.loop-a in
    record {
      places = k.invariant.places;
      tells = laid_all false (2 * max_links) (part c.args.p.now) k.a k.r k.invariant (λ b h. dead_past c.args.p.now b (omega (arith, c.loop-a-test.false, c.from-a-end.ensures)));
    }
