-- The bridges are the entered links that have no flag, and past the links of the plant there is none.
use Rattle.std.proofs.Common.{false, not, ◌&&◌, rules, ◌∙◌, arith}
use borrow.Author.Tests.{tests}
use Rattle.lists.specs.Arrays.{flag}
use Rattle.limits.specs.Limits.{max_links}
use Rattle.arcs.proofs.Past.{bridge-past}
use Rattle.arcs.proofs.Made.{made_all}
use Rattle.bridges.proofs.Cycles.{bridge-flag}
use Rattle.bridges.proofs.bridges_of.Goals as goal

pub returns : goal.returns
returns c =
    let e = c.args.all.now.ends.now in
    let same = bridge-flag e.sound c.args.all.now.tells_all c.covered_links-c.ensures in
    record {
      places = c.from_fn.ensures.items.long;
      tells = λ i. made_all _ (λ j. flag c.args.all.now.visited.entered j && not (flag c.covered_links-c.result j)) _ (λ x y q k. (search (rules, tests), search (rules, tests))) _ max_links c.from_fn.ensures.items false
          (λ j g. same j ∙ bridge-past e.plant j (omega (arith, g, e.sound.few_links))) i ∙ same i;
    }
