-- The forest tells of the visits of all components, and so of the bridges and of the arcs in use.
use Rattle.std.proofs.Common.{ℕ, None, ◌≡◌, ◌<◌, get_or, rules}
use borrow.Author.Tests.{tests}
use Rattle.std.specs.Option.{unwrap_or}
use Rattle.lists.specs.Arrays.{at}
use Rattle.limits.specs.Limits.{max_switches}
use Rattle.arcs.proofs.Made.{made}
use Rattle.components.proofs.Scanning.{tells_all, finds}
use Rattle.components.proofs.find.Goals as goal

pub invariant_of-all : goal.invariant_of-all
invariant_of-all c = record { tells_all = tells_all _ c.args.ends.now.sound _ c.visit_all-f.ensures _ _ }

pub returns : goal.returns
returns c =
    let home = c.visit_all-f.result.home in
    let numbered : (x : ℕ) → x < max_switches → at c.from_fn-home.result x ≡ unwrap_or (get_or home x None) max_switches =
    λ x. made _ (λ i. unwrap_or (get_or home i None) max_switches) _ (λ i y q k. (search (rules, tests) fits 5000, search (rules, tests) fits 5000)) _ max_switches c.from_fn-home.ensures.items x 0 in
    finds _ c.args.ends.now.sound _ c.visit_all-f.ensures _ _ _ _ numbered c.bridges_of-bridges.ensures c.arcs_in_use-used.ensures
