use Rattle.std.proofs.Common.{ap, ◌∙◌}
use Rattle.plant.specs.declared.Link.{Link}
use Rattle.plant.specs.Links.{zero_link}
use lib.ListN.{get_or}
use Rattle.answers.specs.Checks.{answer}
use Rattle.answers.proofs.Results.{exit}
use Rattle.listing.specs.Writing.{sound_links}
use Rattle.listing.proofs.WriteLaws.{judge_on, judge_refused}
use Rattle.writing.proofs.judge_links.Goals as goal
use mathlib.Core.List.{List}

pub returns-in_err-judge_ends : goal.returns-in_err-judge_ends
returns-in_err-judge_ends c =
    let l = get_or c.links_held-l-items.result.now c.loop-l.l-index zero_link in
    exit _ _ _ c.from_residual.ensures.1
    ∙ judge_refused _ _ c.loop-l-test.true _ _ (rw (c.from.ensures, c.from-in-loop-l.ensures) at (c.in_err-judge_ends.ensures l.tag l.out_of_service))
    ∙ c.loop-l.invariant
    ∙ ap (λ (ls : List Link). answer (sound_links c.args.p.now.switches ls)) c.links_held-l-items.ensures.links_are

pub loop-l-preserved : goal.loop-l-preserved
loop-l-preserved c =
    let l = get_or c.links_held-l-items.result.now c.loop-l.l-index zero_link in
    judge_on _ _ c.loop-l-test.true _ (rw (c.from.ensures, c.from-in-loop-l.ensures) at (c.in_ok-judge_ends.ensures l.tag l.out_of_service)) ∙ c.loop-l.invariant
