-- Refusals 20, 11 and 21: those of the set, then those of the switch.
use Rattle.std.proofs.Common.{[], ◌∷◌}
use Rattle.answers.proofs.Results.{and_judges}
use Rattle.desk.specs.Console.{set_out_of_range, switch_checks}
use Rattle.desk.proofs.judge_start.Goals as goal

pub returns : goal.returns
returns c =
    let s = c.args.switches in
    let set = c.args.set in
    rw c.and.ensures (and_judges ((20, set_out_of_range s set) ∷ []) (switch_checks s set c.args.x) _ _ c.judge_set.ensures c.judge_switch.ensures)
