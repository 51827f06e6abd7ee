-- A search that refuses the outcome, once its switch is not refused: the console's answer is that refusal.
use Rattle.desk.proofs.Feeding.{fed-refused}
use Rattle.desk.proofs.fed.Goals as goal

pub returns-in_err-next : goal.returns-in_err-next
returns-in_err-next c =
    let h = c.args.held in
    fed-refused c.args.size.links h.search c.args.o c.args.size.switches c.args.c.set h.switch _ c.judge_switch.ensures _ c.in_ok-judge_switch.was _ c.give_to.ensures _ c.in_err-next.was
    _ c.from_residual-in_err-next.ensures.1
