use mathlib.Core.Path.{◌∙◌, sym}
use Rattle.answers.proofs.Results.{exit}
use Rattle.plan.specs.Plan.{trail_of}
use Rattle.planner.specs.Calls.{trailing, laid_out}
use Rattle.planner.proofs.Trailing.{trail-refused, left-refused, short_answer, short_left, enough_room, enough_answer, enough_left}
use Rattle.planner.proofs.lay_trail.Goals as goal

pub returns-in_err-plan-clause-result_value : goal.returns-in_err-plan-clause-result_value
unfolding trailing
returns-in_err-plan-clause-result_value c =
    exit (λ n. n) _ _ c.from_residual.ensures.1 ∙ sym (trail-refused trail_of _ _ _ (sym c.in_err-plan.ensures.plant_value))

pub returns-in_err-plan-clause-buffer_now : goal.returns-in_err-plan-clause-buffer_now
unfolding laid_out
returns-in_err-plan-clause-buffer_now c = left-refused trail_of _ _ _ (sym c.in_err-plan.ensures.plant_value)

pub returns-in_err-judge_room-clause-result_value : goal.returns-in_err-judge_room-clause-result_value
unfolding trailing
returns-in_err-judge_room-clause-result_value c =
    let read = sym c.in_ok-plan.ensures.plant_value in
    exit (λ n. n) _ _ c.from_residual-in_err-judge_room.ensures.1 ∙ sym (short_answer trail_of _ _ _ read _ (c.from.ensures ∙ c.in_ok-plan.plan.layout.measured.hops_are) _ c.judge_room.ensures _ c.in_err-judge_room.was)

pub returns-in_err-judge_room-clause-buffer_now : goal.returns-in_err-judge_room-clause-buffer_now
unfolding laid_out
returns-in_err-judge_room-clause-buffer_now c =
    let read = sym c.in_ok-plan.ensures.plant_value in
    short_left trail_of _ _ _ read _ (c.from.ensures ∙ c.in_ok-plan.plan.layout.measured.hops_are) _ c.judge_room.ensures _ c.in_err-judge_room.was

pub lay-requires : goal.lay-requires
lay-requires c =
    let read = sym c.in_ok-plan.ensures.plant_value in
    enough_room trail_of _ _ _ read _ (c.from.ensures ∙ c.in_ok-plan.plan.layout.measured.hops_are) _ c.judge_room.ensures _ c.in_ok-judge_room.was

pub returns-clause-result_value : goal.returns-clause-result_value
unfolding trailing
returns-clause-result_value c =
    let read = sym c.in_ok-plan.ensures.plant_value in
    enough_answer trail_of _ _ _ read _ (c.from.ensures ∙ c.in_ok-plan.plan.layout.measured.hops_are) _ c.judge_room.ensures _ c.in_ok-judge_room.was _ c.in_ok-plan.plan.layout.measured.hops_are

pub returns-clause-buffer_now : goal.returns-clause-buffer_now
unfolding laid_out
returns-clause-buffer_now c =
    let read = sym c.in_ok-plan.ensures.plant_value in
    c.lay.ensures ∙ enough_left trail_of _ _ _ read _ (c.from.ensures ∙ c.in_ok-plan.plan.layout.measured.hops_are) _ c.judge_room.ensures _ c.in_ok-judge_room.was
