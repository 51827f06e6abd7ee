use mathlib.Core.Path.{◌≡◌, ap, ◌∙◌, sym}
use Prim.Native.Nat.{ℕ, ◌*◌}
use lib.ListN.{length}
use native.Mathlib.Omega.{arith}
use Rattle.answers.proofs.Results.{exit}
use Rattle.plan.specs.Plan.{round_of}
use Rattle.plan.proofs.Rounds.{rounds-are}
use Rattle.plant.specs.declared.Plant.{Plant}
use Rattle.limits.specs.Sound.{Sound}
use Rattle.walks.specs.Graph.{live_links}
use Rattle.planner.specs.Calls.{round_trailing, round_laid_out}
use Rattle.planner.proofs.Trailing.{trail-refused, left-refused, short_answer, short_left, enough_room, enough_answer, enough_left}
use Rattle.planner.proofs.lay_round_trail.Goals as goal

-- the hops are those of the round trails
hops_are : (p : Plant) (n : ℕ) → Sound p → n ≡ live_links p → 2 * n ≡ length (round_of p)
hops_are p n ok e = ap (◌*◌ 2) e ∙ sym (rounds-are p ok).number

pub overflow_mul-hops : goal.overflow_mul-hops
overflow_mul-hops c =
    let ok = c.in_ok-plan.plan.layout.chart.ends.sound in
    omega (arith, hops_are _ _ ok c.links_in_service-hops.ensures, (rounds-are _ ok).short)

pub returns-in_err-plan-clause-result_value : goal.returns-in_err-plan-clause-result_value
unfolding round_trailing
returns-in_err-plan-clause-result_value c =
    exit (λ n. n) _ _ c.from_residual.ensures.1 ∙ sym (trail-refused round_of _ _ _ (sym c.in_err-plan.ensures.plant_value))

pub returns-in_err-plan-clause-buffer_now : goal.returns-in_err-plan-clause-buffer_now
unfolding round_laid_out
returns-in_err-plan-clause-buffer_now c = left-refused round_of _ _ _ (sym c.in_err-plan.ensures.plant_value)

pub returns-in_err-judge_room-clause-result_value : goal.returns-in_err-judge_room-clause-result_value
unfolding round_trailing
returns-in_err-judge_room-clause-result_value c =
    let read = sym c.in_ok-plan.ensures.plant_value in
    exit (λ n. n) _ _ c.from_residual-in_err-judge_room.ensures.1 ∙ sym (short_answer round_of _ _ _ read _ (c.from.ensures ∙ hops_are _ _ c.in_ok-plan.plan.layout.chart.ends.sound c.links_in_service-hops.ensures) _ c.judge_room.ensures _ c.in_err-judge_room.was)

pub returns-in_err-judge_room-clause-buffer_now : goal.returns-in_err-judge_room-clause-buffer_now
unfolding round_laid_out
returns-in_err-judge_room-clause-buffer_now c =
    let read = sym c.in_ok-plan.ensures.plant_value in
    short_left round_of _ _ _ read _ (c.from.ensures ∙ hops_are _ _ c.in_ok-plan.plan.layout.chart.ends.sound c.links_in_service-hops.ensures) _ c.judge_room.ensures _ c.in_err-judge_room.was

pub lay_round-requires : goal.lay_round-requires
lay_round-requires c =
    let read = sym c.in_ok-plan.ensures.plant_value in
    enough_room round_of _ _ _ read _ (c.from.ensures ∙ hops_are _ _ c.in_ok-plan.plan.layout.chart.ends.sound c.links_in_service-hops.ensures) _ c.judge_room.ensures _ c.in_ok-judge_room.was

pub returns-clause-result_value : goal.returns-clause-result_value
unfolding round_trailing
returns-clause-result_value c =
    let read = sym c.in_ok-plan.ensures.plant_value in
    enough_answer round_of _ _ _ read _ (c.from.ensures ∙ hops_are _ _ c.in_ok-plan.plan.layout.chart.ends.sound c.links_in_service-hops.ensures) _ c.judge_room.ensures _ c.in_ok-judge_room.was _ (hops_are _ _ c.in_ok-plan.plan.layout.chart.ends.sound c.links_in_service-hops.ensures)

pub returns-clause-buffer_now : goal.returns-clause-buffer_now
unfolding round_laid_out
returns-clause-buffer_now c =
    let read = sym c.in_ok-plan.ensures.plant_value in
    c.lay_round.ensures ∙ enough_left round_of _ _ _ read _ (c.from.ensures ∙ hops_are _ _ c.in_ok-plan.plan.layout.chart.ends.sound c.links_in_service-hops.ensures) _ c.judge_room.ensures _ c.in_ok-judge_room.was
