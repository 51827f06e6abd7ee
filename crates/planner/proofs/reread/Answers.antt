use mathlib.Core.Path.{◌∙◌, sym, ap}
use Prim.Native.Nat.{◌≤◌}
use native.Mathlib.Omega.{arith}
use lib.ListN.{length, length-take}
use Rattle.answers.proofs.Results.{exit}
use Rattle.planner.proofs.Again.{back-refused, back-room, back-given}
use Rattle.planner.proofs.Owned.{typed_owned}
use Rattle.planner.proofs.reread.Goals as goal

pub returns-in_err-n-clause-reads : goal.returns-in_err-n-clause-reads
returns-in_err-n-clause-reads c =
    exit (λ p. p) _ _ c.from_residual.ensures.1 ∙ sym (back-refused c.args.p c.args.buffer.now _ (sym c.in_err-n.ensures.result_value))

pub slice_bounds-read-end : goal.slice_bounds-read-end
slice_bounds-read-end c = omega (arith, back-room c.args.p c.args.buffer.now _ (sym c.in_ok-n.ensures.result_value), ap length c.write.ensures.buffer_now)

pub slice_bounds-read-end-2 : goal.slice_bounds-read-end-2
slice_bounds-read-end-2 c =
    let room : c.in_ok-n.n ≤ length c.write.new.buffer = omega (arith, back-room c.args.p c.args.buffer.now _ (sym c.in_ok-n.ensures.result_value), ap length c.write.ensures.buffer_now) in
    simp length-take (omega arith)

pub returns-clause-reads : goal.returns-clause-reads
returns-clause-reads c =
    rw c.write.ensures.buffer_now at c.read.ensures ∙ back-given c.args.p c.args.buffer.now _ (sym c.in_ok-n.ensures.result_value) (typed_owned c.args.p _ c.well_formed.0.1.1.1.1.1.0)
