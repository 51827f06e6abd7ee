-- A set flag is counted, and no other.
use Rattle.std.proofs.Common.{◌≡◌, ℕ, ◌+◌, length, refl, sym, ap, ◌∙◌, arith}
use Rattle.lists.specs.Arrays.{flag}
use Rattle.lists.specs.Count.{count}
use Rattle.lists.proofs.Count.{count-all}
use Rattle.lists.proofs.Stepwise.{count_yes, count_no}
use Rattle.arcs.specs.Flags.{count_set}
use Rattle.uses.proofs.count_set.Goals as goal
use Rattle.uses.proofs.count_set.Goals.{then-f, else-f}

pub loop-f-init : goal.loop-f-init
unfolding count
loop-f-init c = refl

pub overflow_add-n : goal.overflow_add-n
overflow_add-n c = omega (arith, c.loop-f.invariant, count-all c.loop-f.f-index (flag c.args.flags.now))

pub loop-f-preserved : goal.loop-f-preserved
loop-f-preserved c =
    let k = c.loop-f in
    let f = flag c.args.flags.now in
    elim c.if-f.branch [
      | then-f w ↦ w.n-is ∙ ap (λ (m : ℕ). m + 1) k.invariant ∙ sym (count_yes f k.f-index w.if-f.true)
      | else-f w ↦ w.n-is ∙ k.invariant ∙ sym (count_no f k.f-index w.if-f.false)
    ]

pub returns : goal.returns
unfolding count_set
returns c =
    let all : c.loop-f.f-index ≡ length c.args.flags.now = omega arith in
    c.loop-f.invariant ∙ ap (λ (m : ℕ). count m (flag c.args.flags.now)) all
