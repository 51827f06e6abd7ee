-- The arcs in use are laid into the table one by one.
use Rattle.std.proofs.Common.{◌≡◌, ◌+◌, ◌<◌, sym, subst, arith}
use Rattle.lists.specs.Arrays.{flag, at}
use Rattle.lists.proofs.Tests.{true_T}
use Rattle.distance.specs.Ways.{Near}
use Rattle.distance.proofs.Between.{near_none, near_pass, near_put}
use Rattle.distance.proofs.adjacent.Goals as goal
use Rattle.distance.proofs.adjacent.Goals.{then-used-a, else-used-a}

pub loop-a-init : goal.loop-a-init
loop-a-init c = rw c.requires.flat (near_none _ _ _ _ _)

pub loop-a-preserved : goal.loop-a-preserved
loop-a-preserved c =
    let k = c.loop-a in
    let s = c.args in
    let w = c.requires.within in
    let a_in : k.a < s.net.labels = omega arith in
    elim c.if-used-a.branch [
      | then-used-a b ↦
          let t = true_T _ b.if-used-a.true in
          subst (Near s.net.switches s.net.labels (at s.tails.now) (at s.heads.now) (flag s.used.now) (k.a + 1)) (sym b.t-is)
          (near_put _ _ _ _ _ k.a k.t k.invariant (omega (arith, w.root_in)) a_in t (omega (arith, w.few_switches, w.tail_in _ a_in t)) (omega (arith, w.few_switches, w.head_in _ a_in t)))
      | else-used-a b ↦ subst (Near s.net.switches s.net.labels (at s.tails.now) (at s.heads.now) (flag s.used.now) (k.a + 1)) (sym b.t-is) (near_pass _ _ _ _ _ k.a k.t k.invariant b.if-used-a.false)
    ]

pub returns : goal.returns
returns c =
    let s = c.args in
    let k = c.loop-a in
    let e : k.a ≡ s.net.labels = omega arith in
    rw e at k.invariant
