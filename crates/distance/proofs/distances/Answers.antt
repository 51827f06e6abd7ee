-- The switches that an arc leaves are tried in turn as a way.
use Rattle.std.proofs.Common.{◌+◌, ◌<◌, sym, subst, arith}
use Rattle.lists.specs.Arrays.{flag, at}
use Rattle.distance.proofs.Between.{Between, between_none, between_by, between_pass, between_all}
use Rattle.distance.proofs.distances.Goals as goal
use Rattle.distance.proofs.distances.Goals.{then-way, else-way}

pub loop-k-init : goal.loop-k-init
loop-k-init c =
    let w = c.requires in
    between_none _ _ _ _ _ w.few_switches w.tail_in w.head_in _ _ c.adjacent.ensures c.diagonal-t.ensures

pub loop-k-preserved : goal.loop-k-preserved
loop-k-preserved c =
    let k = c.loop-k in
    let s = c.args in
    let w = c.requires in
    let h : k.k < s.net.switches = omega arith in
    elim c.if-way.branch [
      | then-way z ↦ subst (Between s.net.switches s.net.labels (at s.tails.now) (at s.heads.now) (flag s.used.now) (k.k + 1)) (sym z.t-is)
          (between_by _ _ _ _ _ w.few_switches w.tail_in w.head_in k.k k.t k.invariant h _ z.through.ensures)
      | else-way z ↦ subst (Between s.net.switches s.net.labels (at s.tails.now) (at s.heads.now) (flag s.used.now) (k.k + 1)) (sym z.t-is)
          (between_pass _ _ _ _ _ w.few_switches w.tail_in w.head_in k.k k.t k.invariant h _ c.left_by-left.ensures z.if-way.false)
    ]

pub returns : goal.returns
returns c =
    let k = c.loop-k in
    let w = c.requires in
    between_all _ _ _ _ _ w.few_switches w.tail_in w.head_in k.k k.t k.invariant (omega arith)
