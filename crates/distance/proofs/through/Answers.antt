-- A row from which a walk leads to k goes by way of k; any other has no more hops than that.
use Rattle.std.proofs.Common.{ℕ, ◌+◌, ◌<◌, List, [], get_or, sym, ap, subst, arith}
use Rattle.lists.specs.Arrays.{at}
use Rattle.limits.specs.Limits.{max_switches}
use Rattle.arcs.specs.Table.{cell}
use Rattle.distance.specs.Ways.{Through}
use Rattle.distance.proofs.Turns.{turned_put, turned_pass, far_away}
use Rattle.distance.proofs.through.Goals as goal
use Rattle.distance.proofs.through.Goals.{then-near, else-near}

pub loop-i-preserved : goal.loop-i-preserved
loop-i-preserved c =
    let k = c.loop-i in
    let few = c.requires.few_hops in
    let i_in : k.i < max_switches = omega (arith, c.requires.s_le_max_switches) in
    elim c.if-near.branch [
      | then-near w ↦ subst (Through c.args.k c.args.t.now (k.i + 1)) (sym w.t-is) (turned_put _ _ _ k.i _ k.t (omega (arith, few.rows, i_in)) k.invariant w.by_way.ensures)
      | else-near w ↦ subst (Through c.args.k c.args.t.now (k.i + 1)) (sym w.t-is) (turned_pass _ _ _ k.i k.t k.invariant (
          far_away (get_or k.t k.i []) (get_or c.args.t.now c.args.k []) (cell k.t k.i c.args.k) max_switches (λ v l.
          omega (arith, ap (λ (r : List ℕ). at r v) (k.invariant.left k.i (omega arith)), few.few k.i v i_in l, w.if-near.false))
          ))
    ]
