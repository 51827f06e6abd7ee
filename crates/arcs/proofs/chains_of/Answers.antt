-- A flagged label goes to the front of the chain of its switch.
use Rattle.std.proofs.Common.{◌-◌, ◌≤◌, ◌<◌, arith}
use Rattle.lists.specs.Arrays.{at}
use Rattle.lists.proofs.Tests.{true_T}
use Rattle.limits.specs.Limits.{max_switches}
use Rattle.arcs.proofs.Chain.{chain_none, chain_pass, chain_put}
use Rattle.arcs.proofs.chains_of.Goals as goal

pub loop-a-init : goal.loop-a-init
loop-a-init c = rw c.from-a.ensures (chain_none _ _ _)

pub loop-a-preserved-then-flags-a : goal.loop-a-preserved-then-flags-a
loop-a-preserved-then-flags-a c =
    let k = c.loop-a in
    let below : k.a ≤ c.args.n = omega (arith, k.auto.a, c.from-a.ensures) in
    let leaves : at c.args.tails.now (k.a - 1) < max_switches = c.requires.tails_in (k.a - 1) (omega (arith, below, c.loop-a-test.true)) (true_T _ c.if-flags-a.true) in
    rw c.from-x.ensures (chain_put _ _ _ k.a c.loop-a-test.true below k.invariant c.if-flags-a.true leaves (omega (arith, below, c.requires.n_bound)))

pub loop-a-preserved : goal.loop-a-preserved
loop-a-preserved c = chain_pass _ _ _ c.loop-a.a c.loop-a-test.true (omega (arith, c.loop-a.auto.a, c.from-a.ensures)) c.loop-a.invariant c.if-flags-a.false
