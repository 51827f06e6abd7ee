-- An arc that leaves u itself is nearest; else the best of the arcs that leave any switch. A switch with an arc gives the best if its key is less; any other leaves the best.
use Rattle.std.proofs.Common.{◌<◌, arith}
use Rattle.legs.proofs.Best.{here, best_stay, best_new, best_all}
use Rattle.legs.proofs.nearest.Goals as goal
use Rattle.legs.proofs.nearest.Goals.{then-a-n+then-key-least, then-a-n+else-key-least, else-a-n}

pub returns-then-low-x : goal.returns-then-low-x
returns-then-low-x c w m lows = here _ _ _ _ _ _ _ m lows (w.inside _ w.here) c.if-low-x.true

pub loop-y-preserved : goal.loop-y-preserved
loop-y-preserved c w m lows =
    let k = c.loop-y in
    let y_in : k.y < c.args.network.now.net.switches = omega arith in
    let best = k.invariant w m lows in elim c.if-a-n.branch [
      | then-a-n+then-key-least z ↦ best_new _ _ _ _ _ _ _ m lows k.y _ _ best _ _ z.best-is (omega (arith, z.least-is, w.cells k.y (w.leave k.y y_in z.if-a-n.true))) (omega (arith, z.if-key-least.true, z.least-is)) y_in z.if-a-n.true
      | then-a-n+else-key-least z ↦ best_stay _ _ _ _ _ _ _ m lows k.y _ _ best _ _ z.best-is z.least-is (λ _. omega (arith, z.if-key-least.false, w.cells k.y (w.leave k.y y_in z.if-a-n.true)))
      | else-a-n z ↦ best_stay _ _ _ _ _ _ _ m lows k.y _ _ best _ _ z.best-is z.least-is (λ h. absurd (omega (arith, h, z.if-a-n.false)))
    ]

pub returns : goal.returns
returns c w m lows =
    let k = c.loop-y in
    best_all _ _ _ _ _ _ _ m lows w.few_labels (λ b h l. w.inside _ (w.tails b h l)) k.y (omega arith) k.best k.least (k.invariant w m lows)
