-- A link in service that was not entered closes a cycle, and no other does.
use Rattle.std.proofs.Common.{sym, ◌∙◌}
use Rattle.walks.proofs.Live.{live-listed}
use Rattle.bridges.proofs.Cycles.{covered_none, pass_dead, pass_entered, covered_all}
use Rattle.bridges.proofs.covered_links.Goals as goal
use Rattle.bridges.proofs.covered_links.Goals.{then-in_service+then-not-all-k, else-in_service, else-in_service-via-then-in_service+else-not-all-k, else-in_service-via-else-in_service}

pub loop-k-init : goal.loop-k-init
loop-k-init c = covered_none c.args.all.now.ends.now.sound

pub climb-requires-clause-in_service : goal.climb-requires-clause-in_service
climb-requires-clause-in_service c = live-listed c.args.all.now.ends.now.plant c.loop-k.k c.loop-k-test.true ∙ sym c.in_service.ensures ∙ c.if-in_service.true

pub loop-k-preserved : goal.loop-k-preserved
loop-k-preserved c =
    let e = c.args.all.now.ends.now in
    let k = c.loop-k in
    elim c.if-in_service.branch [
      | then-in_service+then-not-all-k w ↦ rw w.c-is w.climb.ensures
      | else-in_service w ↦ rw w.c-is (elim w.else-in_service.branch [
        | else-in_service-via-then-in_service+else-not-all-k w' ↦ pass_entered e.sound k.invariant c.args.all.now.tells_all w'.if-not-all-k.false
        | else-in_service-via-else-in_service w' ↦ pass_dead e.sound k.invariant (live-listed e.plant k.k c.loop-k-test.true ∙ sym c.in_service.ensures ∙ w'.if-in_service.false)
      ])
    ]

pub returns : goal.returns
returns c = covered_all c.args.all.now.ends.now.sound c.loop-k.invariant c.loop-k-test.false
