-- The two labels of a link are laid in one turn: as the code finds, if its link is in service and its first end is seen, and not taken otherwise.
use Rattle.std.proofs.Common.{◌≡◌, false, ◌+◌, ◌*◌, ◌<◌, sym, ◌∙◌, arith}
use Rattle.lists.specs.Arrays.{flag}
use Rattle.lists.proofs.Laid.{laid_none, laid_put_two, laid_pass_two, laid_all}
use Rattle.limits.specs.Limits.{max_links}
use Rattle.walks.proofs.Live.{live-listed}
use Rattle.arcs.proofs.Ends.{first_end, second_end, tail-place, head-place}
use Rattle.uses.specs.Inner.{taken_by}
use Rattle.uses.proofs.Uses.{by_past, pair_dead, pair_unseen, pair_seen}
use Rattle.uses.proofs.arcs_taken.Goals as goal
use Rattle.uses.proofs.arcs_taken.Goals.{then-in_service+then-v-x, else-in_service, else-in_service-via-then-in_service+else-v-x, else-in_service-via-else-in_service}

pub loop-l-init : goal.loop-l-init
loop-l-init c = laid_none false (2 * max_links) (taken_by c.args.ends.now.plant c.args.v (flag c.args.two.now))

pub bounds-v-x : goal.bounds-v-x
bounds-v-x c = tail-place c.args.ends.now.plant c.args.ends.now.tails c.args.ends.now.ends.tails_are c.args.ends.now.sound (2 * c.loop-l.l)

pub bounds-v-y : goal.bounds-v-y
bounds-v-y c = head-place c.args.ends.now.plant c.args.ends.now.heads c.args.ends.now.ends.heads_are c.args.ends.now.sound (2 * c.loop-l.l)

pub loop-l-preserved : goal.loop-l-preserved
loop-l-preserved c =
    let p = c.args.ends.now.plant in
    let v = c.args.v in
    let two = flag c.args.two.now in
    let l = c.loop-l.l in
    let u = c.loop-l.u in
    let d = c.loop-l.invariant in
    let place : 2 * l + 1 < 2 * max_links = omega (arith, c.loop-l-test.true, c.args.ends.now.sound.few_links) in
    let is = live-listed p l c.loop-l-test.true ∙ sym c.in_service.ensures in
    let x = first_end p c.args.ends.now.tails c.args.ends.now.ends.tails_are l in
    let y = second_end p c.args.ends.now.heads c.args.ends.now.ends.heads_are l in
    elim c.if-in_service.branch [
      | then-in_service+then-v-x w ↦
          let e = pair_seen p v two l (is ∙ w.if-in_service.true) x y w.if-v-x.true _ _ w.taken.ensures w.taken-then-v-x.ensures in
          rw w.u-is (laid_put_two false (2 * max_links) _ l u d _ _ place e.0 e.1)
      | else-in_service w ↦
          let e : (taken_by p v two (2 * l) ≡ false) × (taken_by p v two (2 * l + 1) ≡ false) = elim w.else-in_service.branch [
            | else-in_service-via-then-in_service+else-v-x w' ↦ pair_unseen p v two l (is ∙ w'.if-in_service.true) x y w'.if-v-x.false
            | else-in_service-via-else-in_service w' ↦ pair_dead p v two l (is ∙ w'.if-in_service.false)
          ] in
          rw w.u-is (laid_pass_two false (2 * max_links) _ l u d e.0 e.1)
    ]

pub returns : goal.returns
returns c =
    let k = c.loop-l in
    record {
      places = k.invariant.places;
      tells = laid_all false (2 * max_links) _ (2 * k.l) k.u k.invariant (λ a h. by_past c.args.ends.now.plant _ _ a (omega (arith, c.loop-l-test.false)));
    }
