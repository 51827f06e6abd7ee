-- A link counts if it has no place, or is in service; one without a place has no mark.
use Rattle.std.proofs.Common.{◌≡◌, ℕ, ◌+◌, not, refl, sym, ap, ◌∙◌, arith}
use lib.ListN.{get_or-eq_default}
use Rattle.lists.specs.Count.{count}
use Rattle.lists.proofs.Count.{count-all}
use Rattle.lists.proofs.Stepwise.{count_yes, count_no}
use Rattle.plant.specs.declared.Link.{Link}
use Rattle.plant.specs.Links.{zero_link, live}
use Rattle.walks.specs.Graph.{live_links}
use Rattle.walks.proofs.Live.{live-listed}
use Rattle.arcs.proofs.links_in_service.Goals as goal
use Rattle.arcs.proofs.links_in_service.Goals.{then-i-ge-MAX_LINKS, then-i-ge-MAX_LINKS-via-then-i-ge-MAX_LINKS, then-i-ge-MAX_LINKS-via-else-i-ge-MAX_LINKS+then-in_service, else-i-ge-MAX_LINKS+else-in_service}

pub loop-l-init : goal.loop-l-init
unfolding count
loop-l-init c = refl

pub overflow_add-e : goal.overflow_add-e
overflow_add-e c = omega (arith, c.loop-l.invariant, c.loop-l-test.true, count-all c.loop-l.l (live c.args.p))

pub loop-l-preserved : goal.loop-l-preserved
loop-l-preserved c =
    let k = c.loop-l in
    let f = live c.args.p in
    elim c.if-i-ge-MAX_LINKS.branch [
      | then-i-ge-MAX_LINKS w ↦ w.e-is ∙ ap (λ (m : ℕ). m + 1) k.invariant ∙ sym (count_yes f k.l (live-listed c.args.p k.l c.loop-l-test.true ∙ elim w.then-i-ge-MAX_LINKS.branch [
        | then-i-ge-MAX_LINKS-via-then-i-ge-MAX_LINKS w' ↦ ap (λ (m : Link). not m.out_of_service) (get_or-eq_default c.args.p.links zero_link {n = k.l} (omega (arith, w'.if-i-ge-MAX_LINKS.true, c.well_formed.0.1.1.1.1.1.0.1.0.1)))
        | then-i-ge-MAX_LINKS-via-else-i-ge-MAX_LINKS+then-in_service w' ↦ sym w'.in_service.ensures ∙ w'.if-in_service.true
      ]))
      | else-i-ge-MAX_LINKS+else-in_service w ↦ w.e-is ∙ k.invariant ∙ sym (count_no f k.l (live-listed c.args.p k.l c.loop-l-test.true ∙ sym w.in_service.ensures ∙ w.if-in_service.false))
    ]

pub returns : goal.returns
unfolding live_links
returns c =
    let k = c.loop-l in
    let all : k.l ≡ c.args.p.count = omega (arith, k.auto.l-end, c.loop-l-test.false) in
    k.invariant ∙ ap (λ (m : ℕ). count m (live c.args.p)) all
