use Rattle.std.proofs.Common.{◌+◌, drop, arith}
use Rattle.plant.specs.Links.{zero_link}
use Rattle.encoder.proofs.PutLaws.{laid-room, laid_one}
use Rattle.listing.specs.Listing.{link_bytes, links_bytes}
use lib.ListN.{get_or}
use Rattle.listing.proofs.WriteLaws.{link_by, left-next}
use Rattle.writing.proofs.put_links.Goals as goal

pub put_part-at-requires : goal.put_part-at-requires
put_part-at-requires c =
    let before = c.loop-l.before in
    let i = c.loop-l.l-index in
    let ls = c.links_held-l-items.result.now in
    let l = get_or ls i zero_link in
    let next = left-next ls i c.loop-l-test.true before in (
      omega arith,
      (
        omega arith,
        rw (link_by before l c.link_fields.ensures c.link_values.ensures)
            (laid-room _ _ _ _ (link_bytes before l) (links_bytes l (drop (i + 1) ls)) _ _ c.loop-l.invariant next
            (rw c.links_held-l-items.ensures.links_are c.requires)),
      ),
    )

pub loop-l-preserved : goal.loop-l-preserved
loop-l-preserved c =
    let before = c.loop-l.before in
    let i = c.loop-l.l-index in
    let ls = c.links_held-l-items.result.now in
    let l = get_or ls i zero_link in
    let next = left-next ls i c.loop-l-test.true before in
    let e = link_by before l c.link_fields.ensures c.link_values.ensures in
    laid_one _ _ _ _ (link_bytes before l) (links_bytes l (drop (i + 1) ls)) _ _ c.loop-l.invariant next
    _ _ (rw e at c.put_part-at.ensures.value) (rw e at c.put_part-at.ensures.buf_after)
