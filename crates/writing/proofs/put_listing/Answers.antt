use Rattle.std.proofs.Common.{arith}
use Rattle.lists.proofs.Arrays.{laid}
use Rattle.listing.specs.Listing.{header_bytes}
use Rattle.listing.proofs.WriteLaws.{header_by, encode-size, laid-listing}
use Rattle.writing.proofs.put_listing.Goals as goal

pub put_part-from-requires : goal.put_part-from-requires
put_part-from-requires c = (
  omega arith,
  (
    omega arith,
    rw (header_by c.args.p.now c.header_fields.ensures c.header_values.ensures) (omega (arith, c.requires, encode-size c.args.p.now)),
  ),
)

pub put_links-requires : goal.put_links-requires
put_links-requires c =
    let p = c.args.p.now in
    let e = header_by p c.header_fields.ensures c.header_values.ensures in
    omega (
      arith,
      c.requires,
      encode-size p,
      rw e at c.put_part-from.ensures.value,
      laid c.args.buf.now c.put_part-from.new.buf 0 (header_bytes p) (rw e at c.put_part-from.ensures.buf_after),
    )

pub returns : goal.returns
returns c =
    let e = header_by c.args.p.now c.header_fields.ensures c.header_values.ensures in
    laid-listing c.args.p.now c.args.buf.now c.put_part-from.new.buf c.put_links.new.buf c.put_part-from.result (omega (arith, rw e at c.put_part-from.ensures.value))
    (rw e at c.put_part-from.ensures.buf_after) c.put_links.ensures
