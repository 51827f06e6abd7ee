use Rattle.std.proofs.Common.{◌≡◌, ap, ◌∙◌, [], length, drop, arith}
use lib.ListN.{drop_of_length-le}
use mathlib.Core.List.{List}
use Rattle.plant.specs.declared.Link.{Link}
use Rattle.plant.specs.Links.{zero_link}
use Rattle.listing.specs.Listing.{links_bytes}
use Rattle.listing.proofs.WriteLaws.{header_by, link_by, size-next, encode-size}
use Rattle.writing.proofs.listing_size.Goals as goal

pub loop-l-init : goal.loop-l-init
loop-l-init c =
    let e = c.part_size-size.ensures.0 ∙ ap length (header_by c.args.p.now c.header_fields.ensures c.header_values.ensures) in
    record {
      short = omega (arith, c.part_size-size.ensures.1);
      whole = omega (arith, ap (λ (l : Link). length (links_bytes l c.links_held-l-items.result.now)) c.zero-before.ensures);
    }

pub loop-l-preserved : goal.loop-l-preserved
loop-l-preserved c =
    let before = c.loop-l.before in
    let e = c.part_size-size-in-loop-l.ensures.0 ∙ ap length (link_by before _ c.link_fields.ensures c.link_values.ensures) in
    record {
      short = omega (arith, c.part_size-size-in-loop-l.ensures.1, c.loop-l.invariant.short);
      whole = omega (arith, c.loop-l.invariant.whole, size-next _ _ c.loop-l-test.true before);
    }

pub returns : goal.returns
returns c =
    let ls = c.links_held-l-items.result.now in
    let none : drop c.loop-l.l-index ls ≡ [] = drop_of_length-le ls {i = c.loop-l.l-index} c.loop-l-test.false in
    omega (
      arith,
      c.loop-l.invariant.whole,
      ap (λ (ks : List Link). length (links_bytes c.loop-l.before ks)) none,
      encode-size c.args.p.now,
      ap (λ (ks : List Link). length (links_bytes zero_link ks)) c.links_held-l-items.ensures.links_are,
    )
