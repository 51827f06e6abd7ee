-- `size` bytes and those of the links from place i on make the listing.
use Rattle.std.proofs.Common.{◌≡◌, ◌+◌, ◌*◌, ◌≤◌, length, drop}
use Rattle.plant.specs.Links.{zero_link}
use Rattle.listing.specs.Listing.{header_bytes, links_bytes}
use Rattle.writing.proofs.listing_size.Given as goal

abbrev pub invariant-loop-l : goal.invariant-loop-l
invariant-loop-l l = record {
  short : l.size ≤ 17 * l.l-index + 17;
  whole : l.size + length (links_bytes l.before (drop l.l-index l.l-items)) ≡ length (header_bytes l.p) + length (links_bytes zero_link l.l-items);
}
