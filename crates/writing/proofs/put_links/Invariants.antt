-- The bytes of the links from place i on, laid into the buffer, give what all of them give.
use Rattle.std.proofs.Common.{drop}
use Rattle.plant.specs.Links.{zero_link}
use Rattle.encoder.proofs.PutLaws.{Laid}
use Rattle.listing.specs.Listing.{links_bytes}
use Rattle.writing.proofs.put_links.Given as goal

abbrev pub invariant-loop-l : goal.invariant-loop-l
invariant-loop-l l = Laid (links_bytes zero_link l.l-items) l.initial.buf l.from (links_bytes l.before (drop l.l-index l.l-items)) l.buf l.at
