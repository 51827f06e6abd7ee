-- After each link, what is left of them, with the last one as the record before, gives what all of them give.
use Rattle.listing.specs.Steps.{plant_of}
use Rattle.listing.proofs.ReadLaws.{Read}
use Rattle.listing.proofs.read_links.Given as goal

abbrev pub invariant-loop-i : goal.invariant-loop-i
invariant-loop-i l = Read l.s l.at (plant_of l.h) l.i l.plant l.before l.next
