-- What a reading carries: the lent listing, and how far it has come.
use Rattle.std.specs.Prelude.{List, ℕ, drop}
use Rattle.std.specs.Borrow.{Bor}
use Rattle.reading.specs.declared.Reading.{Reading}

abbrev pub reading_at : Bor (List ℕ) → ℕ → Reading
reading_at listing at = record { listing = listing; at = at }

-- every byte of the listing
abbrev pub bytes : Reading → List ℕ
bytes r = r.listing.now

-- those from its place on
abbrev pub left : Reading → List ℕ
left r = drop r.at r.listing.now
