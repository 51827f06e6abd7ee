-- Document 01, "Listing bytes": what the bytes of a listing say, field by field, with document 02's order 7 for bit 3 of a link. A listing
-- is read as a plant exactly if its bytes are laid out so.
use Rattle.std.specs.Prelude.{◌≡◌, ◌↔◌, ◌∷◌, ◌++◌, ◌≤◌, ◌<◌, ◌+◌, ◌*◌, ◌/◌, ◌%◌, ◌^◌}
use Rattle.demands.specs.Vocabulary.{true, List, [], ℕ, length, take}
use Rattle.demands.specs.Vocabulary.{replicate, given, answer, Link, Plant, zero_link, link_at, max_switches, max_links, number, bit_at}
use Rattle.demands.specs.Vocabulary.{header, links, reading}
use Rattle.listing.specs.Listing.{link}

-- a field of so many bytes, by its bit of the map: s are the bytes from its place on, v is its value, and t are the bytes after it
pub record FieldIs (bit width absent : ℕ) (s : List ℕ) (v : ℕ) (t : List ℕ) : Type 0 where
  -- "only the fields whose bit is set": then its bytes stand there and hold the value, which is not the one that its absence means
  pub set : bit ≡ 1 → (bs : List ℕ) × (length bs ≡ width) × (s ≡ bs ++ t) × (v ≡ number bs) × (v ≡ absent → ⊥)
  -- else it has no byte, and the value is what its absence means
  pub not_set : bit ≡ 0 → (v ≡ absent) × (t ≡ s)

-- the bytes s begin with a header that tells these three numbers, and t are the bytes after it
pub record HeaderIs (s : List ℕ) (switches count start : ℕ) (t : List ℕ) : Type 0 where
  -- "each part opens with a map byte; then only the fields whose bit is set, by rising bit"
  pub map : ℕ
  pub after_map : List ℕ
  pub opens : s ≡ map ∷ after_map
  -- "bit 0 switch count (one byte, absent = 1)"
  pub after_switches : List ℕ
  pub switch_count : FieldIs (bit_at map 0) 1 1 after_map switches after_switches
  -- "bit 1 link count (two bytes, absent = 0)"
  pub after_links : List ℕ
  pub link_count : FieldIs (bit_at map 1) 2 0 after_switches count after_links
  -- "bit 2 start switch (one byte, absent = 0)"
  pub start_switch : FieldIs (bit_at map 2) 1 0 after_links start t
  -- "no other bit is defined"
  pub no_other : (i : ℕ) → 3 ≤ i → bit_at map i ≡ 0
  -- the values are in their ranges, and the start is a switch
  pub some_switch : 1 ≤ switches
  pub few_switches : switches ≤ max_switches
  pub few_links : count ≤ max_links
  pub start_in : start < switches

-- the bytes s begin with the record of the link l, in a plant with so many switches, where the ends of the record before are `first` and
-- `second`; t are the bytes after it
pub record RecordIs (switches first second : ℕ) (s : List ℕ) (l : Link) (t : List ℕ) : Type 0 where
  pub map : ℕ
  pub after_map : List ℕ
  pub opens : s ≡ map ∷ after_map
  -- "bit 0 first end (one byte, absent = the previous record's first end)"
  pub after_first : List ℕ
  pub first_end : FieldIs (bit_at map 0) 1 first after_map l.first after_first
  -- "bit 1 second end (one byte, absent = the previous record's second end)"
  pub after_second : List ℕ
  pub second_end : FieldIs (bit_at map 1) 1 second after_first l.second after_second
  -- "bit 2 tag (two bytes, absent = 0)"
  pub tag : FieldIs (bit_at map 2) 2 0 after_second l.tag t
  -- "bit 3 of a link's map, with no field, marks the link laid up"
  pub mark : (l.out_of_service ≡ true) ↔ (bit_at map 3 ≡ 1)
  pub no_other : (i : ℕ) → 4 ≤ i → bit_at map i ≡ 0
  -- its ends are two different switches
  pub first_in_is : l.first < switches
  pub second_in : l.second < switches
  pub apart : l.first ≡ l.second → ⊥

-- the bytes s begin with the records of these links in order, the first after a record with these ends; t are the bytes after them
abbrev pub RecordsAre : ℕ → ℕ → ℕ → List ℕ → List Link → List ℕ → Type 0
RecordsAre switches first second s [] t = s ≡ t
RecordsAre switches first second s (l ∷ ls) t =
    (u : List ℕ) × RecordIs switches first second s l u × RecordsAre switches l.first l.second u ls t

-- s is the listing of the plant p
pub record ListingIs (s : List ℕ) (p : Plant) : Type 0 where
  pub after_header : List ℕ
  pub header : HeaderIs s p.switches p.count p.start after_header
  -- one record for each link, in order; "before the first record both ends count as 0"; no byte is left
  pub records : RecordsAre p.switches 0 0 after_header (take p.count p.links) []
  -- "a plant value keeps zeros in every link place past E"
  pub places : length p.links ≡ max_links
  pub zeros : (l : ℕ) → p.count ≤ l → link_at p l ≡ zero_link

pub record ListingBytes : Type 0 where
  -- bit i of a map
  pub bit : (m i : ℕ) → bit_at m i ≡ m / 2 ^ i % 2
  -- the number in the bytes of a field; "two-byte fields have the low byte first" (read aloud)
  pub one_byte : (a : ℕ) → number (a ∷ []) ≡ a
  pub two_bytes : (low high : ℕ) → number (low ∷ high ∷ []) ≡ low + 2 ^ 8 * high
  -- the header, a record, and records in order are accepted exactly if they are laid out so, and give what they tell
  pub header_is : (s : List ℕ) (p : Plant) (t : List ℕ) → (answer (header s) ≡ given (p, t))
      ↔ (HeaderIs s p.switches p.count p.start t × (p.links ≡ replicate max_links zero_link))
  pub record_is : (switches : ℕ) (before : Link) (s : List ℕ) (l : Link) (t : List ℕ)
      → (answer (link switches before s) ≡ given (l, t)) ↔ RecordIs switches before.first before.second s l t
  pub records_are : (switches n : ℕ) (before : Link) (s : List ℕ) (ls : List Link) (t : List ℕ)
      → (answer (links switches n before s) ≡ given (ls, t))
      ↔ ((length ls ≡ n) × RecordsAre switches before.first before.second s ls t)
  -- and so is the whole listing
  pub listing_is : (s : List ℕ) (p : Plant) → (answer (reading s) ≡ given p) ↔ ListingIs s p
