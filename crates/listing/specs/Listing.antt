-- The listing (document 01, "Listing bytes" and refusals 1 to 8; document 02, order 7, the mark of a link): from bytes to a plant, and from
-- a plant to bytes.
use Rattle.std.specs.Prelude.{Bool, not, ◌&&◌, List, [], ◌∷◌, ◌++◌, ℕ, zero, suc, eqb, leb, ltb, length, get_or, take}
use Rattle.lists.specs.Count.{bit}
use Rattle.lists.specs.Padded.{padded}
use Rattle.plant.specs.declared.Link.{Link}
use Rattle.plant.specs.declared.Plant.{Plant}
use Rattle.plant.specs.Links.{zero_link, plant_with}
use Rattle.answers.specs.Checks.{Checked, check, ◌then◌}
use Rattle.limits.specs.Limits.{max_switches, max_links}
use Rattle.codec.specs.declared.Field.{Field}
use Rattle.codec.specs.Part.{part, part_bytes}

-- ---- the fields, by rising bit

abbrev pub field : ℕ → ℕ → Field
field width absent = record { width = width; absent = absent }

-- switch count, link count, start switch
abbrev pub header_fields : List Field
header_fields = field 1 1 ∷ field 2 0 ∷ field 1 0 ∷ []

-- a bit with no field: a field of no bytes, in which the number is 0; its absence means 1
abbrev pub no_bytes : Field
no_bytes = field 0 1

-- document 01's fields of a link: first end, second end, tag; an absent end is that of the record before
abbrev pub plain_fields : Link → List Field
plain_fields before = field 1 before.first ∷ field 1 before.second ∷ field 2 0 ∷ []

-- and bit 3, which has no field and marks the link out of service: the value is 0 then, and else 1
abbrev pub link_fields : Link → List Field
link_fields before = plain_fields before ++ (no_bytes ∷ [])

-- ---- the conditions of refusals 5 to 8

-- 5, of a header: a value is outside its range, or the start is not below the switch count
unfoldable pub value_out_of_range : ℕ → ℕ → ℕ → Bool
value_out_of_range switches count start =
    not (leb 1 switches && leb switches max_switches && leb count max_links && ltb start switches)

-- 6: an end is not below the switch count
unfoldable pub end_out_of_range : ℕ → Link → Bool
end_out_of_range switches l = not (ltb l.first switches && ltb l.second switches)

-- 7: the link joins a switch to itself
unfoldable pub self_link : Link → Bool
self_link l = eqb l.first l.second

-- 8: bytes remain
unfoldable pub bytes_remain : List ℕ → Bool
bytes_remain s = ltb 0 (length s)

-- ---- reading: each step tries what concerns it and gives what it read, with the bytes after it

abbrev pub link_of : ℕ → ℕ → ℕ → Bool → Link
link_of first second tag mark = record { first = first; second = second; tag = tag; out_of_service = mark }

abbrev pub link_from : List ℕ → Link
link_from vs = link_of (get_or vs 0 0) (get_or vs 1 0) (get_or vs 2 0) (eqb (get_or vs 3 0) 0)

abbrev pub header_out_of_range : List ℕ → Bool
header_out_of_range vs = value_out_of_range (get_or vs 0 0) (get_or vs 1 0) (get_or vs 2 0)

abbrev pub header_from : List ℕ → Plant
header_from vs = plant_with max_links (get_or vs 0 0) (get_or vs 1 0) (get_or vs 2 0)

-- the header: the plant that it tells of, with no link yet
unfoldable pub header : List ℕ → Checked (Plant × List ℕ)
header s = part header_fields s then λ r. check ((5, header_out_of_range r.0) ∷ []) (header_from r.0, r.1)

-- the ends of a link
unfoldable pub sound_link : ℕ → Link → Checked Unit
sound_link switches l = check ((6, end_out_of_range switches l) ∷ (7, self_link l) ∷ []) tt

-- one link, after the record `before`
unfoldable pub link : ℕ → Link → List ℕ → Checked (Link × List ℕ)
link switches before s =
    part (link_fields before) s then λ r. sound_link switches (link_from r.0) then λ _. check [] (link_from r.0, r.1)

-- so many links in order
unfoldable pub links : ℕ → ℕ → Link → List ℕ → Checked (List Link × List ℕ)
links switches zero before s = check [] ([], s)
links switches (suc n) before s = link switches before s then λ r. links switches n r.0 r.1 then λ q. check [] (r.0 ∷ q.0, q.1)

-- the plant p with these links, and zeros in every place past them
unfoldable pub with_links : Plant → List Link → Plant
with_links p ls = record {
  switches = p.switches;
  count = p.count;
  start = p.start;
  links = padded max_links zero_link ls;
}

-- the links of the plant p; before the first record both ends count as 0
unfoldable pub linked : Plant → List ℕ → Checked (Plant × List ℕ)
linked p s = links p.switches p.count zero_link s then λ r. check [] (with_links p r.0, r.1)

-- the end of the listing of the plant p
unfoldable pub ended : Plant → List ℕ → Checked Plant
ended p s = check ((8, bytes_remain s) ∷ []) p

-- the whole listing: the header, then the records in order, then the end
unfoldable pub reading : List ℕ → Checked Plant
reading s = header s then (λ h. linked h.0 h.1) then (λ l. ended l.0 l.1)

-- ---- writing

abbrev pub links_of : Plant → List Link
links_of p = take p.count p.links

unfoldable pub header_bytes : Plant → List ℕ
header_bytes p = part_bytes header_fields (p.switches ∷ p.count ∷ p.start ∷ [])

-- 1 in service, 0 out of service
abbrev pub service : Link → ℕ
service l = bit (not l.out_of_service)

abbrev pub link_values : Link → List ℕ
link_values l = l.first ∷ l.second ∷ l.tag ∷ service l ∷ []

unfoldable pub link_bytes : Link → Link → List ℕ
link_bytes before l = part_bytes (link_fields before) (link_values l)

abbrev pub links_bytes : Link → List Link → List ℕ
links_bytes before [] = []
links_bytes before (l ∷ ls) = link_bytes before l ++ links_bytes l ls

unfoldable pub encode : Plant → List ℕ
encode p = header_bytes p ++ links_bytes zero_link (links_of p)
