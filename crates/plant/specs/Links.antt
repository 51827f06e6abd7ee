-- The link places of a plant: the zero place, a plant with zeros in all places, and by its number the ends of a link and whether it is in
-- service.
use Rattle.std.specs.Prelude.{ℕ, zero, suc, Bool, false, not, ◌&&◌, ltb, get_or, replicate}
use Rattle.plant.specs.declared.Link.{Link}
use Rattle.plant.specs.declared.Plant.{Plant}

abbrev pub zero_link : Link
zero_link = record { first = 0; second = 0; tag = 0; out_of_service = false }

-- the link with this mark
abbrev pub marked : Bool → Link → Link
marked b l = record { first = l.first; second = l.second; tag = l.tag; out_of_service = b }

-- a plant with so many link places, all zero
unfoldable pub plant_with : ℕ → ℕ → ℕ → ℕ → Plant
plant_with places switches count start = record { switches = switches; count = count; start = start; links = replicate places zero_link }

-- the one or the other, by a number that is 0 or not
abbrev pub side : ℕ → ℕ → ℕ → ℕ
side zero x y = x
side (suc n) x y = y

module _ (p : Plant) where
  abbrev pub link_at : ℕ → Link
  link_at l = get_or p.links l zero_link

  abbrev pub first : ℕ → ℕ
  first l = (link_at l).first

  abbrev pub second : ℕ → ℕ
  second l = (link_at l).second

  -- 'laid up' in document 02, order 7
  abbrev pub is_out_of_service : ℕ → Bool
  is_out_of_service l = (link_at l).out_of_service

  -- is link l in service? It is one of the listing, and not marked. What joins the switches, and what crosses links, goes by this
  unfoldable pub live : ℕ → Bool
  live l = ltb l p.count && not (is_out_of_service l)
