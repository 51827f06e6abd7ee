-- Inner: what the steps of the reader give stands for, and what the type of a plant value alone says of it.
use Rattle.std.specs.Prelude.{◌≡◌, List, ℕ, ◌^◌, ◌<◌, length, drop}
use Rattle.plant.specs.declared.Link.{Link}
use Rattle.plant.specs.declared.Plant.{Plant}
use Rattle.plant.specs.Links.{plant_with, link_at}
use Rattle.limits.specs.Limits.{max_links}
use Rattle.listing.specs.declared.header.Header.{Header}
use Rattle.listing.specs.declared.Linked.{Linked}

-- the plant that a header tells of, with no link yet
abbrev pub plant_of : Header → Plant
plant_of h = plant_with max_links h.switches h.count h.start

-- where s is the listing: what was read, and the bytes after it
abbrev pub header_of : List ℕ → Header → Plant × List ℕ
header_of s h = (plant_of h, drop h.next s)

abbrev pub link_after : List ℕ → Link × ℕ → Link × List ℕ
link_after s r = (r.0, drop r.1 s)

abbrev pub linked_of : List ℕ → Linked → Plant × List ℕ
linked_of s l = (l.plant, drop l.next s)

-- what the type of a plant value alone says of it
pub record Typed (p : Plant) : Type 0 where
  pub places : length p.links ≡ max_links
  pub tags : (l : ℕ) → l < max_links → (link_at p l).tag < 2 ^ 16
