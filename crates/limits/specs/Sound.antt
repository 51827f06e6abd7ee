-- A sound plant, one that keeps the limits: document 01, "Plant and limits", and the zeros of "Listing bytes".
use Rattle.std.specs.Prelude.{◌≡◌, ℕ, ◌^◌, ◌≤◌, ◌<◌, length}
use Rattle.plant.specs.declared.Plant.{Plant}
use Rattle.plant.specs.Links.{zero_link, link_at, first, second}
use Rattle.limits.specs.Limits.{max_switches, max_links}

-- its switches and links are within the limits, its start and the two different ends of each link are switches
pub record Sound (p : Plant) : Type 0 where
  pub some_switch : 1 ≤ p.switches
  pub few_switches : p.switches ≤ max_switches
  pub few_links : p.count ≤ max_links
  pub start_in : p.start < p.switches
  pub first_in_is : (l : ℕ) → l < p.count → first p l < p.switches
  pub second_in : (l : ℕ) → l < p.count → second p l < p.switches
  pub apart : (l : ℕ) → l < p.count → first p l ≡ second p l → ⊥
  -- the tag is a number of 16 bits
  pub tag_fits : (l : ℕ) → l < p.count → (link_at p l).tag < 2 ^ 16
  -- there is a place for each link that a plant can have, and those past the links are zero
  pub places : length p.links ≡ max_links
  pub zeros : (l : ℕ) → p.count ≤ l → link_at p l ≡ zero_link
