-- What the writer comes to and leaves in the lent buffer: refusals 5, 6, 7 and 16 in checking order, for any plant value.
use Rattle.std.specs.Prelude.{Bool, not, ◌&&◌, ◌||◌, List, [], ◌∷◌, ◌++◌, ℕ, eqb, ltb, length, drop}
use Rattle.lists.specs.Members.{all}
use Rattle.plant.specs.declared.Link.{Link}
use Rattle.plant.specs.declared.Plant.{Plant}
use Rattle.answers.specs.Checks.{Checked, check, answer, ◌then◌, leaves}
use Rattle.listing.specs.Listing.{value_out_of_range, sound_link, links_of, encode}

unfoldable pub is_zero : Link → Bool
is_zero l = eqb l.first 0 && (eqb l.second 0 && (eqb l.tag 0 && not l.out_of_service))

-- 5, of a plant: a header value is outside its range, the start is not below the switch count, or a place past the links is not zero, a
-- mark included
unfoldable pub plant_out_of_range : Plant → Bool
plant_out_of_range p = value_out_of_range p.switches p.count p.start || not (all is_zero (drop p.count p.links))

-- 6 and 7, record by record
abbrev pub sound_links : ℕ → List Link → Checked Unit
sound_links switches [] = check [] tt
sound_links switches (l ∷ ls) = sound_link switches l then λ _. sound_links switches ls

-- all of 5, then 6 and 7
unfoldable pub sound_plant : Plant → Checked Unit
sound_plant p = check {A = Unit} ((5, plant_out_of_range p) ∷ []) tt then λ _. sound_links p.switches (links_of p)

-- 16: the lent buffer b is shorter than the listing s
unfoldable pub buffer_short : List ℕ → List ℕ → Bool
buffer_short s b = ltb (length b) (length s)

-- the length of the listing
unfoldable pub writing : Plant → List ℕ → Checked ℕ
writing p b = sound_plant p then λ _. check ((16, buffer_short (encode p) b) ∷ []) (length (encode p))

-- the buffer afterwards: the listing, then its old bytes; at a refusal as it was
unfoldable pub buffer_after : Plant → List ℕ → List ℕ
buffer_after p b = leaves (λ n. encode p ++ drop n b) b (answer (writing p b))
