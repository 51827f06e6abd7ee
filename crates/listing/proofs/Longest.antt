-- The longest sound listing has 1,285 bytes: none is longer, and one is as long. Assumes nothing.
use mathlib.Core.Path.{◌≡◌, refl, ap}
use mathlib.Core.Bool.{false}
use mathlib.Core.List.{List, [], ◌∷◌}
use Prim.Native.Nat.{ℕ, zero, suc, ◌+◌, ◌*◌, ◌^◌, ◌≤◌, ◌<◌}
use native.Mathlib.Omega.{arith}
use lib.ListN.{length}
use Rattle.lists.specs.Members.{Each}
use Rattle.lists.proofs.Members.{each_at}
use Rattle.plant.specs.declared.Link.{Link}
use Rattle.plant.specs.declared.Plant.{Plant}
use Rattle.plant.specs.Links.{zero_link}
use Rattle.answers.specs.Answers.{given}
use Rattle.answers.specs.Checks.{answer}
use Rattle.answers.proofs.Checks.{given-exactly}
use Rattle.limits.specs.Limits.{max_switches, max_links}
use Rattle.limits.specs.Sound.{Sound}
use Rattle.codec.specs.Part.{part, part_bytes}
use Rattle.codec.proofs.PartRoundTrip.{widths, read_length}
use Rattle.listing.specs.Listing.{header_fields, link_fields, link_of, header_bytes, link_bytes, encode, header, link, links, reading, value_out_of_range, end_out_of_range, self_link, sound_link}
use Rattle.listing.specs.Writing.{plant_out_of_range, sound_plant}
use Rattle.listing.specs.Steps.{Typed}
use Rattle.listing.proofs.RoundTrip.{heads, follow, none_of, write_read}
use Rattle.listing.proofs.WriteRoundTrip.{sound-exactly}

-- a record with all its fields
abbrev pub longest_record : ℕ
longest_record = 1 + widths (link_fields zero_link)

-- a header with all its fields, and as many such records as a plant can have
abbrev pub longest_listing : ℕ
longest_listing = 1 + widths header_fields + max_links * longest_record

pub longest-is : longest_listing ≡ 1285
longest-is = refl

-- ---- none is longer

links-length : (switches n : ℕ) (before : Link) (s : List ℕ) → length s ≤ n * longest_record + length (links switches n before s).result.1
unfolding links link part
links-length switches zero before s = omega arith
links-length switches (suc n) before s =
    let r = (link switches before s).result in omega (arith, read_length (link_fields before) s, links-length switches n r.0 r.1)

pub longest : (s : List ℕ) (p : Plant) → answer (reading s) ≡ given p → length s ≤ longest_listing
unfolding header part
longest s p e =
    let n = none_of s ((given-exactly (reading s).checks (reading s).result p).0 e).0 in
    omega (arith, read_length header_fields s, links-length (heads s).switches (heads s).count zero_link (follow s), ap length n.at_end, n.in_range.few_links)

-- so is what is written of a sound plant
pub encode-length : (p : Plant) → Sound p → length (encode p) ≤ longest_listing
encode-length p s = longest (encode p) p (write_read p s)

-- ---- one is as long: each end differs from that of the record before

abbrev alternating : ℕ → Link → Link → List Link
alternating zero a b = []
alternating (suc n) a b = a ∷ alternating n b a

unfoldable pub longest_plant : Plant
longest_plant = record { switches = max_switches; count = max_links; start = 1; links = alternating max_links (link_of 1 2 1 false) (link_of 2 1 1 false) }

alternating_tags : (n : ℕ) (a b : Link) → a.tag < 2 ^ 16 → b.tag < 2 ^ 16 → Each (λ l. l.tag < 2 ^ 16) (alternating n a b)
alternating_tags zero a b h k = tt
alternating_tags (suc n) a b h k = (h, alternating_tags n b a k h)

longest_typed : Typed longest_plant
unfolding longest_plant
longest_typed = record {
  places = refl;
  tags = each_at (λ l. l.tag < 2 ^ 16) (alternating max_links (link_of 1 2 1 false) (link_of 2 1 1 false)) zero_link (alternating_tags max_links (link_of 1 2 1 false) (link_of 2 1 1 false) (omega arith) (omega arith));
}

longest-sound : Sound longest_plant
unfolding longest_plant sound_plant plant_out_of_range value_out_of_range sound_link end_out_of_range self_link
longest-sound = (sound-exactly longest_plant longest_typed).0 refl

pub longest-attained : (length (encode longest_plant) ≡ longest_listing) × (answer (reading (encode longest_plant)) ≡ given longest_plant)
unfolding longest_plant encode header_bytes link_bytes part_bytes
longest-attained = (refl, write_read longest_plant longest-sound)
