-- The writer's loops over the link places: what is left of them gives what the whole gives; and what the writer answers and leaves. Assumes nothing.
use mathlib.Core.Path.{◌≡◌, refl, sym, ap, ◌∙◌}
use mathlib.Core.List.{List, [], ◌∷◌, ◌++◌}
use Prim.Native.Nat.{ℕ, ◌+◌, ◌<◌}
use native.Mathlib.Omega.{arith}
use borrow.Author.Tests.{ltb-false}
use lib.Dec.{ltb}
use lib.ListN.{length, get_or, drop, length-append}
use lib.Seq.{sets}
use Rattle.std.proofs.lemmas.List.{drop_more, at_drop_more}
use Rattle.lists.proofs.Arrays.{sets-append, sets-front}
use Rattle.plant.specs.declared.Link.{Link}
use Rattle.plant.specs.declared.Plant.{Plant}
use Rattle.plant.specs.Links.{zero_link}
use Rattle.std.specs.Prelude.{Result, Ok, Err}
use Rattle.std.specs.Result.{result_and}
use Rattle.answers.specs.declared.Refusal.{Refusal}
use Rattle.answers.specs.Answers.{given, refused, number_of}
use Rattle.answers.specs.Results.{answer_of, Judges}
use Rattle.answers.specs.Checks.{Checked, Conditions, check, trying, answer}
use Rattle.answers.proofs.Checks.{none-append, goes_on, stops, left-kept}
use Rattle.answers.proofs.Results.{none_judged, passed, turned_down, and_judges}
use Rattle.codec.specs.declared.Field.{Field}
use Rattle.codec.specs.Part.{part_bytes}
use Rattle.listing.specs.Listing.{header_fields, link_fields, sound_link, links_of, header_bytes, link_values, link_bytes, links_bytes, encode}
use Rattle.listing.specs.Writing.{plant_out_of_range, sound_links, sound_plant, buffer_short, writing, buffer_after}

-- ---- the bytes of a header and of a link, by their fields and values

module _ {fs : List Field} {vs : List ℕ} where
  pub header_by : (p : Plant) → fs ≡ header_fields → vs ≡ p.switches ∷ p.count ∷ p.start ∷ [] → part_bytes fs vs ≡ header_bytes p
  unfolding header_bytes
  header_by p e f = rw (e, f) refl

  pub link_by : (before l : Link) → fs ≡ link_fields before → vs ≡ link_values l → part_bytes fs vs ≡ link_bytes before l
  unfolding link_bytes
  link_by before l e f = rw (e, f) refl

-- ---- the links from link i on

module _ (ls : List Link) (i : ℕ) (h : i < length ls) where
  -- refusals 6 and 7
  module _ (switches : ℕ) where
    abbrev ends : Checked Unit
    ends = sound_link switches (get_or ls i zero_link)

    abbrev more : Unit {0} → Checked Unit
    more _ = sound_links switches (drop (i + 1) ls)

    pub judge_on : given tt ≡ answer ends → answer (sound_links switches (drop (i + 1) ls)) ≡ answer (sound_links switches (drop i ls))
    judge_on e = rw (drop_more ls i zero_link h) (sym (goes_on ends more tt (sym e)))

    pub judge_refused : (n : ℕ) → refused n ≡ answer ends → refused n ≡ answer (sound_links switches (drop i ls))
    judge_refused n e = rw (drop_more ls i zero_link h) (sym (stops ends more n (sym e)))

  -- the bytes of the links
  module _ (before : Link) where
    pub left-next : links_bytes before (drop i ls) ≡ link_bytes before (get_or ls i zero_link) ++ links_bytes (get_or ls i zero_link) (drop (i + 1) ls)
    left-next = at_drop_more (links_bytes before) ls i zero_link h

    pub size-next : length (links_bytes before (drop i ls)) ≡ length (link_bytes before (get_or ls i zero_link)) + length (links_bytes (get_or ls i zero_link) (drop (i + 1) ls))
    size-next = ap length left-next ∙ length-append (link_bytes before (get_or ls i zero_link)) (links_bytes (get_or ls i zero_link) (drop (i + 1) ls))

-- ---- all of 5, then 6 and 7

module _ (p : Plant) where
  pub encode-size : length (encode p) ≡ length (header_bytes p) + length (links_bytes zero_link (links_of p))
  unfolding encode
  encode-size = length-append (header_bytes p) (links_bytes zero_link (links_of p))

  -- the header, then the links
  pub laid-listing : (b b₁ b₂ : List ℕ) (from : ℕ) → from ≡ length (header_bytes p) → b₁ ≡ sets b 0 (header_bytes p) → b₂ ≡ sets b₁ from (links_bytes zero_link (links_of p)) → b₂ ≡ sets b 0 (encode p)
  unfolding encode
  laid-listing b b₁ b₂ from e f g =
      let k : from ≡ 0 + length (header_bytes p) = omega arith in
      g ∙ rw (f, k) (sets-append b 0 (header_bytes p) (links_bytes zero_link (links_of p)))

  pub plant-tries : answer (sound_plant p) ≡ trying ((5, plant_out_of_range p) ∷ []) (answer (sound_links p.switches (links_of p)))
  unfolding sound_plant
  plant-tries = refl

-- ---- what the writer answers and leaves

-- its refusals in checking order
abbrev pub write_checks : Plant → List ℕ → Conditions
write_checks p b = (sound_plant p).checks ++ (16, buffer_short (encode p) b) ∷ []

-- the plant is judged, then the room for its listing of n bytes
pub judged_both : (p : Plant) (b : List ℕ) (n : ℕ) (v w r : Result Unit Refusal) → answer_of v ≡ answer (sound_plant p) → n ≡ length (encode p) → Judges ((16, ltb (length b) n) ∷ []) w
    → r ≡ result_and v w → Judges (write_checks p b) r
unfolding buffer_short
judged_both p b n v w r e f j g = rw g (and_judges (sound_plant p).checks ((16, buffer_short (encode p) b) ∷ []) v w (record { first = e }) (rw f at j))

module _ (p : Plant) (b : List ℕ) where
  pub writing_on : answer (sound_plant p) ≡ given tt → answer (writing p b) ≡ answer (check ((16, buffer_short (encode p) b) ∷ []) (length (encode p)))
  unfolding writing
  writing_on e = goes_on (sound_plant p) (λ _. check ((16, buffer_short (encode p) b) ∷ []) (length (encode p))) tt e

  pub kept : (n : ℕ) → answer (writing p b) ≡ refused n → buffer_after p b ≡ b
  unfolding buffer_after
  kept n e = left-kept (λ k. encode p ++ drop k b) b (answer (writing p b)) n e

  pub write-refused : (k : Refusal) → Judges (write_checks p b) (Err k) → answer (writing p b) ≡ refused (number_of k)
  unfolding writing
  write-refused k j = turned_down (write_checks p b) (Err k) j (given (length (encode p))) k refl

  module _ (x : Unit {0}) (j : Judges (write_checks p b) (Ok x)) where
    pub write-length : answer (writing p b) ≡ given (length (encode p))
    unfolding writing
    write-length = passed (write_checks p b) (Ok x) j (given (length (encode p))) x refl

    pub left-written : sets b 0 (encode p) ≡ buffer_after p b
    unfolding buffer_after buffer_short
    left-written =
        let room = (none-append (sound_plant p).checks ((16, buffer_short (encode p) b) ∷ []) (none_judged (write_checks p b) (Ok x) j x refl)).1.0 in
        rw write-length (sets-front b (encode p) (ltb-false (length b) (length (encode p)) room))
