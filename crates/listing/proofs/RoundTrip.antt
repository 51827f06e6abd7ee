-- The round trip of listings: a plant that was read is sound and is written as the same bytes; a sound plant that was written is read as the same plant.
-- Assumes nothing.
use mathlib.Core.Path.{◌≡◌, refl, sym, ap, ap₂, ◌∙◌, subst}
use mathlib.Core.Logic.{inl, inr}
use mathlib.Core.Bool.{Bool, true, false, not}
use mathlib.Core.List.{List, [], ◌∷◌, ◌++◌, append_assoc, append-nil}
use Prim.Native.Nat.{ℕ, zero, suc, ◌-◌, ◌≤◌}
use native.Mathlib.Omega.{arith}
use lib.Dec.{eqb}
use lib.ListN.{length, get_or, replicate, take-append-drop}
use lib.Seq.{take_at, drop_at}
use Rattle.lists.specs.Members.{Each}
use Rattle.lists.specs.Count.{bit}
use Rattle.plant.specs.declared.Link.{Link}
use Rattle.plant.specs.declared.Plant.{Plant}
use Rattle.plant.specs.Links.{zero_link, marked, plant_with}
use Rattle.answers.specs.Answers.{given}
use Rattle.answers.specs.Checks.{NoneHolds, check, answer, ◌then◌}
use Rattle.answers.proofs.Checks.{none-append, none-trying, given-exactly, goes_on}
use Rattle.limits.specs.Limits.{max_switches, max_links}
use Rattle.limits.specs.Sound.{Sound}
use Rattle.codec.specs.Field.{Bytes}
use Rattle.codec.specs.Part.{field_values, part, part_bytes}
use Rattle.codec.proofs.PartRoundTrip.{CanHold, hold_fits, Whole, part_again, part-written, bytes-append, part_bytes_lem}
use Rattle.listing.specs.Listing.{field, no_bytes, header_fields, link_fields, header_out_of_range, header_from, header, link_from, sound_link, link, links, bytes_remain, with_links, linked, ended, reading, links_of, header_bytes, link_values, link_bytes, links_bytes, encode}
use Rattle.listing.proofs.ReadLaws.{places}
use Rattle.listing.proofs.ConditionLaws.{no_byte_remains}
use Rattle.listing.proofs.SoundLaws.{InRange, in_range, sound-ends, Fitting, Parts, length-links, sound-parts, parts-sound, range_in, ends-sound}

-- ---- what was read is sound, and is written again as it stands

-- a link is made from its values, and its values from those that a record can hold
mark-read : (b : Bool) → eqb (bit (not b)) 0 ≡ b
mark-read true = refl
mark-read false = refl

link-same : (l : Link) → link_from (link_values l) ≡ l
link-same l = ap (λ (b : Bool). marked b l) (mark-read l.out_of_service)

mark-same : (v : ℕ) → CanHold no_bytes v → bit (not (eqb v 0)) ≡ v
mark-same v (inl e) = rw e refl
mark-same v (inr k) = let z : v ≡ 0 = omega arith in rw z refl

-- one record
record LinkRead (before : Link) (s : List ℕ) (switches : ℕ) (r : Link × List ℕ) : Type 0 where
  fitting : Fitting switches r.0
  again : link_bytes before r.0 ++ r.1 ≡ s
  bytes_after : Bytes r.1

link-read : (switches : ℕ) (before : Link) (s : List ℕ) → Bytes s → NoneHolds (link switches before s).checks → LinkRead before s switches (link switches before s).result
unfolding link part sound_link link_bytes field_values
link-read switches before s h c =
    let l = link_from (field_values (link_fields before) s) in
    let q = none-append (part (link_fields before) s).checks (sound_link switches l).checks c in
    let r = part_again (link_fields before) s h q.0 in
    record {
      fitting = record { ends = sound-ends switches l (none-trying (sound_link switches l).checks (given tt) q.1); tag_fits = hold_fits (field 2 0) l.tag (omega arith) r.hold.1.1.0 };
      again = rw (mark-same (get_or (field_values (link_fields before) s) 3 0) r.hold.1.1.1.0) r.again;
      bytes_after = r.bytes_after;
    }

-- so many records
record LinksRead (switches n : ℕ) (before : Link) (s : List ℕ) (r : List Link × List ℕ) : Type 0 where
  each_link : Each (Fitting switches) r.0
  long : length r.0 ≡ n
  again : links_bytes before r.0 ++ r.1 ≡ s

links-read : (switches n : ℕ) (before : Link) (s : List ℕ) → Bytes s → NoneHolds (links switches n before s).checks → LinksRead switches n before s (links switches n before s).result
unfolding links
links-read switches zero before s h c = record { each_link = tt; long = refl; again = refl }
links-read switches (suc n) before s h c =
    let r = (link switches before s).result in
    let k = links switches n r.0 r.1 in
    let q = none-append (link switches before s).checks (k.checks ++ []) c in
    let one = link-read switches before s h q.0 in
    let more = links-read switches n r.0 r.1 one.bytes_after (none-append k.checks [] q.1).0 in
    record {
      each_link = (one.fitting, more.each_link);
      long = ap suc more.long;
      again = append_assoc (link_bytes before r.0) (links_bytes r.0 k.result.0) k.result.1 ∙ ap (λ (u : List ℕ). link_bytes before r.0 ++ u) more.again ∙ one.again;
    }

-- ---- a plant with these links

module _ (p : Plant) (ls : List Link) (long : length ls ≡ p.count) where
  links_of_with : links_of (with_links p ls) ≡ ls
  unfolding with_links
  links_of_with = take_at ls (replicate (max_links - length ls) zero_link) p.count long

  encode_with : encode (with_links p ls) ≡ header_bytes p ++ links_bytes zero_link ls
  unfolding encode with_links header_bytes
  encode_with = ap (λ (ks : List Link). header_bytes p ++ links_bytes zero_link ks) links_of_with

  parts_with : InRange p.switches p.count p.start → Each (Fitting p.switches) ls → Parts (with_links p ls)
  unfolding with_links
  parts_with r k = record {
    header = r;
    each_link = rw links_of_with k;
    places = places p ls ∙ omega (arith, r.few_links);
    zeros = drop_at ls (replicate (max_links - length ls) zero_link) p.count long ∙ ap (λ (n : ℕ). replicate (max_links - n) zero_link) long;
  }

-- ---- the listing

header-same : (s : List ℕ) → header_bytes (header s).result.0 ≡ part_bytes header_fields (field_values header_fields s)
unfolding header part header_bytes plant_with field_values
header-same s = refl

header-whole : (s : List ℕ) → Bytes s → NoneHolds (part header_fields s).checks → Whole header_fields s (field_values header_fields s) (header s).result.1
unfolding header part
header-whole s b c = part_again header_fields s b c

-- a listing of which no condition holds: its header is whole and in range, none holds of its records, and nothing is left
module _ (s : List ℕ) where
  abbrev pub heads : Plant
  heads = (header s).result.0

  abbrev pub follow : List ℕ
  follow = (header s).result.1

  pub record NoneOf : Type 0 where
    pub of_header : NoneHolds (part header_fields s).checks
    pub of_links : NoneHolds (links heads.switches heads.count zero_link follow).checks
    pub at_end : (links heads.switches heads.count zero_link follow).result.1 ≡ []
    pub in_range : InRange heads.switches heads.count heads.start

  pub none_of : NoneHolds (reading s).checks → NoneOf
  unfolding reading header linked ended plant_with
  none_of c =
      let l = links heads.switches heads.count zero_link follow in
      let q = none-append ((header s).checks ++ (l.checks ++ [])) ((8, bytes_remain l.result.1) ∷ []) c in
      let r = none-append (header s).checks (l.checks ++ []) q.0 in
      let u = none-append (part header_fields s).checks _ r.0 in
      record { of_header = u.0; of_links = (none-append l.checks [] r.1).0; at_end = (no_byte_remains l.result.1).0 q.1.0; in_range = in_range _ _ _ u.1.0 }

  record ListingRead : Type 0 where
    sound : Sound (reading s).result
    again : encode (reading s).result ≡ s

  listing_read : Bytes s → NoneHolds (reading s).checks → ListingRead
  unfolding reading linked ended
  listing_read b c = record {
    sound = parts-sound (with_links heads ls) (parts_with heads ls r.long n.in_range r.each_link);
    again = encode_with heads ls r.long ∙ ap₂ (λ (x y : List ℕ). x ++ y) (header-same s) (sym (append-nil (links_bytes zero_link ls)) ∙ (rw n.at_end at r.again)) ∙ w.again;
  }
    where
      n : NoneOf
      n = none_of c

      ls : List Link
      ls = (links heads.switches heads.count zero_link follow).result.0

      w : Whole header_fields s (field_values header_fields s) follow
      w = header-whole s b n.of_header

      r : LinksRead heads.switches heads.count zero_link follow (links heads.switches heads.count zero_link follow).result
      r = links-read heads.switches heads.count zero_link follow w.bytes_after n.of_links

-- a plant that was read is sound
pub decode_sound : (s : List ℕ) (p : Plant) → Bytes s → answer (reading s) ≡ given p → Sound p
decode_sound s p b e = let r = (given-exactly (reading s).checks (reading s).result p).0 e in subst Sound r.1 (listing_read s b r.0).sound

-- it is written as the bytes from which it was read
pub read_write : (s : List ℕ) (p : Plant) → Bytes s → answer (reading s) ≡ given p → encode p ≡ s
read_write s p b e = let r = (given-exactly (reading s).checks (reading s).result p).0 e in rw (sym r.1) (listing_read s b r.0).again

-- ---- what is written is bytes, for any plant

links-bytes : (before : Link) (ls : List Link) → Bytes (links_bytes before ls)
unfolding link_bytes
links-bytes before [] = tt
links-bytes before (l ∷ ls) = bytes-append (link_bytes before l) (links_bytes l ls) (part_bytes_lem (link_fields before) (link_values l) (omega arith)) (links-bytes l ls)

pub encode-bytes : (p : Plant) → Bytes (encode p)
unfolding encode header_bytes
encode-bytes p = bytes-append (header_bytes p) (links_bytes zero_link (links_of p)) (part_bytes_lem header_fields (p.switches ∷ p.count ∷ p.start ∷ []) (omega arith)) (links-bytes zero_link (links_of p))

-- ---- what was written is read

module _ (switches : ℕ) (few : switches ≤ max_switches) where
  mark-held : (b : Bool) → CanHold no_bytes (bit (not b))
  mark-held true = inr (omega arith)
  mark-held false = inl refl

  link-written : (before l : Link) (rest : List ℕ) → Fitting switches l → answer (link switches before (link_bytes before l ++ rest)) ≡ given (l, rest)
  unfolding link link_bytes
  link-written before l rest r =
      goes_on (part (link_fields before) (link_bytes before l ++ rest)) (λ q. sound_link switches (link_from q.0) then λ _. check [] (link_from q.0, q.1)) (link_values l, rest)
      (part-written (link_fields before) (link_values l) rest (inr (omega (arith, r.ends.first_in_is)), (inr (omega (arith, r.ends.second_in)), (inr (omega (arith, r.tag_fits)), (mark-held l.out_of_service, tt)))))
      ∙ ap (λ (k : Link). answer (sound_link switches k then λ _. check [] (k, rest))) (link-same l)
      ∙ goes_on (sound_link switches l) (λ _. check [] (l, rest)) tt (ends-sound switches l r.ends)

  links-written : (before : Link) (ls : List Link) → Each (Fitting switches) ls → answer (links switches (length ls) before (links_bytes before ls)) ≡ given (ls, [])
  unfolding links
  links-written before [] h = refl
  links-written before (l ∷ ls) h =
      goes_on (link switches before (link_bytes before l ++ links_bytes l ls)) (λ r. links switches (length ls) r.0 r.1 then λ q. check [] (r.0 ∷ q.0, q.1)) (l, links_bytes l ls) (link-written before l (links_bytes l ls) h.0)
      ∙ goes_on (links switches (length ls) l (links_bytes l ls)) (λ q. check [] (l ∷ q.0, q.1)) (ls, []) (links-written l ls h.1)

header-written : (p : Plant) (rest : List ℕ) → InRange p.switches p.count p.start → answer (header (header_bytes p ++ rest)) ≡ given (plant_with max_links p.switches p.count p.start, rest)
unfolding header header_bytes
header-written p rest r =
    goes_on (part header_fields (header_bytes p ++ rest)) (λ r. check ((5, header_out_of_range r.0) ∷ []) (header_from r.0, r.1)) (p.switches ∷ p.count ∷ p.start ∷ [], rest)
    (part-written header_fields (p.switches ∷ p.count ∷ p.start ∷ []) rest (inr (omega (arith, r.few_switches)), (inr (omega (arith, r.few_links)), (inr (omega (arith, r.start_in, r.few_switches)), tt))))
    ∙ rw (range_in p.switches p.count p.start r) refl

-- its own links make a plant what it is
with_own : (p : Plant) → Parts p → with_links (plant_with max_links p.switches p.count p.start) (links_of p) ≡ p
unfolding with_links plant_with
with_own p r = ap (λ (ls : List Link). record { switches = p.switches; count = p.count; start = p.start; links = ls }) own
  where
    own : links_of p ++ replicate (max_links - length (links_of p)) zero_link ≡ p.links
    own = rw (length-links p r.header.few_links r.places, sym r.zeros) (take-append-drop p.count p.links)

-- a sound plant that was written is read as that plant
pub write_read : (p : Plant) → Sound p → answer (reading (encode p)) ≡ given p
unfolding reading encode linked ended bytes_remain plant_with
write_read p s =
    let r = sound-parts p s in
    let h = plant_with max_links p.switches p.count p.start in
    let bs = links_bytes zero_link (links_of p) in
    let read : answer (links p.switches p.count zero_link bs) ≡ given (links_of p, []) = rw (length-links p s.few_links s.places) at (links-written p.switches s.few_switches zero_link (links_of p) r.each_link) in
    goes_on (header (encode p) then λ q. linked q.0 q.1) (λ q. ended q.0 q.1) (p, [])
    (goes_on (header (encode p)) (λ q. linked q.0 q.1) (h, bs) (header-written p bs r.header)
    ∙ goes_on (links p.switches p.count zero_link bs) (λ q. check [] (with_links h q.0, q.1)) (links_of p, []) read
    ∙ ap (λ (q : Plant). given (q, [])) (with_own p r))
