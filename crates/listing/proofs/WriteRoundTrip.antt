-- The writer's answer and what it leaves in the lent buffer: it refuses by 5, 6, 7 and 16 alone; else the buffer begins with the listing, which is read as the plant that was written. Assumes nothing.
use mathlib.Core.Path.{◌≡◌, refl, ap, ap₂, ◌∙◌}
use mathlib.Core.Logic.{inl, inr, ◌↔◌}
use mathlib.Core.Bool.{true, false, not, ◌&&◌}
use mathlib.Core.List.{List, [], ◌∷◌, ◌++◌}
use Prim.Native.Nat.{ℕ, zero, suc, ◌-◌, ◌≤◌, ◌<◌}
use native.Mathlib.Omega.{arith}
use borrow.Author.Tests.{le-ltb, ltb-false, eqb-true, not-true, not-false}
use lib.Dec.{eqb}
use lib.ListN.{length, get_or, take, drop, replicate, length-append, length-drop}
use lib.Seq.{take_at, get_or-take}
use Rattle.lists.proofs.Tests.{and_true, or_false}
use Rattle.lists.specs.Members.{In, all, Each}
use Rattle.lists.proofs.Members.{each_at, at_each}
use Rattle.plant.specs.declared.Link.{Link}
use Rattle.plant.specs.declared.Plant.{Plant}
use Rattle.plant.specs.Links.{zero_link}
use Rattle.answers.specs.Answers.{Answer, given, refused}
use Rattle.answers.specs.Checks.{check, answer}
use Rattle.answers.proofs.Checks.{given-given, refuse-given, refused-exactly, EachNumber, each_append, first-number, goes_on, came_from}
use Rattle.limits.specs.Limits.{max_links}
use Rattle.limits.specs.Sound.{Sound}
use Rattle.codec.specs.Field.{Bytes}
use Rattle.listing.specs.Listing.{value_out_of_range, sound_link, links_of, reading, encode}
use Rattle.listing.specs.Writing.{is_zero, plant_out_of_range, sound_links, sound_plant, buffer_short, writing, buffer_after}
use Rattle.listing.specs.Steps.{Typed}
use Rattle.listing.proofs.SoundLaws.{InRange, in_range, Ends, sound-ends, Fitting, Parts, length-links, sound-parts, parts-sound, range_in, ends-sound}
use Rattle.listing.proofs.WriteLaws.{writing_on, kept}
use Rattle.listing.proofs.RoundTrip.{decode_sound, read_write, write_read}

-- ---- every refusal is one of 5, 6, 7 and 16

abbrev OfWriter : ℕ → Type 0
OfWriter n = In n (5 ∷ 6 ∷ 7 ∷ 16 ∷ [])

ends-numbers : (switches : ℕ) (ls : List Link) → EachNumber OfWriter (sound_links switches ls).checks
unfolding sound_link
ends-numbers switches [] = tt
ends-numbers switches (l ∷ ls) = (inr (inl refl), (inr (inr (inl refl)), ends-numbers switches ls))

pub writer-numbers : (p : Plant) (b : List ℕ) (n : ℕ) → answer (writing p b) ≡ refused n → In n (5 ∷ 6 ∷ 7 ∷ 16 ∷ [])
unfolding writing sound_plant
writer-numbers p b n e = first-number OfWriter (writing p b).checks n numbers ((refused-exactly (writing p b).checks (length (encode p)) n).0 e)
  where
    numbers : EachNumber OfWriter (writing p b).checks
    numbers = (inl refl, each_append OfWriter (sound_links p.switches (links_of p)).checks ((16, buffer_short (encode p) b) ∷ []) (ends-numbers p.switches (links_of p)) (inr (inr (inr (inl refl))), tt))

-- ---- 5, 6 and 7 are refused exactly where the plant is not sound

zero_is : (l : Link) → is_zero l ≡ true → l ≡ zero_link
unfolding is_zero
zero_is l e =
    let q = and_true (eqb l.first 0) (eqb l.second 0 && (eqb l.tag 0 && not l.out_of_service)) e in
    let r = and_true (eqb l.second 0) (eqb l.tag 0 && not l.out_of_service) q.1 in
    let u = and_true (eqb l.tag 0) (not l.out_of_service) r.1 in
    λ i. record { first = eqb-true l.first 0 q.0 i; second = eqb-true l.second 0 r.0 i; tag = eqb-true l.tag 0 u.0 i; out_of_service = not-true l.out_of_service u.1 i }

all_zero : (ls : List Link) → all is_zero ls ≡ true → ls ≡ replicate (length ls) zero_link
all_zero [] e = refl
all_zero (l ∷ ls) e = let r = and_true (is_zero l) (all is_zero ls) e in ap₂ (λ (k : Link) (ks : List Link). k ∷ ks) (zero_is l r.0) (all_zero ls r.1)

zero_all : (n : ℕ) → all is_zero (replicate n zero_link) ≡ true
unfolding is_zero
zero_all zero = refl
zero_all (suc n) = zero_all n

sound-each : (switches : ℕ) (ls : List Link) → answer (sound_links switches ls) ≡ given tt → Each (Ends switches) ls
sound-each switches [] e = tt
sound-each switches (l ∷ ls) e = let r = came_from (sound_link switches l) (λ _. sound_links switches ls) tt e in (sound-ends switches l r.1, sound-each switches ls r.2)

each-sound : (switches : ℕ) (ls : List Link) → Each (Fitting switches) ls → answer (sound_links switches ls) ≡ given tt
each-sound switches [] h = refl
each-sound switches (l ∷ ls) h = goes_on (sound_link switches l) (λ _. sound_links switches ls) tt (ends-sound switches l h.0.ends) ∙ each-sound switches ls h.1

pub sound-given : (p : Plant) → Sound p → answer (sound_plant p) ≡ given tt
unfolding sound_plant plant_out_of_range
sound-given p s =
    let r = sound-parts p s in
    rw (range_in p.switches p.count p.start r.header, r.zeros, zero_all (max_links - p.count)) (each-sound p.switches (links_of p) r.each_link)

given-sound : (p : Plant) → Typed p → answer (sound_plant p) ≡ given tt → Sound p
unfolding sound_plant plant_out_of_range
given-sound p t e = parts-sound p parts
  where
    past : List Link
    past = drop p.count p.links

    tried : (plant_out_of_range p ≡ false) × (answer (sound_links p.switches (links_of p)) ≡ given tt)
    tried = refuse-given 5 (plant_out_of_range p) (answer (sound_links p.switches (links_of p))) tt e

    tests : (value_out_of_range p.switches p.count p.start ≡ false) × (not (all is_zero past) ≡ false)
    tests = or_false (value_out_of_range p.switches p.count p.start) (not (all is_zero past)) tried.0

    header : InRange p.switches p.count p.start
    header = in_range p.switches p.count p.start tests.0

    linked : (l : ℕ) → l < length (links_of p) → Fitting p.switches (get_or (links_of p) l zero_link)
    linked l h =
        let k : l < p.count = omega (arith, length-links p header.few_links t.places) in
        record {
          ends = each_at (Ends p.switches) (links_of p) zero_link (sound-each p.switches (links_of p) tried.1) l h;
          tag_fits = rw (get_or-take p.count p.links l zero_link k) (t.tags l (omega (arith, header.few_links)));
        }

    parts : Parts p
    parts = record {
      header = header;
      each_link = at_each (Fitting p.switches) (links_of p) zero_link linked;
      places = t.places;
      zeros = all_zero past (not-false (all is_zero past) tests.1) ∙ ap (λ (n : ℕ). replicate n zero_link) (length-drop p.count p.links ∙ ap (λ (n : ℕ). n - p.count) t.places);
    }

-- a plant value passes 5, 6 and 7 exactly if it is sound
pub sound-exactly : (p : Plant) → Typed p → (answer (sound_plant p) ≡ given tt) ↔ Sound p
sound-exactly p t = (given-sound p t, sound-given p)

-- ---- the lent buffer

-- what a listing that was written needs: a sound plant, and a buffer that is long enough
pub written-given : (p : Plant) (b : List ℕ) (n : ℕ) → answer (writing p b) ≡ given n → (answer (sound_plant p) ≡ given tt) × (length (encode p) ≤ length b) × (length (encode p) ≡ n)
unfolding writing buffer_short
written-given p b n e =
    let q = came_from (sound_plant p) (λ _. check ((16, buffer_short (encode p) b) ∷ []) (length (encode p))) n e in
    let r = refuse-given 16 (buffer_short (encode p) b) (given (length (encode p))) n q.2 in
    (q.1, ltb-false (length b) (length (encode p)) r.0, given-given (length (encode p)) n r.1)

module _ (p : Plant) (b : List ℕ) (n : ℕ) where
  -- the listing, and then its old bytes
  pub buffer-written : answer (writing p b) ≡ given n → buffer_after p b ≡ encode p ++ drop (length (encode p)) b
  unfolding buffer_after
  buffer-written e = rw (e, (written-given p b n e).2) refl

  -- a refusal leaves it untouched
  pub buffer-refused : answer (writing p b) ≡ refused n → buffer_after p b ≡ b
  buffer-refused e = kept p b n e

  -- what was written is read as the plant
  pub written_read : Typed p → answer (writing p b) ≡ given n → answer (reading (take n (buffer_after p b))) ≡ given p
  written_read t e =
      let w = written-given p b n e in
      ap (λ (s : List ℕ). answer (reading s)) (ap (take n) (buffer-written e) ∙ take_at (encode p) (drop (length (encode p)) b) n w.2) ∙ write_read p (given-sound p t w.0)

-- its length is what it was
pub buffer-length : (p : Plant) (b : List ℕ) → length (buffer_after p b) ≡ length b
buffer-length p b = go (answer (writing p b)) refl
  where
    go : (a : Answer ℕ) → answer (writing p b) ≡ a → length (buffer_after p b) ≡ length b
    go (given n) e =
        ap length (buffer-written p b n e) ∙ length-append (encode p) (drop (length (encode p)) b) ∙ omega (arith, length-drop (length (encode p)) b, (written-given p b n e).1)
    go (refused n) e = ap length (buffer-refused p b n e)

-- a sound plant is written wherever there is room for its listing
pub sound-written : (p : Plant) (b : List ℕ) → Sound p → length (encode p) ≤ length b → answer (writing p b) ≡ given (length (encode p))
unfolding buffer_short
sound-written p b s h = writing_on p b (sound-given p s) ∙ rw (le-ltb (length b) (length (encode p)) h) refl

-- so a listing that was read is written again as it was
pub read-written : (s b : List ℕ) (p : Plant) → Bytes s → answer (reading s) ≡ given p → length s ≤ length b → (answer (writing p b) ≡ given (length s)) × (buffer_after p b ≡ s ++ drop (length s) b)
read-written s b p h e k =
    let same : encode p ≡ s = read_write s p h e in
    let w = sound-written p b (decode_sound s p h e) (rw same k) in
    (rw same at w, rw same at (buffer-written p b (length (encode p)) w))
