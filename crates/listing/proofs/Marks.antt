-- The mark of a link in a listing, in the words of document 02's order 7: what bit 3 of a link's map does, which bits refusal 2 covers, and that a place past the links has no
-- mark. Assumes nothing.
use mathlib.Core.Path.{◌≡◌, refl, sym, ap, ◌∙◌}
use mathlib.Core.Logic.{◌⊎◌, inl, inr, ◌↔◌}
use mathlib.Core.Bool.{true, false, false≢true, or_comm}
use mathlib.Core.List.{List, [], ◌∷◌}
use Prim.Native.Nat.{ℕ, zero, suc, ◌+◌, ◌-◌, ◌/◌, ◌%◌, ◌≤◌, ◌<◌}
use native.Mathlib.Omega.{arith}
use borrow.Author.Tests.{ltb-true, lt-ltb, ne_eqb}
use lib.Dec.{eqb, ltb}
use lib.ListN.{length, get_or, drop}
use lib.Seq.{get_or-drop}
use Rattle.lists.specs.Members.{all}
use Rattle.lists.proofs.Tests.{bool?, and_comm}
use Rattle.plant.specs.declared.Link.{Link}
use Rattle.plant.specs.declared.Plant.{Plant}
use Rattle.plant.specs.Links.{zero_link, marked, is_out_of_service}
use Rattle.answers.specs.Answers.{Answer, given, refused, ◌>>=◌}
use Rattle.answers.specs.Checks.{Conditions, Checked, check, answer, ◌then◌}
use Rattle.answers.proofs.Checks.{trying_then, refused-exactly, given-exactly, EachNumber, first-number}
use Rattle.codec.specs.declared.Field.{Field}
use Rattle.codec.specs.Part.{taken, rest, value_of, redundant, map_missing, map_undefined, field_missing, field_redundant, field_values, after_part, part, part_bytes}
use Rattle.listing.specs.Listing.{header_fields, plain_fields, link_fields, link_bytes, value_out_of_range, header_out_of_range, header_from, end_out_of_range, self_link, header, link_from, sound_link, link}
use Rattle.listing.specs.Writing.{is_zero, plant_out_of_range, sound_plant, writing}

-- ---- bit 3

module _ (switches : ℕ) (before : Link) (m : ℕ) (s : List ℕ) (h : m < 8) where
  -- a record with it is tried as the record without it, and gives the link with the mark
  pub bit-three : answer (link switches before ((m + 8) ∷ s)) ≡ (answer (link switches before (m ∷ s)) >>= λ r. given (marked true r.0, r.1))
  unfolding link part map_missing map_undefined field_missing field_redundant field_values after_part value_of taken redundant sound_link end_out_of_range self_link
  bit-three =
      let with_mark : Link × List ℕ → Answer (Link × List ℕ) = λ r. given (marked true r.0, r.1) in
      let a : (m + 8) % 2 ≡ m % 2 = omega arith in
      let a' : (m + 8) / 2 ≡ m / 2 + 4 = omega arith in
      let b : (m / 2 + 4) % 2 ≡ m / 2 % 2 = omega arith in
      let b' : (m / 2 + 4) / 2 ≡ m / 2 / 2 + 2 = omega arith in
      let c : (m / 2 / 2 + 2) % 2 ≡ m / 2 / 2 % 2 = omega arith in
      let d : m / 2 / 2 / 2 ≡ 0 = omega arith in
      let c' : (m / 2 / 2 + 2) / 2 ≡ 1 = omega arith in
      rw (a, a', b, b', c, c', d) (rw d at (sym (trying_then (link switches before (m ∷ s)).checks (given (link switches before (m ∷ s)).result) with_mark)))

  -- and without it the link is in service
  pub without : (l : Link) (t : List ℕ) → answer (link switches before (m ∷ s)) ≡ given (l, t) → l.out_of_service ≡ false
  unfolding link part field_values value_of
  without l t e =
      let d : m / 2 / 2 / 2 ≡ 0 = omega arith in
      let q = ((given-exactly (link switches before (m ∷ s)).checks (link switches before (m ∷ s)).result (l, t)).0 e).1 in
      sym (ap (λ (r : Link × List ℕ). r.0.out_of_service) q) ∙ rw d refl

  -- it is read by document 01's three fields
  pub plain_read : link switches before (m ∷ s)
      ≡ (part (plain_fields before) (m ∷ s)
      then λ q. sound_link switches (marked false (link_from q.0)) then λ _. check [] (marked false (link_from q.0), q.1))
  unfolding link part map_missing map_undefined field_missing field_redundant field_values after_part value_of taken redundant sound_link end_out_of_range self_link
  plain_read = let d : m / 2 / 2 / 2 ≡ 0 = omega arith in rw d refl

-- and written by them
pub plain_written : (before l : Link) → l.out_of_service ≡ false
    → link_bytes before l ≡ part_bytes (plain_fields before) (l.first ∷ l.second ∷ l.tag ∷ [])
unfolding link_bytes part_bytes
plain_written before l e = rw e refl

-- ---- refusal 2

abbrev NotTwo : ℕ → Type 0
NotTwo n = n ≡ 2 → ⊥

-- of a part that begins with the map m, and what follows it with no 2 among its refusals: exactly where something is left of the map
undefined-exactly : {B : Type 0} (fs : List Field) (m : ℕ) (s : List ℕ) (f : List ℕ × List ℕ → Checked B) → ((q : List ℕ × List ℕ) → EachNumber NotTwo (f q).checks)
    → (answer (part fs (m ∷ s) then f) ≡ refused 2) ↔ (1 ≤ rest m fs)
unfolding part map_missing map_undefined
undefined-exactly fs m s f others = (λ e. there (bool? (ltb 0 (rest m fs))) e, λ h. rw (some, lt-ltb 0 (rest m fs) h) refl)
  where
    some : eqb (suc (length s)) 0 ≡ false
    some = ne_eqb (suc (length s)) 0 (λ e. omega arith)

    after : List ℕ × List ℕ
    after = (field_values fs (m ∷ s), after_part fs (m ∷ s))

    more : Conditions
    more = (3, field_missing fs (m ∷ s)) ∷ (4, field_redundant fs (m ∷ s)) ∷ (f after).checks

    there : (ltb 0 (rest m fs) ≡ true) ⊎ (ltb 0 (rest m fs) ≡ false) → answer (part fs (m ∷ s) then f) ≡ refused 2 → 1 ≤ rest m fs
    there (inl t) e = ltb-true 0 (rest m fs) t
    there (inr t) e = absurd (first-number NotTwo more 2 (λ k. omega arith, (λ k. omega arith, others after)) ((refused-exactly more (f after).result 2).0 (rw (some, t) at e)) refl)

-- "in a link's map refusal 2 now covers bits 4 to 7"
pub link-undefined : (switches : ℕ) (before : Link) (m : ℕ) (s : List ℕ) → (answer (link switches before (m ∷ s)) ≡ refused 2) ↔ (16 ≤ m)
unfolding link sound_link
link-undefined switches before m s =
    let r = undefined-exactly {B = Link × List ℕ} (link_fields before) m s (λ q. sound_link switches (link_from q.0) then λ _. check [] (link_from q.0, q.1)) (λ q. (λ e. omega arith, (λ e. omega arith, tt))) in
    (λ e. omega (arith, r.0 e), λ h. r.1 (omega arith))

-- a header's covers bits 3 to 7
pub header-undefined : (m : ℕ) (s : List ℕ) → (answer (header (m ∷ s)) ≡ refused 2) ↔ (8 ≤ m)
unfolding header
header-undefined m s =
    let r = undefined-exactly {B = Plant × List ℕ} header_fields m s (λ q. check ((5, header_out_of_range q.0) ∷ []) (header_from q.0, q.1)) (λ q. (λ e. omega arith, tt)) in
    (λ e. omega (arith, r.0 e), λ h. r.1 (omega arith))

-- ---- a place past the links has no mark

-- a list that has a marked place, by what stands there or zeros, is not all zero
marked-some : (ls : List Link) (i : ℕ) → (get_or ls i zero_link).out_of_service ≡ true → all is_zero ls ≡ false
unfolding is_zero
marked-some [] i e = absurd (false≢true e)
marked-some (l ∷ ls) zero e = rw (e, and_comm (eqb l.tag 0) false, and_comm (eqb l.second 0) false, and_comm (eqb l.first 0) false) refl
marked-some (l ∷ ls) (suc i) e = rw (marked-some ls i e) (and_comm (is_zero l) false)

pub mark-past : (p : Plant) (b : List ℕ) (l : ℕ) → p.count ≤ l → is_out_of_service p l ≡ true → answer (writing p b) ≡ refused 5
unfolding writing sound_plant plant_out_of_range
mark-past p b l h e =
    let k : p.count + (l - p.count) ≡ l = omega arith in
    let at : get_or (drop p.count p.links) (l - p.count) zero_link ≡ get_or p.links l zero_link = get_or-drop p.count p.links (l - p.count) zero_link ∙ ap (λ (n : ℕ). get_or p.links n zero_link) k in
    rw (marked-some (drop p.count p.links) (l - p.count) (ap (λ (n : Link). n.out_of_service) at ∙ e), or_comm (value_out_of_range p.switches p.count p.start) true) refl
