-- The front of a listing decides: where the front has more bytes than the longest sound listing, what follows it changes nothing in the answer.
-- It is so of every list of numbers. Assumes nothing.
use mathlib.Core.Path.{◌≡◌, refl, sym, ap, ◌∙◌}
use mathlib.Core.List.{List, [], ◌∷◌, ◌++◌}
use Prim.Native.Nat.{ℕ, zero, suc, ◌+◌, ◌*◌, ◌≤◌, ◌<◌}
use native.Mathlib.Omega.{arith}
use borrow.Author.Tests.{lt-ltb}
use lib.ListN.{length, take}
use Rattle.plant.specs.declared.Link.{Link}
use Rattle.plant.specs.declared.Plant.{Plant}
use Rattle.plant.specs.Links.{zero_link, plant_with}
use Rattle.limits.specs.Limits.{max_links}
use Rattle.answers.specs.Answers.{given}
use Rattle.answers.specs.Checks.{NoneHolds, Checked, trying, answer, ◌then◌}
use Rattle.answers.proofs.Checks.{trying-append, trying_when}
use Rattle.codec.specs.Part.{part}
use Rattle.codec.proofs.PartFront.{Front, part-front}
use Rattle.listing.specs.Listing.{header_fields, link_fields, header, sound_link, link, links, bytes_remain, linked, ended, reading}
use Rattle.listing.proofs.SoundLaws.{in_range}
use Rattle.listing.proofs.Longest.{longest_record, longest_listing}

bytes_remain-front : (m : ℕ) (s : List ℕ) → 1 ≤ m → bytes_remain (take m s) ≡ bytes_remain s
unfolding bytes_remain
bytes_remain-front zero s h = absurd (omega arith)
bytes_remain-front (suc m) [] h = refl
bytes_remain-front (suc m) (b ∷ s) h = lt-ltb 0 (length (b ∷ take m s)) (omega arith) ∙ sym (lt-ltb 0 (length (b ∷ s)) (omega arith))

-- ---- k records, after the record `before`, are read alike, and the front goes on after them

record SameLinks (n : ℕ) (a b : Checked (List Link × List ℕ)) : Type 0 where
  same_checks : a.checks ≡ b.checks
  same_links : a.result.0 ≡ b.result.0
  front_after : Front n a.result.1 b.result.1

links-front : (switches k : ℕ) (before : Link) (n : ℕ) (u s : List ℕ) → Front (n + k * longest_record) u s → SameLinks n (links switches k before u) (links switches k before s)
unfolding links link sound_link
links-front switches zero before n u s f = record { same_checks = refl; same_links = refl; front_after = (f.0, omega (arith, f.1), f.2) }
links-front switches (suc k) before n u s f =
    let one = part-front (link_fields before) (n + k * longest_record) u s (f.0, omega (arith, f.1), f.2) in
    let l = (link switches before s).result.0 in
    let more = links-front switches k l n (link switches before u).result.1 (link switches before s).result.1 one.front_after in
    record {
      same_checks = rw (one.same_checks, one.same_values, more.same_checks);
      same_links = rw (one.same_values, more.same_links);
      front_after = rw one.same_values more.front_after;
    }

-- ---- the listing

-- what follows the header
abbrev rest : Plant → List ℕ → Checked Plant
rest p s = linked p s then λ l. ended l.0 l.1

rest-front : (p : Plant) (u s : List ℕ) → p.count ≤ max_links → Front (1 + max_links * longest_record) u s → answer (rest p u) ≡ answer (rest p s)
unfolding linked ended
rest-front p u s few f =
    let r = links-front p.switches p.count zero_link 1 u s (f.0, omega (arith, f.1), f.2) in
    let a = r.front_after in
    rw (r.same_checks, r.same_links, a.2, bytes_remain-front a.0 (links p.switches p.count zero_link s).result.1 a.1)

-- the conditions of the header are tried first
reading-header : (s : List ℕ) → answer (reading s) ≡ trying (header s).checks (answer (rest (header s).result.0 (header s).result.1))
unfolding reading
reading-header s =
    let h = header s in
    let l = linked h.result.0 h.result.1 in
    let e = ended l.result.0 l.result.1 in
    trying-append (h.checks ++ l.checks) e.checks (given e.result)
    ∙ trying-append h.checks l.checks (trying e.checks (given e.result))
    ∙ ap (trying h.checks) (sym (trying-append l.checks e.checks (given e.result)))

-- a header that is not refused tells of no more records than the longest listing has
header-few : (s : List ℕ) → NoneHolds (header s).checks → (header s).result.0.count ≤ max_links
unfolding header part plant_with
header-few s c = (in_range _ _ _ c.1.1.1.1.0).few_links

record SameHeader (u s : List ℕ) : Type 0 where
  same_checks : (header u).checks ≡ (header s).checks
  same_plant : (header u).result.0 ≡ (header s).result.0
  front_after : Front (1 + max_links * longest_record) (header u).result.1 (header s).result.1

header-front : (u s : List ℕ) → Front (1 + longest_listing) u s → SameHeader u s
unfolding header
header-front u s f =
    let r = part-front header_fields (1 + max_links * longest_record) u s (f.0, omega (arith, f.1), f.2) in
    record { same_checks = rw (r.same_checks, r.same_values); same_plant = rw r.same_values; front_after = r.front_after }

-- with more bytes than the longest sound listing has, the rest changes nothing
pub decode_front : (n : ℕ) (s : List ℕ) → longest_listing < n → answer (reading (take n s)) ≡ answer (reading s)
decode_front n s h =
    let r = header-front (take n s) s (n, omega arith, refl) in
    reading-header (take n s)
    ∙ rw (r.same_checks, r.same_plant) (trying_when (header s).checks _ _ (λ c. rest-front (header s).result.0 _ _ (header-few s c) r.front_after))
    ∙ sym (reading-header s)
