-- The header, a link and the links as the code reads them, at places of the listing, against their definitions. Assumes nothing.
use mathlib.Core.Path.{◌≡◌, refl, sym, ap, ◌∙◌}
use mathlib.Core.List.{List, [], ◌∷◌, ◌++◌, append_assoc, append-nil}
use Prim.Native.Nat.{ℕ, suc, ◌+◌, ◌-◌, ◌^◌, ◌≤◌, ◌<◌}
use native.Mathlib.Omega.{arith}
use borrow.Author.Tests.{lt-ltb, ltb-true}
use lib.Dec.{ltb}
use Rattle.lists.proofs.Tests.{same_test}
use Rattle.lists.proofs.Padded.{padded-length, padded_put}
use lib.ListN.{length, get_or, drop, set, length-append, length-drop}
use Rattle.plant.specs.declared.Link.{Link}
use Rattle.plant.specs.declared.Plant.{Plant}
use Rattle.plant.specs.Links.{zero_link, plant_with}
use Rattle.answers.specs.Answers.{Answer, given, refused, ◌>>=◌}
use Rattle.answers.specs.Checks.{Checked, check, trying, answer, ◌then◌}
use Rattle.answers.proofs.Checks.{then_is, goes_on, stops}
use Rattle.limits.specs.Limits.{max_links}
use Rattle.codec.specs.Field.{Bytes}
use Rattle.codec.specs.Part.{part}
use Rattle.codec.proofs.PartRoundTrip.{hold_at, hold_fits, part-read}
use Rattle.listing.specs.Listing.{field, no_bytes, header_fields, link_fields, header_out_of_range, header_from, header, link_from, sound_link, link, links, with_links, linked, bytes_remain, ended}

-- ---- the header at `at`, of whose part the code reads q, or refuses it with n

judge_header : List ℕ × List ℕ → Checked (Plant × List ℕ)
judge_header q = check ((5, header_out_of_range q.0) ∷ []) (header_from q.0, q.1)

module _ (s : List ℕ) where
  pub header_stops : (n : ℕ) → refused n ≡ answer (part header_fields s) → refused n ≡ answer (header s)
  unfolding header judge_header
  header_stops n e = sym (stops (part header_fields s) judge_header n (sym e))

  pub header-tries : (q : List ℕ × List ℕ) → given q ≡ answer (part header_fields s) → answer (header s) ≡ trying ((5, header_out_of_range q.0) ∷ []) (given (header_from q.0, q.1))
  unfolding header judge_header
  header-tries q e = goes_on (part header_fields s) judge_header q (sym e)

-- ---- so is the record at `at`, after the record `before`

judge_link : ℕ → List ℕ × List ℕ → Checked (Link × List ℕ)
judge_link switches q = sound_link switches (link_from q.0) then λ _. check [] (link_from q.0, q.1)

module _ (switches : ℕ) (before : Link) (s : List ℕ) where
  pub link_stops : (n : ℕ) → refused n ≡ answer (part (link_fields before) s) → refused n ≡ answer (link switches before s)
  unfolding link judge_link
  link_stops n e = sym (stops (part (link_fields before) s) (judge_link switches) n (sym e))

  module _ (q : List ℕ × List ℕ) (e : given q ≡ answer (part (link_fields before) s)) where
    link-values : answer (link switches before s) ≡ (answer (sound_link switches (link_from q.0)) >>= λ _. given (link_from q.0, q.1))
    unfolding link judge_link
    link-values = goes_on (part (link_fields before) s) (judge_link switches) q (sym e) ∙ then_is (sound_link switches (link_from q.0)) (λ _. check [] (link_from q.0, q.1))

    pub link_unsound : (n : ℕ) → refused n ≡ answer (sound_link switches (link_from q.0)) → refused n ≡ answer (link switches before s)
    link_unsound n f = sym (link-values ∙ rw (sym f) refl)

    pub link-given : given tt ≡ answer (sound_link switches (link_from q.0)) → given (link_from q.0, q.1) ≡ answer (link switches before s)
    link-given f = sym (link-values ∙ rw (sym f) refl)

    -- the tag fits two bytes
    pub tag_fits : Bytes s → get_or q.0 2 0 < 2 ^ 16
    tag_fits h =
        let w = part-read (link_fields before) s q.0 q.1 h (sym e) in
        hold_fits (field 2 0) (get_or q.0 2 0) (omega arith) (hold_at (link_fields before) q.0 w.hold 2 no_bytes (omega arith))

-- ---- the loop over the links: what is left of them, after those that are read, gives what all of them give

-- no link yet
pub none : (switches count start : ℕ) → plant_with max_links switches count start ≡ with_links (plant_with max_links switches count start) []
unfolding plant_with with_links
none switches count start = refl

pub places : (p : Plant) (ls : List Link) → length (with_links p ls).links ≡ length ls + (max_links - length ls)
unfolding with_links
places p ls = padded-length max_links zero_link ls

-- one link more
pub put : (p : Plant) (ls : List Link) (l : Link) → length ls < max_links
    → record { switches = p.switches; count = p.count; start = p.start; links = set (with_links p ls).links (length ls) l } ≡ with_links p (ls ++ (l ∷ []))
unfolding with_links
put p ls l h = ap (λ (ks : List Link). record { switches = p.switches; count = p.count; start = p.start; links = ks }) (padded_put max_links zero_link ls l h)

-- a link before those that follow it
abbrev ahead : Link → List Link × List ℕ → Answer (List Link × List ℕ)
ahead l q = given (l ∷ q.0, q.1)

module _ (switches n : ℕ) (before : Link) (t : List ℕ) where
  abbrev more : Link × List ℕ → Checked (List Link × List ℕ)
  more r = links switches n r.0 r.1 then λ q. check [] (r.0 ∷ q.0, q.1)

  links-next : (l : Link) (u : List ℕ) → answer (link switches before t) ≡ given (l, u) → answer (links switches (suc n) before t) ≡ (answer (links switches n l u) >>= ahead l)
  unfolding links
  links-next l u e = goes_on (link switches before t) more (l, u) e ∙ then_is (links switches n l u) (λ q. check [] (l ∷ q.0, q.1))

  links_stop : (k : ℕ) → answer (link switches before t) ≡ refused k → answer (links switches (suc n) before t) ≡ refused k
  unfolding links
  links_stop k e = stops (link switches before t) more k e

-- the plant h with the links ls and then those of q
abbrev after : Plant → List Link → List Link × List ℕ → Answer (Plant × List ℕ)
after h ls q = given (with_links h (ls ++ q.0), q.1)

-- the links that are left, after those of ls
abbrev left : Plant → List Link → ℕ → Link → List ℕ → Answer (Plant × List ℕ)
left h ls n before t = answer (links h.switches n before t) >>= after h ls

module _ (s : List ℕ) (from : ℕ) (h : Plant) where
  -- i links are read: p has them, and what is left gives what the whole gives
  pub record Read (i : ℕ) (p : Plant) (before : Link) (at : ℕ) : Type 0 where
    pub have : List Link
    pub long : length have ≡ i
    pub is : p ≡ with_links h have
    pub rest : left h have (h.count - i) before (drop at s) ≡ answer (linked h (drop from s))

  -- before the first both ends count as 0
  pub read_none : (p : Plant) → p ≡ with_links h [] → Read 0 p zero_link from
  unfolding linked
  read_none p e =
      let k : h.count - 0 ≡ h.count = omega arith in
      record { have = []; long = refl; is = e; rest = rw k (sym (then_is (links h.switches h.count zero_link (drop from s)) (λ r. check [] (with_links h r.0, r.1)))) }

  -- the next record, which the code reads or refuses
  module _ (i : ℕ) (p : Plant) (before : Link) (at : ℕ) (r : Read i p before at) (some : i < h.count) where
    less : h.count - i ≡ suc (h.count - (i + 1))
    less = omega arith

    pub read_refused : (n : ℕ) → refused n ≡ answer (link h.switches before (drop at s)) → refused n ≡ answer (linked h (drop from s))
    read_refused n f = rw (less, links_stop h.switches (h.count - (i + 1)) before (drop at s) n (sym f)) at r.rest

    pub read_one : (l : Link) (next : ℕ) → h.count ≤ max_links → given (l, drop next s) ≡ answer (link h.switches before (drop at s))
        → Read (i + 1) (record { switches = p.switches; count = p.count; start = p.start; links = set p.links i l }) l next
    unfolding with_links
    read_one l next few f = record {
      have = r.have ++ (l ∷ []);
      long = length-append r.have (l ∷ []) ∙ ap (λ (k : ℕ). k + 1) r.long;
      is = rw (r.is, sym r.long) (put h r.have l (omega (arith, r.long)));
      rest =
          sym (regroup (answer (links h.switches (h.count - (i + 1)) l (drop next s))))
          ∙ rw (less, links-next h.switches (h.count - (i + 1)) before (drop at s) l (drop next s) (sym f)) at r.rest;
    }
      where
        regroup : (q : Answer (List Link × List ℕ))
            → (q >>= ahead l >>= after h r.have) ≡ (q >>= after h (r.have ++ (l ∷ [])))
        regroup (given t) = ap (λ (ks : List Link). given (with_links h ks, t.1)) (sym (append_assoc r.have (l ∷ []) t.0))
        regroup (refused n) = refl

  pub read_all : (i : ℕ) (p : Plant) (before : Link) (at : ℕ) → Read i p before at → h.count ≤ i → answer (linked h (drop from s)) ≡ given (p, drop at s)
  unfolding links
  read_all i p before at r all =
      let k : h.count - i ≡ 0 = omega arith in
      sym (rw (k, append-nil) at r.rest) ∙ ap (λ (x : Plant). given (x, drop at s)) (sym r.is)

-- ---- the end, at `at`

pub end-tries : (s : List ℕ) (at : ℕ) (p : Plant) → answer (ended p (drop at s)) ≡ trying ((8, ltb at (length s)) ∷ []) (given p)
unfolding ended bytes_remain
end-tries s at p = rw (same_test (ltb 0 (length (drop at s))) (ltb at (length s)) (λ e. lt-ltb _ _ (omega (arith, ltb-true _ _ e, length-drop at s))) (λ e. lt-ltb _ _ (omega (arith, ltb-true _ _ e, length-drop at s)))) refl
