-- The order of checking: of conditions with rising numbers the first that holds is the lowest that holds; and what is tried one after the other. Assumes nothing.
use mathlib.Core.Path.{◌≡◌, refl, sym, ap, ◌∙◌, subst}
use mathlib.Core.Logic.{inl, inr}
use mathlib.Core.Bool.{Bool, true, false, ◌&&◌}
use mathlib.Core.List.{List, [], ◌∷◌, ◌++◌}
use Prim.Native.Nat.{ℕ, zero, suc, ◌≤◌, ◌<◌}
use native.Mathlib.Omega.{arith}
use lib.Dec.{leb}
use lib.ListN.{length}
use borrow.Author.Tests.{leb-true}
use Rattle.lists.specs.Members.{all}
use Rattle.lists.proofs.Tests.{and_true, not_both}
use Rattle.answers.specs.Answers.{Answer, given, refused, refuse, ◌>>=◌}
use Rattle.answers.specs.Checks.{Conditions, check, answer, trying, ◌then◌}
use Rattle.answers.proofs.Checks.{given-given, refused-refused, then_given, then_assoc, then_is, goes_on, stops, came_from}
use Rattle.plant.specs.declared.Link.{Link}
use Rattle.plant.specs.declared.Plant.{Plant}
use Rattle.plant.specs.Links.{zero_link}
use Rattle.codec.specs.Part.{part, field_values}
use Rattle.listing.specs.Listing.{header_fields, link_fields, link_from, header_out_of_range, bytes_remain, header, sound_link, link, links, with_links, linked, ended, links_of, reading, encode}
use Rattle.listing.specs.Writing.{plant_out_of_range, sound_links, sound_plant, buffer_short, writing}
use Rattle.demands.specs.CheckingOrder.{Holds, LowestFirst, part_checks, end_checks, last_or, CheckingOrder}

-- ---- rising numbers

-- no number is lower than one before it
abbrev rising : Conditions → Bool
rising [] = true
rising (c ∷ cs) = all (λ d. leb c.0 d.0) cs && rising cs

at_least : (k m : ℕ) (cs : Conditions) → all (λ d. leb k d.0) cs ≡ true → Holds m cs → k ≤ m
at_least k m [] e h = absurd h
at_least k m (c ∷ cs) e (inl q) = subst (λ (j : ℕ). k ≤ j) q.0 (leb-true k c.0 (and_true (leb k c.0) (all (λ d. leb k d.0) cs) e).0)
at_least k m (c ∷ cs) e (inr h) = at_least k m cs (and_true (leb k c.0) (all (λ d. leb k d.0) cs) e).1 h

lowest : {A : Type 0} (cs : Conditions) (a : A) → rising cs ≡ true → (n m : ℕ) → trying cs (given a) ≡ refused n → Holds m cs → n ≤ m
lowest [] a r n m e h = absurd h
lowest {A} (c ∷ cs) a r n m e h =
    let t = and_true (all (λ d. leb c.0 d.0) cs) (rising cs) r in
    go c.1 refl e h (at_least c.0 m cs t.0) (lowest cs a t.1 n m)
  where
    go : (b : Bool) → c.1 ≡ b → refuse c.0 b (trying cs (given a)) ≡ refused n → Holds m (c ∷ cs) → (Holds m cs → c.0 ≤ m)
        → (trying cs (given a) ≡ refused n → Holds m cs → n ≤ m) → n ≤ m
    go true q e (inl i) above rec = let k = refused-refused {A = A} c.0 n e in omega (arith, k, i.0)
    go true q e (inr i) above rec = let k = refused-refused {A = A} c.0 n e in omega (arith, k, above i)
    go false q e (inl i) above rec = absurd (not_both c.1 i.1 q)
    go false q e (inr i) above rec = rec e i

-- the law is not empty: where both hold, 7 before 6 and 4 before 3 break it
seven-first : LowestFirst (check {A = Unit} ((7, true) ∷ (6, true) ∷ []) tt) → ⊥
seven-first f = omega (arith, f 7 6 refl (inr (inl (refl, refl))))

four-first : LowestFirst (check {A = Unit} ((4, true) ∷ (3, true) ∷ []) tt) → ⊥
four-first f = omega (arith, f 4 3 refl (inr (inl (refl, refl))))

-- ---- one after the other

then_same : {A B : Type 0} (a : Answer A) (f g : A → Answer B) → ((x : A) → f x ≡ g x) → (a >>= f) ≡ (a >>= g)
then_same (given x) f g h = h x
then_same (refused n) f g h = refl

-- the links of a plant that is read, and the end
linked_on : (p : Plant) (s : List ℕ)
    → (answer (linked p s) >>= λ l. answer (ended l.0 l.1))
    ≡ (answer (links p.switches p.count zero_link s) >>= λ l. refuse 8 (bytes_remain l.1) (given (with_links p l.0)))
unfolding linked ended
linked_on p s =
    ap (λ (a : Answer (Plant × List ℕ)). a >>= λ l. refuse 8 (bytes_remain l.1) (given l.0))
    (then_is (links p.switches p.count zero_link s) (λ r. check [] (with_links p r.0, r.1)))
    ∙ then_assoc (answer (links p.switches p.count zero_link s)) (λ r. given (with_links p r.0, r.1)) (λ l. refuse 8 (bytes_remain l.1) (given l.0))

parts : (s : List ℕ) → answer (reading s)
    ≡ (answer (header s) >>= λ h. answer (links h.0.switches h.0.count zero_link h.1)
    >>= λ l. refuse 8 (bytes_remain l.1) (given (with_links h.0 l.0)))
unfolding reading
parts s =
    then_is (header s then λ h. linked h.0 h.1) (λ l. ended l.0 l.1)
    ∙ ap (λ (a : Answer (Plant × List ℕ)). a >>= λ l. answer (ended l.0 l.1)) (then_is (header s) (λ h. linked h.0 h.1))
    ∙ then_assoc (answer (header s)) (λ h. answer (linked h.0 h.1)) (λ l. answer (ended l.0 l.1))
    ∙ then_same (answer (header s)) (λ h. answer (linked h.0 h.1) >>= λ l. answer (ended l.0 l.1))
    (λ h. answer (links h.0.switches h.0.count zero_link h.1) >>= λ l. refuse 8 (bytes_remain l.1) (given (with_links h.0 l.0)))
    (λ h. linked_on h.0 h.1)

records : (switches n : ℕ) (before : Link) (s : List ℕ) → answer (links switches (suc n) before s)
    ≡ (answer (link switches before s) >>= λ r. answer (links switches n r.0 r.1) >>= λ q. given (r.0 ∷ q.0, q.1))
unfolding links
records switches n before s =
    then_is (link switches before s) (λ r. links switches n r.0 r.1 then λ q. check [] (r.0 ∷ q.0, q.1))
    ∙ then_same (answer (link switches before s)) (λ r. answer (links switches n r.0 r.1 then λ q. check [] (r.0 ∷ q.0, q.1)))
    (λ r. answer (links switches n r.0 r.1) >>= λ q. given (r.0 ∷ q.0, q.1))
    (λ r. then_is (links switches n r.0 r.1) (λ q. check [] (r.0 ∷ q.0, q.1)))

-- a record that is refused after k sound ones, of m in all
links-first : (switches k m : ℕ) (before : Link) (s : List ℕ) (l : List Link × List ℕ) (n : ℕ) → k < m → answer (links switches k before s) ≡ given l
    → answer (link switches (last_or before l.0) l.1) ≡ refused n → answer (links switches m before s) ≡ refused n
unfolding links
links-first switches k zero before s l n h e f = absurd (omega (arith, h))
links-first switches zero (suc m) before s l n h e f =
    let g : answer (link switches before s) ≡ refused n
    = ap (λ (q : List Link × List ℕ). answer (link switches (last_or before q.0) q.1)) (given-given ([], s) l e) ∙ f in
    records switches m before s ∙ rw g refl
links-first switches (suc k) (suc m) before s l n h e f =
    let a
    = then_given (answer (link switches before s)) (λ r. answer (links switches k r.0 r.1) >>= λ q. given (r.0 ∷ q.0, q.1)) l
    (sym (records switches k before s) ∙ e) in
    let r = a.0 in
    let b = then_given (answer (links switches k r.0 r.1)) (λ q. given (r.0 ∷ q.0, q.1)) l a.2 in
    let q = b.0 in
    let g : answer (link switches (last_or r.0 q.0) q.1) ≡ refused n
    = ap (λ (v : List Link × List ℕ). answer (link switches (last_or before v.0) v.1)) (given-given (r.0 ∷ q.0, q.1) l b.2) ∙ f in
    records switches m before s ∙ rw (a.1, links-first switches k m r.0 r.1 q n (omega (arith, h)) b.1 g) refl

record_first : (s : List ℕ) (h : Plant × List ℕ) (k : ℕ) (l : List Link × List ℕ) (n : ℕ) → answer (header s) ≡ given h
    → k < h.0.count → answer (links h.0.switches k zero_link h.1) ≡ given l
    → answer (link h.0.switches (last_or zero_link l.0) l.1) ≡ refused n → answer (reading s) ≡ refused n
record_first s h k l n e i f g = parts s ∙ rw (e, links-first h.0.switches k h.0.count zero_link h.1 l n i f g) refl

-- ---- the writer

writer : (p : Plant) (b : List ℕ) → answer (writing p b)
    ≡ refuse 5 (plant_out_of_range p) (answer (sound_links p.switches (links_of p)) >>= λ _. refuse 16 (buffer_short (encode p) b) (given (length (encode p))))
unfolding writing sound_plant
writer p b =
    ap (refuse 5 (plant_out_of_range p))
    (then_is (sound_links p.switches (links_of p)) (λ _. check ((16, buffer_short (encode p) b) ∷ []) (length (encode p))))

ends-first : (switches : ℕ) (before after : List Link) (l : Link) (n : ℕ) → answer (sound_links switches before) ≡ given tt
    → answer (sound_link switches l) ≡ refused n → answer (sound_links switches (before ++ l ∷ after)) ≡ refused n
ends-first switches [] after l n e f = stops (sound_link switches l) (λ _. sound_links switches after) n f
ends-first switches (k ∷ ks) after l n e f =
    let r = came_from (sound_link switches k) (λ _. sound_links switches ks) tt e in
    goes_on (sound_link switches k) (λ _. sound_links switches (ks ++ l ∷ after)) r.0 r.1 ∙ ends-first switches ks after l n r.2 f

link_first : (p : Plant) (b : List ℕ) (before after : List Link) (l : Link) (n : ℕ) → plant_out_of_range p ≡ false
    → links_of p ≡ before ++ l ∷ after → answer (sound_links p.switches before) ≡ given tt
    → answer (sound_link p.switches l) ≡ refused n → answer (writing p b) ≡ refused n
link_first p b before after l n z q e f =
    let r : answer (sound_links p.switches (links_of p)) ≡ refused n
    = ap (λ (ls : List Link). answer (sound_links p.switches ls)) q ∙ ends-first p.switches before after l n e f in
    writer p b ∙ rw (z, r) refl

-- ---- all of it

module _ (s : List ℕ) where
  header_tries : (header s).checks ≡ part_checks header_fields s ++ (5, header_out_of_range (field_values header_fields s)) ∷ []
  unfolding header part
  header_tries = refl

  header_lowest : LowestFirst (header s)
  unfolding header part
  header_lowest = lowest (header s).checks (header s).result refl

module _ (switches : ℕ) (before : Link) (s : List ℕ) where
  record_tries : (link switches before s).checks ≡ part_checks (link_fields before) s ++ end_checks switches (link_from (field_values (link_fields before) s))
  unfolding link sound_link part
  record_tries = refl

  record_lowest : LowestFirst (link switches before s)
  unfolding link sound_link part
  record_lowest = lowest (link switches before s).checks (link switches before s).result refl

no_records : (switches : ℕ) (before : Link) (s : List ℕ) → answer (links switches 0 before s) ≡ given ([], s)
unfolding links
no_records switches before s = refl

module _ (switches : ℕ) (l : Link) where
  ends_tries : (sound_link switches l).checks ≡ end_checks switches l
  unfolding sound_link
  ends_tries = refl

  ends_lowest : LowestFirst (sound_link switches l)
  unfolding sound_link
  ends_lowest = lowest (sound_link switches l).checks tt refl

pub checking_order : CheckingOrder
checking_order = record {
  header_tries = header_tries;
  header_lowest = header_lowest;
  record_tries = record_tries;
  record_lowest = record_lowest;
  parts = parts;
  no_records = no_records;
  records = records;
  header_first = λ s n e. parts s ∙ rw e refl;
  record_first = record_first;
  writer = writer;
  no_ends = λ switches. refl;
  ends = λ switches l ls. then_is (sound_link switches l) (λ _. sound_links switches ls);
  ends_tries = ends_tries;
  ends_lowest = ends_lowest;
  link_first = link_first;
}
