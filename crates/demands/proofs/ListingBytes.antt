-- A listing is read as a plant exactly if its bytes are laid out as document 01 says, field by field. Assumes nothing.
use mathlib.Core.Path.{◌≡◌, refl, sym, ap, ◌∙◌, subst}
use mathlib.Core.Logic.{◌↔◌}
use mathlib.Core.Bool.{Bool, true, false, not}
use mathlib.Core.List.{List, [], ◌∷◌, ◌++◌}
use Prim.Native.Nat.{ℕ, zero, suc, ◌+◌, ◌-◌, ◌/◌, ◌%◌, ◌^◌, ◌≤◌, ◌<◌}
use native.Mathlib.Nat.{div-one, div-div-eq-div-mul, pow-succ'}
use native.Mathlib.Omega.{arith}
use borrow.Author.Tests.{le-ltb, ltb-false, eqb-true, eqb-false, eq-eqb, ne_eqb}
use lib.Dec.{eqb}
use lib.ListN.{length, get_or, take, drop, replicate, length-append, length-drop, length-replicate, take-append-drop}
use lib.Seq.{drop-drop, take_at, drop_at, length-take-le, get_or-drop, ext_get_or}
use Rattle.lists.proofs.Tests.{or_false, not_both, not_true_false}
use Rattle.lists.specs.Count.{bit}
use Rattle.lists.proofs.Members.{get_d_same}
use Rattle.plant.specs.declared.Link.{Link}
use Rattle.plant.specs.declared.Plant.{Plant}
use Rattle.plant.specs.Links.{zero_link, marked, plant_with}
use Rattle.answers.specs.Answers.{given}
use Rattle.answers.specs.Checks.{check, answer, ◌then◌}
use Rattle.answers.proofs.Checks.{given-given, given-exactly, refuse-given, goes_on, came_from}
use Rattle.limits.specs.Limits.{max_links}
use Rattle.codec.specs.declared.Field.{Field}
use Rattle.codec.specs.Field.{number}
use Rattle.codec.specs.Given.{bit_at}
use Rattle.codec.specs.Part.{taken, size, value_of, redundant, values, some_redundant, map_missing, map_undefined, field_missing, field_redundant, field_values, after_part, part}
use Rattle.codec.proofs.ConditionLaws.{map-undefined}
use Rattle.listing.specs.Listing.{header_fields, link_fields, header_out_of_range, header_from, header, link_from, sound_link, link, links, bytes_remain, with_links, linked, ended, reading}
use Rattle.listing.proofs.ReadLaws.{places}
use Rattle.listing.proofs.ConditionLaws.{no_byte_remains}
use Rattle.listing.proofs.SoundLaws.{in_range, range_in, Ends, sound-ends, ends-sound}
use Rattle.demands.specs.ListingBytes.{FieldIs, HeaderIs, RecordIs, RecordsAre, ListingIs, ListingBytes}

-- ---- a field, by its bit

field_of : (f : Field) (b : ℕ) (s : List ℕ) → b < 2 → taken f b ≤ length s → redundant f b s ≡ false → FieldIs b f.width f.absent s (value_of f b s) (drop (taken f b) s)
unfolding taken value_of redundant
field_of f zero s c k r = record { set = λ e. absurd (omega arith); not_set = λ _. (refl, refl) }
field_of f (suc zero) s c k r = record {
  set = λ _. (take f.width s, length-take-le f.width s k, sym (take-append-drop f.width s), refl, eqb-false (number (take f.width s)) f.absent r);
  not_set = λ e. absurd (omega arith);
}
field_of f (suc (suc b)) s c k r = absurd (omega arith)

-- it tells what is read
record Told (f : Field) (b : ℕ) (s : List ℕ) (v : ℕ) (t : List ℕ) : Type 0 where
  there : taken f b + length t ≡ length s
  value : value_of f b s ≡ v
  new : redundant f b s ≡ false
  after : drop (taken f b) s ≡ t

told-given : (f : Field) (s : List ℕ) (v : ℕ) (t bs : List ℕ) → length bs ≡ f.width → s ≡ bs ++ t → v ≡ number bs → (v ≡ f.absent → ⊥) → Told f 1 s v t
unfolding taken value_of redundant
told-given f s v t bs long e w n =
    let front : number (take f.width s) ≡ v = ap (λ (u : List ℕ). number (take f.width u)) e ∙ ap number (take_at bs t f.width long) ∙ sym w in
    record {
      there = omega (arith, ap length e, length-append bs t);
      value = front;
      new = rw front (ne_eqb v f.absent n);
      after = ap (drop f.width) e ∙ drop_at bs t f.width long;
    }

told_absent : (f : Field) (s : List ℕ) (v : ℕ) (t : List ℕ) → v ≡ f.absent → t ≡ s → Told f 0 s v t
unfolding taken value_of redundant
told_absent f s v t e q = record { there = omega (arith, ap length q); value = sym e; new = refl; after = sym q }

told : (f : Field) (b : ℕ) (s : List ℕ) (v : ℕ) (t : List ℕ) → b < 2 → FieldIs b f.width f.absent s v t → Told f b s v t
told f zero s v t c k = let q = k.not_set refl in told_absent f s v t q.0 q.1
told f (suc zero) s v t c k = let q = k.set refl in told-given f s v t q.0 q.1 q.2 q.3 q.4
told f (suc (suc b)) s v t c k = absurd (omega arith)

-- ---- the fields of a part, by rising bit

abbrev FieldsAre : ℕ → List Field → List ℕ → List ℕ → List ℕ → Type 0
FieldsAre m [] s [] t = s ≡ t
FieldsAre m [] s (v ∷ vs) t = ⊥
FieldsAre m (f ∷ fs) s [] t = ⊥
FieldsAre m (f ∷ fs) s (v ∷ vs) t = (u : List ℕ) × FieldIs (m % 2) f.width f.absent s v u × FieldsAre (m / 2) fs u vs t

fields_of : (fs : List Field) (m : ℕ) (s : List ℕ) → size m fs ≤ length s → some_redundant m fs s ≡ false → FieldsAre m fs s (values m fs s) (drop (size m fs) s)
fields_of [] m s k r = refl
fields_of (f ∷ fs) m s k r =
    let q = or_false (redundant f (m % 2) s) (some_redundant (m / 2) fs (drop (taken f (m % 2)) s)) r in
    let u = drop (taken f (m % 2)) s in (
      u,
      field_of f (m % 2) s (omega arith) (omega arith) q.0,
      subst (FieldsAre (m / 2) fs u (values (m / 2) fs u)) (drop-drop (size (m / 2) fs) (taken f (m % 2)) s) (fields_of fs (m / 2) u (rw length-drop (omega arith)) q.1),
    )

record AllTold (fs : List Field) (m : ℕ) (s vs t : List ℕ) : Type 0 where
  there : size m fs + length t ≡ length s
  value : values m fs s ≡ vs
  new : some_redundant m fs s ≡ false
  after : drop (size m fs) s ≡ t

all_told : (fs : List Field) (m : ℕ) (s vs t : List ℕ) → FieldsAre m fs s vs t → AllTold fs m s vs t
all_told [] m s [] t k = record { there = omega (arith, ap length k); value = refl; new = refl; after = k }
all_told [] m s (v ∷ vs) t k = absurd k
all_told (f ∷ fs) m s [] t k = absurd k
all_told (f ∷ fs) m s (v ∷ vs) t k =
    let one = told f (m % 2) s v k.0 (omega arith) k.1 in
    let more = all_told fs (m / 2) k.0 vs t k.2 in
    record {
      there = omega (arith, one.there, more.there);
      value = rw (one.value, one.after, more.value) refl;
      new = rw (one.new, one.after, more.new) refl;
      after = sym (drop-drop (size (m / 2) fs) (taken f (m % 2)) s) ∙ ap (drop (size (m / 2) fs)) one.after ∙ more.after;
    }

-- ---- a part: its map and its fields

bit_below : (i m : ℕ) → bit_at m i < 2
bit_below zero m = omega arith
bit_below (suc i) m = bit_below i (m / 2)

no_other-bit : (fs : List Field) (m : ℕ) (s : List ℕ) → map_undefined fs (m ∷ s) ≡ false → (i : ℕ) → length fs ≤ i → bit_at m i ≡ 0
no_other-bit fs m s e i h =
    let n : bit_at m i ≡ 1 → ⊥ = λ b. not_both (map_undefined fs (m ∷ s)) ((map-undefined fs (m ∷ s)).1 (i, h, b)) e in
    omega (arith, bit_below i m, n)

all_defined : (fs : List Field) (m : ℕ) (s : List ℕ) → ((i : ℕ) → length fs ≤ i → bit_at m i ≡ 0) → map_undefined fs (m ∷ s) ≡ false
all_defined fs m s n = not_true_false (map_undefined fs (m ∷ s)) (λ e. let r = (map-undefined fs (m ∷ s)).0 e in omega (arith, n r.0 r.1, r.2))

record PartIs (fs : List Field) (s vs t : List ℕ) : Type 0 where
  map : ℕ
  after_map : List ℕ
  opens : s ≡ map ∷ after_map
  fields : FieldsAre map fs after_map vs t
  no_other : (i : ℕ) → length fs ≤ i → bit_at map i ≡ 0

none-part : (fs : List Field) (s : List ℕ) → map_missing s ≡ false → map_undefined fs s ≡ false → field_missing fs s ≡ false → field_redundant fs s ≡ false → PartIs fs s (field_values fs s) (after_part fs s)
unfolding map_missing field_missing field_redundant field_values after_part
none-part fs [] a b c d = absurd (eqb-false 0 0 a refl)
none-part fs (m ∷ s) a b c d = record {
  map = m;
  after_map = s;
  opens = refl;
  fields = fields_of fs m s (omega (arith, ltb-false (suc (length s)) (1 + size m fs) c)) d;
  no_other = no_other-bit fs m s b;
}

part-tells : (fs : List Field) (m : ℕ) (s vs t : List ℕ) → FieldsAre m fs s vs t → ((i : ℕ) → length fs ≤ i → bit_at m i ≡ 0) → answer (part fs (m ∷ s)) ≡ given (vs, t)
unfolding part map_missing field_missing field_redundant field_values after_part
part-tells fs m s vs t k n =
    let r = all_told fs m s vs t k in
    rw (
      ne_eqb (suc (length s)) 0 (λ e. omega arith),
      all_defined fs m s n,
      le-ltb (suc (length s)) (1 + size m fs) (omega (arith, r.there)),
      r.new,
      r.value,
      r.after,
    )

module _ (fs : List Field) (s vs t : List ℕ) where
  part_of : answer (part fs s) ≡ given (vs, t) → PartIs fs s vs t
  unfolding part
  part_of e =
      let r = (given-exactly {A = List ℕ × List ℕ} (part fs s).checks (part fs s).result (vs, t)).0 e in
      subst (λ (q : List ℕ × List ℕ). PartIs fs s q.0 q.1) r.1 (none-part fs s r.0.0 r.0.1.0 r.0.1.1.0 r.0.1.1.1.0)

  of_part : PartIs fs s vs t → answer (part fs s) ≡ given (vs, t)
  of_part k = ap (λ (u : List ℕ). answer (part fs u)) k.opens ∙ part-tells fs k.map k.after_map vs t k.fields k.no_other

-- ---- the header

header-from : (s vs t : List ℕ) → PartIs header_fields s vs t → header_out_of_range vs ≡ false → HeaderIs s (get_or vs 0 0) (get_or vs 1 0) (get_or vs 2 0) t
header-from s [] t k e = absurd k.fields
header-from s (a ∷ []) t k e = absurd k.fields.2
header-from s (a ∷ b ∷ []) t k e = absurd k.fields.2.2
header-from s (a ∷ b ∷ c ∷ []) t k e =
    let r = in_range a b c e in
    record {
      map = k.map;
      after_map = k.after_map;
      opens = k.opens;
      after_switches = k.fields.0;
      switch_count = k.fields.1;
      after_links = k.fields.2.0;
      link_count = k.fields.2.1;
      start_switch = subst (FieldIs (bit_at k.map 2) 1 0 k.fields.2.0 c) k.fields.2.2.2 k.fields.2.2.1;
      no_other = k.no_other;
      some_switch = r.some_switch;
      few_switches = r.few_switches;
      few_links = r.few_links;
      start_in = r.start_in;
    }
header-from s (a ∷ b ∷ c ∷ d ∷ vs) t k e = absurd k.fields.2.2.2

abbrev HeaderOf : List ℕ → Plant × List ℕ → Type 0
HeaderOf s h = HeaderIs s h.0.switches h.0.count h.0.start h.1 × (h.0.links ≡ replicate max_links zero_link)

header_of : (s : List ℕ) (h : Plant × List ℕ) → answer (header s) ≡ given h → HeaderOf s h
unfolding header plant_with
header_of s h e =
    let q = came_from (part header_fields s) (λ r. check ((5, header_out_of_range r.0) ∷ []) (header_from r.0, r.1)) h e in
    let c = refuse-given 5 (header_out_of_range q.0.0) (given (header_from q.0.0, q.0.1)) h q.2 in
    subst (HeaderOf s) (given-given (header_from q.0.0, q.0.1) h c.1) (header-from s q.0.0 q.0.1 (part_of header_fields s q.0.0 q.0.1 q.1) c.0, refl)

of_header : (s : List ℕ) (a b c : ℕ) (t : List ℕ) → HeaderIs s a b c t → answer (header s) ≡ given (plant_with max_links a b c, t)
unfolding header
of_header s a b c t k =
    goes_on (part header_fields s) (λ r. check ((5, header_out_of_range r.0) ∷ []) (header_from r.0, r.1)) (a ∷ b ∷ c ∷ [], t)
    (of_part header_fields s (a ∷ b ∷ c ∷ []) t (record {
      map = k.map;
      after_map = k.after_map;
      opens = k.opens;
      fields = (k.after_switches, k.switch_count, (k.after_links, k.link_count, (t, k.start_switch, refl)));
      no_other = k.no_other;
    }))
    ∙ rw (range_in a b c (record { some_switch = k.some_switch; few_switches = k.few_switches; few_links = k.few_links; start_in = k.start_in })) refl

header_as : (s : List ℕ) (p : Plant) (t : List ℕ) → HeaderOf s (p, t) → answer (header s) ≡ given (p, t)
unfolding plant_with
header_as s p t k =
    of_header s p.switches p.count p.start t k.0
    ∙ ap (λ (ls : List Link). given (record { switches = p.switches; count = p.count; start = p.start; links = ls }, t)) (sym k.1)

-- ---- a record

-- the bit with no field: the value is 0 with it, and 1 without
mark_of : (b : ℕ) (u : List ℕ) (v : ℕ) (t : List ℕ) → b < 2 → FieldIs b 0 1 u v t → (u ≡ t) × ((eqb v 0 ≡ true) ↔ (b ≡ 1))
mark_of zero u v t c k = let q = k.not_set refl in (sym q.1, (λ e. absurd (omega (arith, q.0, eqb-true v 0 e)), λ e. absurd (omega arith)))
mark_of (suc zero) u v t c k = let q = k.set refl in go q.0 q.1 q.2 q.3
  where
    go : (bs : List ℕ) → length bs ≡ 0 → u ≡ bs ++ t → v ≡ number bs → (u ≡ t) × ((eqb v 0 ≡ true) ↔ ◌≡◌ {A = ℕ} 1 1)
    go [] n e w = (e, (λ _. refl, λ _. eq-eqb v 0 w))
    go (x ∷ bs) n e w = absurd (omega arith)
mark_of (suc (suc b)) u v t c k = absurd (omega arith)

of_mark : (b : ℕ) (u : List ℕ) (mark : Bool) → b < 2 → (mark ≡ true) ↔ (b ≡ 1) → FieldIs b 0 1 u (bit (not mark)) u
of_mark zero u true c k = absurd (omega (arith, k.0 refl))
of_mark zero u false c k = record { set = λ e. absurd (omega arith); not_set = λ _. (refl, refl) }
of_mark (suc zero) u true c k = record { set = λ _. ([], refl, refl, refl, λ e. omega arith); not_set = λ e. absurd (omega arith) }
of_mark (suc zero) u false c k = absurd (not_both false (k.1 refl) refl)
of_mark (suc (suc b)) u mark c k = absurd (omega arith)

mark-read : (b : Bool) → eqb (bit (not b)) 0 ≡ b
mark-read true = refl
mark-read false = refl

module _ (switches : ℕ) (before : Link) where
  record_from : (s vs t : List ℕ) → PartIs (link_fields before) s vs t → Ends switches (link_from vs) → RecordIs switches before.first before.second s (link_from vs) t
  record_from s [] t k e = absurd k.fields
  record_from s (a ∷ []) t k e = absurd k.fields.2
  record_from s (a ∷ b ∷ []) t k e = absurd k.fields.2.2
  record_from s (a ∷ b ∷ c ∷ []) t k e = absurd k.fields.2.2.2
  record_from s (a ∷ b ∷ c ∷ d ∷ []) t k e =
      let f = k.fields.2.2.2 in
      let m = mark_of (bit_at k.map 3) k.fields.2.2.0 d f.0 (bit_below 3 k.map) f.1 in
      record {
        map = k.map;
        after_map = k.after_map;
        opens = k.opens;
        after_first = k.fields.0;
        first_end = k.fields.1;
        after_second = k.fields.2.0;
        second_end = k.fields.2.1;
        tag = subst (FieldIs (bit_at k.map 2) 2 0 k.fields.2.0 c) (m.0 ∙ f.2) k.fields.2.2.1;
        mark = m.1;
        no_other = k.no_other;
        first_in_is = e.first_in_is;
        second_in = e.second_in;
        apart = e.apart;
      }
  record_from s (a ∷ b ∷ c ∷ d ∷ x ∷ vs) t k e = absurd k.fields.2.2.2.2

  record_of : (s : List ℕ) (r : Link × List ℕ) → answer (link switches before s) ≡ given r → RecordIs switches before.first before.second s r.0 r.1
  unfolding link
  record_of s r e =
      let q = came_from (part (link_fields before) s) (λ v. sound_link switches (link_from v.0) then λ _. check [] (link_from v.0, v.1)) r e in
      let vs = q.0.0 in
      let c = came_from (sound_link switches (link_from vs)) (λ _. check [] (link_from vs, q.0.1)) r q.2 in
      subst (λ (x : Link × List ℕ). RecordIs switches before.first before.second s x.0 x.1) (given-given (link_from vs, q.0.1) r c.2)
      (record_from s vs q.0.1 (part_of (link_fields before) s vs q.0.1 q.1) (sound-ends switches (link_from vs) c.1))

  of_record : (s : List ℕ) (l : Link) (t : List ℕ) → RecordIs switches before.first before.second s l t → answer (link switches before s) ≡ given (l, t)
  unfolding link
  of_record s l t k =
      let vs = l.first ∷ l.second ∷ l.tag ∷ bit (not l.out_of_service) ∷ [] in
      goes_on (part (link_fields before) s) (λ v. sound_link switches (link_from v.0) then λ _. check [] (link_from v.0, v.1)) (vs, t)
      (of_part (link_fields before) s vs t (record {
        map = k.map;
        after_map = k.after_map;
        opens = k.opens;
        fields = (k.after_first, k.first_end, (k.after_second, k.second_end, (t, k.tag, (t, of_mark (bit_at k.map 3) t l.out_of_service (bit_below 3 k.map) k.mark, refl))));
        no_other = k.no_other;
      }))
      ∙ ap (λ (b : Bool). answer (sound_link switches (marked b l) then λ _. check [] (marked b l, t))) (mark-read l.out_of_service)
      ∙ goes_on (sound_link switches l) (λ _. check [] (l, t)) tt (ends-sound switches l (record { first_in_is = k.first_in_is; second_in = k.second_in; apart = k.apart }))

-- ---- records in order

module _ (switches : ℕ) where
  abbrev RecordsOf : ℕ → Link → List ℕ → List Link × List ℕ → Type 0
  RecordsOf n before s r = (length r.0 ≡ n) × RecordsAre switches before.first before.second s r.0 r.1

  records_of : (n : ℕ) (before : Link) (s : List ℕ) (r : List Link × List ℕ) → answer (links switches n before s) ≡ given r → RecordsOf n before s r
  unfolding links
  records_of zero before s r e = subst (RecordsOf 0 before s) (given-given ([], s) r e) (refl, refl)
  records_of (suc n) before s r e =
      let a = came_from (link switches before s) (λ x. links switches n x.0 x.1 then λ y. check [] (x.0 ∷ y.0, y.1)) r e in
      let l = a.0.0 in
      let u = a.0.1 in
      let b = came_from (links switches n l u) (λ y. check [] (l ∷ y.0, y.1)) r a.2 in
      let more = records_of n l u b.0 b.1 in
      subst (RecordsOf (suc n) before s) (given-given (l ∷ b.0.0, b.0.1) r b.2) (ap suc more.0, (u, record_of switches before s a.0 a.1, more.1))

  of_records : (before : Link) (s : List ℕ) (ls : List Link) (t : List ℕ) → RecordsAre switches before.first before.second s ls t → answer (links switches (length ls) before s) ≡ given (ls, t)
  unfolding links
  of_records before s [] t k = ap (λ (u : List ℕ). given ([], u)) k
  of_records before s (l ∷ ls) t k =
      goes_on (link switches before s) (λ x. links switches (length ls) x.0 x.1 then λ y. check [] (x.0 ∷ y.0, y.1)) (l, k.0) (of_record switches before s l k.0 k.1)
      ∙ goes_on (links switches (length ls) l k.0) (λ y. check [] (l ∷ y.0, y.1)) (ls, t) (of_records l k.0 ls t k.2)

-- ---- the listing

zero_past : (ls : List Link) (n l : ℕ) → length ls ≤ l → get_or (ls ++ replicate n zero_link) l zero_link ≡ zero_link
zero_past [] n l h = get_d_same n l zero_link
zero_past (x ∷ ls) n zero h = absurd (omega arith)
zero_past (x ∷ ls) n (suc l) h = zero_past ls n l (omega arith)

listing_with : (s : List ℕ) (h : Plant) (t : List ℕ) (ls : List Link) → HeaderIs s h.switches h.count h.start t → length ls ≡ h.count → RecordsAre h.switches 0 0 t ls []
    → ListingIs s (with_links h ls)
unfolding with_links
listing_with s h t ls k long r = record {
  after_header = t;
  header = k;
  records = rw (take_at ls (replicate (max_links - length ls) zero_link) h.count long) r;
  places = places h ls ∙ omega (arith, k.few_links);
  zeros = λ l i. zero_past ls (max_links - length ls) l (omega arith);
}

listing_of : (s : List ℕ) (p : Plant) → answer (reading s) ≡ given p → ListingIs s p
unfolding reading linked ended
listing_of s p e =
    let a = came_from (header s then (λ h. linked h.0 h.1)) (λ l. ended l.0 l.1) p e in
    let b = came_from (header s) (λ h. linked h.0 h.1) a.0 a.1 in
    let h = b.0.0 in
    let t = b.0.1 in
    let c = came_from (links h.switches h.count zero_link t) (λ r. check [] (with_links h r.0, r.1)) a.0 b.2 in
    let d = refuse-given 8 (bytes_remain a.0.1) (given a.0.0) p a.2 in
    let q = given-given (with_links h c.0.0, c.0.1) a.0 c.2 in
    let end : c.0.1 ≡ [] = ap (λ (x : Plant × List ℕ). x.1) q ∙ (no_byte_remains a.0.1).0 d.0 in
    let r = records_of h.switches h.count zero_link t c.0 c.1 in
    subst (ListingIs s) (ap (λ (x : Plant × List ℕ). x.0) q ∙ given-given a.0.0 p d.1)
    (listing_with s h t c.0.0 (header_of s b.0 b.1).0 r.0 (subst (RecordsAre h.switches 0 0 t c.0.0) end r.1))

-- its own links make a plant what it is
with_own : (s : List ℕ) (p : Plant) → ListingIs s p → with_links (plant_with max_links p.switches p.count p.start) (take p.count p.links) ≡ p
unfolding with_links plant_with
with_own s p k = ap (λ (ls : List Link). record { switches = p.switches; count = p.count; start = p.start; links = ls }) own
  where
    long : length (take p.count p.links) ≡ p.count
    long = length-take-le p.count p.links (omega (arith, k.places, k.header.few_links))

    past : replicate (max_links - p.count) zero_link ≡ drop p.count p.links
    past =
        ext_get_or zero_link (replicate (max_links - p.count) zero_link) (drop p.count p.links) (rw (length-drop, length-replicate, k.places) refl)
        (λ l h. get_d_same (max_links - p.count) l zero_link ∙ sym (get_or-drop p.count p.links l zero_link ∙ k.zeros (p.count + l) (omega arith)))

    own : take p.count p.links ++ replicate (max_links - length (take p.count p.links)) zero_link ≡ p.links
    own = rw (long, past) (take-append-drop p.count p.links)

of_listing : (s : List ℕ) (p : Plant) → ListingIs s p → answer (reading s) ≡ given p
unfolding reading linked ended bytes_remain plant_with
of_listing s p k =
    let h = plant_with max_links p.switches p.count p.start in
    let ls = take p.count p.links in
    let long : length ls ≡ p.count = length-take-le p.count p.links (omega (arith, k.places, k.header.few_links)) in
    let read : answer (links p.switches p.count zero_link k.after_header) ≡ given (ls, []) = rw long at (of_records p.switches zero_link k.after_header ls [] k.records) in
    goes_on (header s then λ q. linked q.0 q.1) (λ q. ended q.0 q.1) (p, [])
    (goes_on (header s) (λ q. linked q.0 q.1) (h, k.after_header) (of_header s p.switches p.count p.start k.after_header k.header)
    ∙ goes_on (links p.switches p.count zero_link k.after_header) (λ q. check [] (with_links h q.0, q.1)) (ls, []) read
    ∙ ap (λ (q : Plant). given (q, [])) (with_own s p k))

bit_is : (m i : ℕ) → bit_at m i ≡ m / 2 ^ i % 2
bit_is m zero = sym (ap (λ (n : ℕ). n % 2) (div-one m))
bit_is m (suc i) = bit_is (m / 2) i ∙ ap (λ (n : ℕ). n % 2) (div-div-eq-div-mul m 2 (2 ^ i) ∙ ap (λ (d : ℕ). m / d) (sym (pow-succ' 2 i)))

pub listing_bytes : ListingBytes
listing_bytes = record {
  bit = bit_is;
  one_byte = λ a. omega arith;
  two_bytes = λ a b. omega arith;
  header_is = λ s p t. (header_of s (p, t), header_as s p t);
  record_is = λ switches before s l t. (record_of switches before s (l, t), of_record switches before s l t);
  records_are = λ switches n before s ls t. (
    records_of switches n before s (ls, t),
    λ k. ap (λ (m : ℕ). answer (links switches m before s)) (sym k.0) ∙ of_records switches before s ls t k.1,
  );
  listing_is = λ s p. (listing_of s p, of_listing s p);
}
