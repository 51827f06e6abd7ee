-- The order in which the reader and the writer try what they are given ("Refusals in checking order" of document 01): "Header, then records
-- in order, each tried against those that concern it. A map is judged before its fields. … Within one part the lowest number goes first.
-- The writer tries all of 5, then 6 and 7 record by record, then 16." What each condition says is in `ConditionsAre`.
use Rattle.std.specs.Prelude.{◌≡◌, ◌⊎◌, ◌∷◌, ◌++◌, ◌≤◌, ◌<◌}
use Rattle.demands.specs.Vocabulary.{true, false, List, [], ℕ, suc, length, get_or, given, refused}
use Rattle.demands.specs.Vocabulary.{refuse, ◌>>=◌, Conditions, Checked, answer, Link, Plant, zero_link, Field, map_missing}
use Rattle.demands.specs.Vocabulary.{map_undefined, field_missing, field_redundant, field_values, header_fields, link_fields, link_from}
use Rattle.demands.specs.Vocabulary.{end_out_of_range, self_link, bytes_remain, header, sound_link, links, with_links, links_of, reading}
use Rattle.demands.specs.Vocabulary.{encode, value_out_of_range, plant_out_of_range, sound_links, buffer_short, writing}
use Rattle.listing.specs.Listing.{link}

-- condition n is one of these, and holds
abbrev pub Holds : ℕ → Conditions → Type 0
Holds n [] = ⊥
Holds n (c ∷ cs) = ((c.0 ≡ n) × (c.1 ≡ true)) ⊎ Holds n cs

-- "within one part the lowest number goes first": where it is refused with n, no condition of it that holds has a lower number
abbrev pub LowestFirst : {A : Type 0} → Checked A → Type 0
LowestFirst c = (n m : ℕ) → answer c ≡ refused n → Holds m c.checks → n ≤ m

-- 1 to 4, of the map and the fields of a part where s are the bytes from its map on
abbrev pub part_checks : List Field → List ℕ → Conditions
part_checks fs s = (1, map_missing s) ∷ (2, map_undefined fs s) ∷ (3, field_missing fs s) ∷ (4, field_redundant fs s) ∷ []

-- the value of a field of the header
abbrev pub header_value : List ℕ → ℕ → ℕ
header_value s i = get_or (field_values header_fields s) i 0

-- 6 and 7, of the ends of a link
abbrev pub end_checks : ℕ → Link → Conditions
end_checks switches l = (6, end_out_of_range switches l) ∷ (7, self_link l) ∷ []

-- the record before the next one: the last of the links, or `before` where there is none
abbrev pub last_or : Link → List Link → Link
last_or before [] = before
last_or before (l ∷ ls) = last_or l ls

pub record CheckingOrder : Type 0 where
  -- ---- a part: what it is tried against, by number (read aloud), and the lowest first

  pub header_tries : (s : List ℕ) → (header s).checks
      ≡ part_checks header_fields s
      ++ (5, value_out_of_range (header_value s 0) (header_value s 1) (header_value s 2)) ∷ []
  pub header_lowest : (s : List ℕ) → LowestFirst (header s)
  pub record_tries : (switches : ℕ) (before : Link) (s : List ℕ)
      → (link switches before s).checks
      ≡ part_checks (link_fields before) s ++ end_checks switches (link_from (field_values (link_fields before) s))
  pub record_lowest : (switches : ℕ) (before : Link) (s : List ℕ) → LowestFirst (link switches before s)
  -- ---- the reader: an earlier part goes before a later one, which is tried only where all before it are sound

  -- "header, then records in order", as many as it says, then 8
  pub parts : (s : List ℕ) → answer (reading s)
      ≡ (answer (header s) >>= λ h. answer (links h.0.switches h.0.count zero_link h.1)
      >>= λ l. refuse 8 (bytes_remain l.1) (given (with_links h.0 l.0)))
  -- record by record: all that concerns one, its ends included, before the next
  -- (the first is read aloud)
  pub no_records : (switches : ℕ) (before : Link) (s : List ℕ) → answer (links switches 0 before s) ≡ given ([], s)
  pub records : (switches n : ℕ) (before : Link) (s : List ℕ) → answer (links switches (suc n) before s)
      ≡ (answer (link switches before s) >>= λ r. answer (links switches n r.0 r.1) >>= λ q. given (r.0 ∷ q.0, q.1))
  -- so a header that is refused is the answer, whatever comes after it
  pub header_first : (s : List ℕ) (n : ℕ) → answer (header s) ≡ refused n → answer (reading s) ≡ refused n
  -- and so is a record that is refused after k sound ones, whatever comes after it
  pub record_first : (s : List ℕ) (h : Plant × List ℕ) (k : ℕ) (l : List Link × List ℕ) (n : ℕ) → answer (header s) ≡ given h
      → k < h.0.count → answer (links h.0.switches k zero_link h.1) ≡ given l
      → answer (link h.0.switches (last_or zero_link l.0) l.1) ≡ refused n → answer (reading s) ≡ refused n
  -- ---- the writer of a plant p into a buffer b

  -- "all of 5", places past the links included, "then 6 and 7 record by record, then 16"
  pub writer : (p : Plant) (b : List ℕ) → answer (writing p b)
      ≡ refuse 5 (plant_out_of_range p)
      (answer (sound_links p.switches (links_of p)) >>= λ _. refuse 16 (buffer_short (encode p) b) (given (length (encode p))))
  -- (the first and the third are read aloud)
  pub no_ends : (switches : ℕ) → answer (sound_links switches []) ≡ given tt
  pub ends : (switches : ℕ) (l : Link) (ls : List Link)
      → answer (sound_links switches (l ∷ ls)) ≡ (answer (sound_link switches l) >>= λ _. answer (sound_links switches ls))
  pub ends_tries : (switches : ℕ) (l : Link) → (sound_link switches l).checks ≡ end_checks switches l
  pub ends_lowest : (switches : ℕ) (l : Link) → LowestFirst (sound_link switches l)
  -- so a link that is refused after sound ones is the answer, whatever comes after it and however short the buffer is
  pub link_first : (p : Plant) (b : List ℕ) (before after : List Link) (l : Link) (n : ℕ) → plant_out_of_range p ≡ false
      → links_of p ≡ before ++ l ∷ after → answer (sound_links p.switches before) ≡ given tt
      → answer (sound_link p.switches l) ≡ refused n → answer (writing p b) ≡ refused n
