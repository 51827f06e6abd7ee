-- What the condition of each refusal says, in the papers' words ("Refusals in checking order" of document 01; document 02). Which of them a
-- call tries, and in which order, is in its field of `Demand1`. A condition that is a plain test is the test read aloud: 1, 5 to 8, 10, 11,
-- 13, 16, 17, 18 in writing, 19 and 21.
use Rattle.std.specs.Prelude.{◌≡◌, ◌⊎◌, ◌↔◌, ◌∷◌, ◌++◌, ◌≤◌, ◌<◌, ◌+◌, ◌*◌}
use Rattle.demands.specs.Vocabulary.{true, false, List, [], ℕ, length, drop, Each, Link}
use Rattle.demands.specs.Vocabulary.{Plant, zero_link, max_switches, max_links, Field, bit_at, SomeGiven, EndsBefore, HoldsAbsent}
use Rattle.demands.specs.Vocabulary.{map_missing, map_undefined, field_missing, field_redundant, map_byte, end_out_of_range, self_link}
use Rattle.demands.specs.Vocabulary.{bytes_remain, value_out_of_range, plant_out_of_range, buffer_short, trail_of, switch_out_of_range}
use Rattle.demands.specs.Vocabulary.{spare_above, Search, sound, ended, IsAllUp, IsDown, values_of, halving, trail_differs, hops_differ}
use Rattle.demands.specs.Vocabulary.{states_short, search_unsound, Sheet, formed, buying_page, page_short, Shown, places_short}
use Rattle.demands.specs.Vocabulary.{set_out_of_range, outside_set, console_out_of_range}
use Rattle.search.specs.Values.{checking}

-- a state that is sound over e links, by its values: not "a Checking count or Down place … not in 1 to 256, or Halving lacks 1 ≤ low < high
-- ≤ 256; in a call with a listing, also a count that is not E, or a high or place above E", with "the sendings lost so far, 0 to 2"
abbrev pub SoundOver : ℕ → Search → Type 0
SoundOver e q =
    ((lost : ℕ) × (values_of q ≡ checking e lost) × (1 ≤ e) × (lost ≤ 2))
    ⊎ (((low : ℕ) × (high : ℕ) × (lost : ℕ) × (values_of q ≡ halving low high lost) × (1 ≤ low) × (low < high) × (high ≤ e) × (lost ≤ 2))
    ⊎ (IsAllUp q ⊎ ((k : ℕ) × IsDown k q × (1 ≤ k) × (k ≤ e))))

pub record ConditionsAre : Type 0 where
  -- 1: "a part's map byte is missing"
  pub one : (s : List ℕ) → (map_missing s ≡ true) ↔ (s ≡ [])
  -- 2: "a map has an undefined bit": one that is none of its fields
  pub two : (fs : List Field) (s : List ℕ) → (map_undefined fs s ≡ true) ↔ ((i : ℕ) × (length fs ≤ i) × (bit_at (map_byte s) i ≡ 1))
  -- 3: the bytes end before the end of a field whose bit is set; 4: such a field holds the value that its absence means
  pub three : (fs : List Field) (m : ℕ) (s : List ℕ) → (field_missing fs (m ∷ s) ≡ true) ↔ SomeGiven EndsBefore m fs s
  pub four : (fs : List Field) (m : ℕ) (s : List ℕ) → (field_redundant fs (m ∷ s) ≡ true) ↔ SomeGiven HoldsAbsent m fs s
  -- 5: "a header value is outside its range", or the start is not below S
  pub five : (switches count start : ℕ)
      → (value_out_of_range switches count start ≡ true)
      ↔ ((1 ≤ switches) × (switches ≤ max_switches) × (count ≤ max_links) × (start < switches) → ⊥)
  -- of a plant that is written, also: "a plant place past E is not zero"
  pub five_written : (p : Plant) → (plant_out_of_range p ≡ true)
      ↔ ((value_out_of_range p.switches p.count p.start ≡ false) × Each (λ l. l ≡ zero_link) (drop p.count p.links) → ⊥)
  -- 6: an end is not below S; 7: a link joins a switch to itself; 8: bytes remain
  pub six : (switches : ℕ) (l : Link) → (end_out_of_range switches l ≡ true) ↔ ((switches ≤ l.first) ⊎ (switches ≤ l.second))
  pub seven : (l : Link) → (self_link l ≡ true) ↔ (l.first ≡ l.second)
  pub eight : (s : List ℕ) → (bytes_remain s ≡ true) ↔ (s ≡ [] → ⊥)
  -- 10: a lent buffer b has fewer places than the trail w has hops
  pub ten : (w b : List ℕ) → (places_short w b ≡ true) ↔ (length b < length w)
  -- 11: a named switch is not below S
  pub eleven : (p : Plant) (x : ℕ) → (switch_out_of_range p x ≡ true) ↔ (p.switches ≤ x)
  -- 12: the lent trail is not the listing's trails; in the calls of order 6, it does not begin with the hops w, whatever comes after them
  pub twelve : (p : Plant) (lent : List ℕ) → (trail_differs p lent ≡ true) ↔ (lent ≡ trail_of p → ⊥)
  pub twelve_hops : (w lent : List ℕ) → (hops_differ w lent ≡ true) ↔ ((spare : List ℕ) × (lent ≡ w ++ spare) → ⊥)
  -- 13: there are fewer state bytes than e, the links of the listing or in the round run its labels
  pub thirteen : (e : ℕ) (states : List ℕ) → (states_short e states ≡ true) ↔ (length states < e)
  -- 14: the state is not sound over the e links that a search is over; in a call without a listing, over no number of links that a plant
  -- can have
  pub fourteen : (e : ℕ) (q : Search) → e ≤ max_links → (search_unsound e q ≡ true) ↔ (SoundOver e q → ⊥)
  pub fourteen_alone : (q : Search) → (sound q ≡ false) ↔ ((e : ℕ) × (e ≤ max_links) × SoundOver e q → ⊥)
  -- 15: "a fate is given to, or a probe is wanted of, All up or Down"
  pub fifteen : (q : Search) → (ended q ≡ true) ↔ (IsAllUp q ⊎ ((k : ℕ) × IsDown k q))
  -- 16: a lent buffer b is shorter than the listing s
  pub sixteen : (s b : List ℕ) → (buffer_short s b ≡ true) ↔ (length b < length s)
  -- 17: the spare is above 100
  pub seventeen : (spare : ℕ) → (spare_above spare ≡ true) ↔ (100 < spare)
  -- 18, in writing: the lent page b is too short for S + 1 lines of 32 bytes; in reading: b is the page of no counts that a page can hold
  pub eighteen_written : (switches : ℕ) (b : List ℕ) → (page_short switches b ≡ true) ↔ (length b < 32 * (switches + 1))
  pub eighteen_read : (b : List ℕ) → (formed b ≡ false) ↔ ((c : Sheet) × Shown c × (buying_page c ≡ b) → ⊥)
  -- 19: "console above 3"
  pub nineteen : (k : ℕ) → (console_out_of_range k ≡ true) ↔ (3 < k)
  -- 20: "a bit at or above S in the calling console's set"
  pub twenty : (s set : ℕ) → (set_out_of_range s set ≡ true) ↔ ((x : ℕ) × (s ≤ x) × (bit_at set x ≡ 1))
  -- 21: "the switch is outside the set": its bit is not set
  pub twenty_one : (set x : ℕ) → (outside_set set x ≡ true) ↔ (bit_at set x ≡ 1 → ⊥)
