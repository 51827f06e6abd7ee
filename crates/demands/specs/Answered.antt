-- What these calls answer for every listing s that is read as a plant p, in the papers' words: the bridges, the numbers of a plant, the
-- order of links, the outward labels and the link named; and what `rules` prints. A field that holds by the definition alone says so.
use Rattle.std.specs.Prelude.{◌≡◌, ◌⊎◌, ◌↔◌, ◌∷◌, ◌++◌, ◌≤◌, ◌<◌, ◌+◌, ◌/◌, ◌%◌}
use Rattle.demands.specs.Vocabulary.{false, Bool, List, [], map, flatten, ℕ, T}
use Rattle.demands.specs.Vocabulary.{length, drop, get_or, take, at, given, refused, answer, Plant, live, max_links, reading, links_with}
use Rattle.demands.specs.Vocabulary.{roots, Bridge, live_links, bridges, trail_from, nth, up_to, trail_of, rules_of, Span, stretch_of}
use Rattle.demands.specs.Vocabulary.{front_of, Search, IsAllUp, IsDown, values_of, halving, Order, none, ascii, decimal, line, printed}
use Rattle.demands.specs.Vocabulary.{summing, bridging, ordering, outgoing, naming, link, out_labels}
use Rattle.search.specs.Values.{checking}
use Rattle.probing.specs.Calls.{unknown}
use Rattle.demands.specs.Names.{ring_at, order_at}

-- the bridges as they are handed back: a flag for each link place, set for each bridge in service and for nothing else
pub record BridgeFlags (p : Plant) (flags : List Bool) : Type 0 where
  pub flag_places : length flags ≡ max_links
  -- "a bridge is a link without which its two ends are not joined"
  pub flag_set : (l : ℕ) → l < p.count → T (get_or flags l false) ↔ (T (live p l) × Bridge p l)
  pub flag_past : (l : ℕ) → p.count ≤ l → get_or flags l false ≡ false

-- the order of links from switch x as it is handed back: with its count, the places past it zero
pub record OrderHanded (p : Plant) (x : ℕ) (o : Order) : Type 0 where
  pub order_count : o.count ≡ links_with p x
  pub order_places : length o.links ≡ max_links
  pub order_each : (i : ℕ) → i < links_with p x → at o.links i ≡ at (order_at p x) i
  pub order_zeros : (i : ℕ) → links_with p x ≤ i → at o.links i ≡ 0

-- q is a state that sends probe m in a search over e links, by its values: Checking (E), or Halving (low, high) with 1 ≤ low < high ≤ E,
-- and 0 to 2 sendings lost
abbrev pub Sends : ℕ → Search → ℕ → Type 0
Sends e q m =
    ((lost : ℕ) × (values_of q ≡ checking e lost) × (lost ≤ 2) × (1 ≤ e) × (m ≡ e))
    ⊎ ((low : ℕ) × (high : ℕ) × (lost : ℕ) × (values_of q ≡ halving low high lost) × (lost ≤ 2) × (1 ≤ low) × (low < high) × (high ≤ e)
    × (m ≡ (low + high) / 2))

-- the outward labels from switch x, of every state that sends a probe over the links of its component
pub record Outward (s : List ℕ) (p : Plant) (x : ℕ) : Type 0 where
  -- "probe m, for 1 ≤ m < E, goes out up to the first crossing of the m-th link" (read aloud)
  pub probe : (m : ℕ) → m < links_with p x → out_labels p x m ≡ up_to (nth (order_at p x) m) (ring_at p x)
  -- "the full check, m = E, is the whole ring" (read aloud)
  pub full_check : out_labels p x (links_with p x) ≡ ring_at p x
  -- "the outward labels are in at most two stretches, each handed back as a part of the lent trail": the stretch and then the front, at the
  -- bounds b that are answered
  pub parts : (q : Search) (m : ℕ) → Sends (links_with p x) q m
      → (b : Span) × (answer (outgoing s x (trail_of p) q) ≡ given b) × (stretch_of (trail_of p) b ++ front_of (trail_of p) b ≡ out_labels p x m)

-- the link named from switch x, of every state that is sound over the links of its component
pub record Named (s : List ℕ) (p : Plant) (x : ℕ) : Type 0 where
  -- "Down names the link at its place in the order"
  pub down : (q : Search) (k : ℕ) → IsDown k q → 1 ≤ k → k ≤ links_with p x
      → answer (naming s x (trail_of p) q) ≡ given (link (nth (order_at p x) k))
  -- All up names none
  pub all_up : (q : Search) → IsAllUp q → answer (naming s x (trail_of p) q) ≡ given none
  -- and a state that sends a probe nothing yet
  pub not_ended : (q : Search) (m : ℕ) → Sends (links_with p x) q m → answer (naming s x (trail_of p) q) ≡ given unknown

pub record Answered (s : List ℕ) (p : Plant) : Type 0 where
  pub find_bridges : (flags : List Bool) × (answer (bridging s) ≡ given flags) × BridgeFlags p flags
  -- "switches, links, bridges, rules, hops", of all components together
  pub summarize : answer (summing s)
      ≡ given (record {
        switches = p.switches;
        links = live_links p;
        bridges = bridges p;
        rules = length (rules_of p);
        hops = length (trail_of p);
      })
  pub order_of_links : (x : ℕ) → x < p.switches → (o : Order) × (answer (ordering s x (trail_of p)) ≡ given o) × OrderHanded p x o
  pub outward_labels : (x : ℕ) → x < p.switches → Outward s p x
  pub link_named : (x : ℕ) → x < p.switches → Named s p x
  -- "first line: switches, links, bridges, rules, hops. Rule lines: sending switch, label, receiving switch. The trail line lists labels":
  -- "one trail line an island; bridges and totals are over all"
  pub rules_prints : printed s
      ≡ line (ascii "plant") (p.switches ∷ live_links p ∷ bridges p ∷ length (rules_of p) ∷ length (trail_of p) ∷ [])
      ++ (flatten (map (λ r. line (ascii "rule") (r.from ∷ r.label ∷ r.to ∷ [])) (rules_of p))
      ++ flatten (map (λ r. line (ascii "trail") (trail_from p r)) (roots p)))

-- of any listing, lent trail, bounds and line
pub record AnsweredAlways : Type 0 where
  -- the two parts of a lent trail, by the bounds that were answered (read aloud)
  pub stretch : (w : List ℕ) (b : Span) → stretch_of w b ≡ take b.len (drop b.from w)
  pub front : (w : List ℕ) (b : Span) → front_of w b ≡ take b.front (drop b.begin w)
  -- a line is its word, each number in decimal after a space, 32, and the line's end, 10; it "is the bare word if empty"
  pub line_is : (word ns : List ℕ) → line word ns ≡ word ++ (flatten (map (λ n. 32 ∷ decimal n) ns) ++ (10 ∷ []))
  -- a number below ten is its digit; any other is a tenth of it, rounded down, and then the last digit
  pub decimal_digit : (n : ℕ) → n < 10 → decimal n ≡ (48 + n) ∷ []
  pub decimal_more : (n : ℕ) → 10 ≤ n → decimal n ≡ decimal (n / 10) ++ ((48 + n % 10) ∷ [])
  -- "a refusal prints only `refused`, a space and its number"
  pub refusal_prints : (s : List ℕ) (n : ℕ) → answer (reading s) ≡ refused n
      → printed s ≡ ascii "refused" ++ (32 ∷ (decimal n ++ (10 ∷ [])))
