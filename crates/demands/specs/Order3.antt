-- Document 02, order 3: the buying page.
use Rattle.std.specs.Prelude.{◌≡◌, ◌∷◌, ◌++◌, ◌≤◌, ◌<◌, ◌+◌, ◌*◌}
use Rattle.demands.specs.Vocabulary.{List, [], map, flatten, ℕ, length, drop, replicate, at}
use Rattle.demands.specs.Vocabulary.{range, sum, given, answer, Plant, live_links, bridges, links_at, sent_by, rules_of, order_quantity}
use Rattle.demands.specs.Vocabulary.{decimal, Sheet, line_columns, reading_page, buying_page, switch_line, total_line, Shown, buying}
use Rattle.demands.specs.Vocabulary.{bought_out}

-- "right-aligned decimal" in so many columns, "all else spaces"; what `decimal` is says `AnsweredAlways`
pub record RightAligned (columns n : ℕ) (field : List ℕ) : Type 0 where
  pub wide : length field ≡ columns
  pub before : ℕ
  pub is : field ≡ replicate before 32 ++ decimal n

-- a line that has `first` in columns 1 to 6, and numbers in columns 7 to 14 and 15 to 22; nine spaces and a newline are the rest of its 32
pub record LineIs (first : List ℕ) (seven fifteen : ℕ) (line : List ℕ) : Type 0 where
  pub six : length first ≡ 6
  pub second : List ℕ
  pub third : List ℕ
  pub second_number : RightAligned 8 seven second
  pub third_number : RightAligned 8 fifteen third
  pub is : line ≡ first ++ (second ++ (third ++ (replicate 9 32 ++ (10 ∷ []))))

-- the page of any counts that a page can hold
pub record PageLines (c : Sheet) : Type 0 where
  -- "one line a switch, rising": "columns 1 to 6 hold the switch, 7 to 14 its rules, 15 to 22 the links at it"; "a last line has `total`
  -- left-aligned in the first field, then all rules and the order quantity"
  pub page : buying_page c ≡ flatten (map (switch_line c) (range 0 c.switches)) ++ total_line c
  pub line : (x : ℕ) → x < c.switches
      → (first : List ℕ) × RightAligned 6 x first × LineIs first (at c.rules x) (at c.links x) (switch_line c x)
  pub total_columns : LineIs (116 ∷ 111 ∷ 116 ∷ 97 ∷ 108 ∷ 32 ∷ []) c.total c.quantity (total_line c)
  -- "each line is 32 bytes"
  pub lines : (x : ℕ) → x < c.switches → length (switch_line c x) ≡ line_columns
  pub last_line : length (total_line c) ≡ line_columns

-- for every listing s that is read as a plant p, and a spare that is not refused: what the page of the counts c is
pub record PageWritten (s : List ℕ) (p : Plant) (spare : ℕ) (c : Sheet) : Type 0 where
  -- the rules of each switch are order 2's, and the links at it the plant's own; each link is at two switches
  pub switches : c.switches ≡ p.switches
  pub rules : (x : ℕ) → x < p.switches → at c.rules x ≡ sent_by (rules_of p) x
  pub links : (x : ℕ) → x < p.switches → at c.links x ≡ links_at p x
  pub links_twice : sum p.switches (at c.links) ≡ 2 * live_links p
  -- "then all rules and the order quantity"
  pub total : c.total ≡ live_links p + bridges p
  pub quantity : answer (order_quantity (live_links p + bridges p) spare) ≡ given c.quantity
  -- they are counts that a page can hold, of three digits each, so that its lines are those of `PageLines`
  pub shown : Shown c
  -- "the page is S + 1 lines, and bytes after it stay untouched"; with fewer it is 18, by demand 1
  pub size : length (buying_page c) ≡ line_columns * (p.switches + 1)
  pub written : (b : List ℕ) → line_columns * (p.switches + 1) ≤ length b
      → (answer (buying s spare b) ≡ given (length (buying_page c))) × (bought_out s spare b ≡ buying_page c ++ drop (length (buying_page c)) b)
  -- "a reader gets the counts back exactly"
  pub read_back : answer (reading_page (buying_page c)) ≡ given c

-- for any bytes b: what the reader accepts, which are the pages of the counts that a page can hold and nothing else, by demand 1 and
-- `eighteen_read` of `Conditions`
pub record PageForm (b : List ℕ) : Type 0 where
  -- the counts that are read are such: of at most three digits each, with rules that add up
  pub counts_shown : (c : Sheet) → answer (reading_page b) ≡ given c → Shown c
  -- what is accepted is written back as the same bytes, so that it is the only page with its counts
  pub written_back : (c : Sheet) → answer (reading_page b) ≡ given c → buying_page c ≡ b
  pub only_one : (b' : List ℕ) (c : Sheet) → answer (reading_page b) ≡ given c → answer (reading_page b') ≡ given c → b ≡ b'
