-- The buying page written and read: what is written of counts is of the form, and those counts are read from it; what is of the form is what is written of the counts that are
-- read from it. So a page is the only one with its counts. Assumes nothing.
use mathlib.Core.Path.{◌≡◌, refl, sym, ap, ap₂, ◌∙◌, subst}
use mathlib.Core.Logic.{◌⊎◌, inl, inr}
use mathlib.Core.Bool.{true, false}
use mathlib.Core.List.{List, ◌++◌, append_assoc}
use Prim.Native.Nat.{ℕ, zero, suc, ◌+◌, ◌*◌, ◌≤◌, ◌<◌}
use native.Mathlib.Omega.{arith}
use borrow.Author.Tests.{lt-ltb, le-ltb}
use lib.Dec.{ltb}
use lib.ListN.{length, take, drop, take-append-drop, drop_of_length-le, get_or-eq_default}
use lib.Seq.{take_all, take_at, drop_at, drop-drop}
use Rattle.lists.specs.Arrays.{at}
use Rattle.lists.specs.Numbers.{range}
use Rattle.lists.specs.Sum.{sum}
use Rattle.lists.specs.Tests.{choose}
use Rattle.lists.proofs.Numbers.{values-are, values-at, values_length}
use Rattle.lists.proofs.Sum.{sum_same}
use Rattle.lists.proofs.Tests.{below?, bool?}
use Rattle.answers.specs.Answers.{given}
use Rattle.answers.specs.Checks.{answer}
use Rattle.answers.proofs.Checks.{given-given, given-refused}
use Rattle.limits.specs.Limits.{max_switches}
use Rattle.text.specs.Decimal.{decimal}
use Rattle.text.specs.Lines.{each}
use Rattle.columns.specs.Fields.{right_in, left_in, number_in}
use Rattle.columns.proofs.Fields.{number-below}
use Rattle.sheet.specs.Columns.{switch_columns, line_columns}
use Rattle.sheet.specs.Page.{total_word, line_of, switch_line, total_line, buying_page}
use Rattle.sheet.specs.Form.{rules_field, links_field, of_switch, of_total, lines_in, line_at, switches_in, rules_on, links_on, column_of, formed, counts_in, reading_page}
use Rattle.sheet.specs.Shown.{ThreeDigits, Shown}
use Rattle.sheet.specs.declared.Sheet.{Sheet}
use Rattle.sheet.proofs.Page.{lines_after, lines-size, switch_field_lem, switch_size, total_size, page-size}
use Rattle.sheet.proofs.Form.{Plain, Formed, line-length, formed_is, is_formed}
use Rattle.sheet.proofs.Fields.{reads-rules, reads-links, is_plain, is-of_switch, is-of_total, from_fields, switch_laid, total-laid}

-- ---- lines in a row

module _ (f : ℕ → List ℕ) (r : List ℕ) where
  -- the line of a place
  line_in : (k n x : ℕ) → ((y : ℕ) → k ≤ y → y < k + n → length (f y) ≡ line_columns) → x < n → line_at (each f (range k n) ++ r) x ≡ f (k + x)
  line_in k zero x h i = absurd (omega arith)
  line_in k (suc n) zero h i =
      let e : k + 0 ≡ k = omega arith in
      ap (take line_columns) (append_assoc (f k) (each f (range (suc k) n)) r) ∙ take_at (f k) (each f (range (suc k) n) ++ r) line_columns (h k (omega arith) (omega arith)) ∙ ap f (sym e)
  line_in k (suc n) (suc x) h i =
      let e : suc k + x ≡ k + suc x = omega arith in
      let m : line_columns * suc x ≡ line_columns + line_columns * x = omega arith in
      let l = f k ++ (each f (range (suc k) n) ++ r) in
      ap (λ (l : List ℕ). line_at l (suc x)) (append_assoc (f k) (each f (range (suc k) n)) r)
      ∙ ap (λ (y : ℕ). take line_columns (drop y l)) m
      ∙ ap (take line_columns) (sym (drop-drop (line_columns * x) line_columns l))
      ∙ ap (λ (l : List ℕ). line_at l x) (drop_at (f k) (each f (range (suc k) n) ++ r) line_columns (h k (omega arith) (omega arith)))
      ∙ line_in (suc k) n x (λ y j i. h y (omega arith) (omega arith)) (omega arith)
      ∙ ap f e

  -- and the one after them
  line-past : (n : ℕ) → ((y : ℕ) → y < n → length (f y) ≡ line_columns) → length r ≡ line_columns → line_at (each f (range 0 n) ++ r) n ≡ r
  line-past n h e =
      ap (take line_columns) (drop_at (each f (range 0 n)) r (line_columns * n) (lines-size f 0 n (λ y i j. h y (omega arith)))) ∙ take_all line_columns r (omega (arith, e))

each_same : (f g : ℕ → List ℕ) (k n : ℕ) → ((x : ℕ) → k ≤ x → x < k + n → f x ≡ g x) → each f (range k n) ≡ each g (range k n)
each_same f g k zero h = refl
each_same f g k (suc n) h = ap₂ (λ (l m : List ℕ). l ++ m) (h k (omega arith) (omega arith)) (each_same f g (suc k) n (λ x i j. h x (omega arith) (omega arith)))

-- bytes that are whole lines are their lines, one after the other
cut : (b : List ℕ) (k n : ℕ) → length b ≡ line_columns * (k + n) → each (line_at b) (range k n) ≡ drop (line_columns * k) b
cut b k zero e = sym (drop_of_length-le b {i = line_columns * k} (omega (arith, e)))
cut b k (suc n) e =
    let m : line_columns * suc k ≡ line_columns * k + line_columns = omega arith in
    ap (λ (l : List ℕ). line_at b k ++ l) (cut b (suc k) n (omega (arith, e)) ∙ ap (λ (y : ℕ). drop y b) m ∙ sym (drop-drop line_columns (line_columns * k) b))
    ∙ take-append-drop line_columns (drop (line_columns * k) b)

-- ---- a column

-- the number of a switch, and none past the switches
column_at : (n : ℕ) (on : ℕ → ℕ) (x : ℕ) → n ≤ max_switches → x < n → at (column_of n on) x ≡ on x
unfolding column_of
column_at n on x m h = values-at (λ y. choose (ltb y n) (on y) 0) 0 max_switches x (omega arith) ∙ rw (lt-ltb x n h) refl

column_length : (n : ℕ) (on : ℕ → ℕ) → length (column_of n on) ≡ max_switches
unfolding column_of
column_length n on = values_length (λ y. choose (ltb y n) (on y) 0) 0 max_switches

column_past : (n : ℕ) (on : ℕ → ℕ) (x : ℕ) → n ≤ x → at (column_of n on) x ≡ 0
unfolding column_of
column_past n on x h = go (below? x max_switches)
  where
    go : (x < max_switches) ⊎ (max_switches ≤ x) → at (column_of n on) x ≡ 0
    go (inl i) = values-at (λ y. choose (ltb y n) (on y) 0) 0 max_switches x i ∙ rw (le-ltb x n h) refl
    go (inr i) = get_or-eq_default (column_of n on) 0 {n = x} (omega (arith, column_length n on))

-- an array with the numbers of the first n places, and zeros past them, is the column
pub column_are : (n : ℕ) (on : ℕ → ℕ) (l : List ℕ) → length l ≡ max_switches → ((x : ℕ) → x < n → at l x ≡ on x) → ((x : ℕ) → n ≤ x → at l x ≡ 0) → column_of n on ≡ l
unfolding column_of
column_are n on l e h z = sym (values-are (λ y. choose (ltb y n) (on y) 0) 0 max_switches l e (λ x i. go x (below? x n)))
  where
    go : (x : ℕ) → (x < n) ⊎ (n ≤ x) → at l x ≡ choose (ltb x n) (on x) 0
    go x (inl i) = h x i ∙ rw (lt-ltb x n i) refl
    go x (inr i) = z x i ∙ rw (le-ltb x n i) refl

-- ---- what is written is read

module _ (s : Sheet) (w : Shown s) where
  abbrev b : List ℕ
  b = buying_page s

  d : ThreeDigits s
  d = w.digits

  size : length b ≡ line_columns * (s.switches + 1)
  size = page-size s d w.few

  lines : lines_in b ≡ s.switches + 1
  lines = omega (arith, size)

  switches : switches_in b ≡ s.switches
  switches = omega (arith, lines)

  switch_at : (x : ℕ) → x < s.switches → line_at b x ≡ switch_line s x
  unfolding buying_page
  switch_at x h =
      let e : 0 + x ≡ x = omega arith in
      line_in (switch_line s) (total_line s) 0 s.switches x (λ y i j. switch_size s d w.few y (omega arith)) h ∙ ap (switch_line s) e

  total-at : line_at b s.switches ≡ total_line s
  unfolding buying_page
  total-at = line-past (switch_line s) (total_line s) s.switches (λ y i. switch_size s d w.few y i) (total_size s d)

  rules-at : (x : ℕ) → x < s.switches → rules_on b x ≡ at s.rules x
  rules-at x h =
      ap (λ (l : List ℕ). number_in (rules_field l)) (switch_at x h)
      ∙ reads-rules (right_in switch_columns (decimal x)) (switch_field_lem s d w.few x h) (at s.rules x) (at s.links x) (d.rules x h) (d.links x h)

  links-at : (x : ℕ) → x < s.switches → links_on b x ≡ at s.links x
  links-at x h =
      ap (λ (l : List ℕ). number_in (links_field l)) (switch_at x h)
      ∙ reads-links (right_in switch_columns (decimal x)) (switch_field_lem s d w.few x h) (at s.rules x) (at s.links x) (d.rules x h) (d.links x h)

  rules-last : rules_on b s.switches ≡ s.total
  rules-last = ap (λ (l : List ℕ). number_in (rules_field l)) total-at ∙ reads-rules (left_in switch_columns total_word) refl s.total s.quantity d.total d.quantity

  links-last : links_on b s.switches ≡ s.quantity
  links-last = ap (λ (l : List ℕ). number_in (links_field l)) total-at ∙ reads-links (left_in switch_columns total_word) refl s.total s.quantity d.total d.quantity

  plain_at : (x : ℕ) → (x < s.switches) ⊎ (s.switches ≤ x) → x < s.switches + 1 → Plain (line_at b x)
  plain_at x (inl h) i = rw (switch_at x h) (is_plain (right_in switch_columns (decimal x)) (switch_field_lem s d w.few x h) (at s.rules x) (at s.links x) (d.rules x h) (d.links x h))
  plain_at x (inr h) i =
      let e : x ≡ s.switches = omega arith in
      rw (e, total-at) (is_plain (left_in switch_columns total_word) refl s.total s.quantity d.total d.quantity)

  of_switch-at : (x : ℕ) → x < s.switches → of_switch (line_at b x) x ≡ true
  of_switch-at x h = ap (λ (l : List ℕ). of_switch l x) (switch_at x h) ∙ is-of_switch x (at s.rules x) (at s.links x) (omega (arith, w.few)) (d.rules x h) (d.links x h)

  -- it is of the form
  pub written-formed : formed b ≡ true
  written-formed =
      is_formed b (record {
        bytes = size ∙ ap (λ (n : ℕ). line_columns * n) (sym lines);
        some = omega (arith, lines, w.some);
        few = omega (arith, lines, w.few);
        plain = λ x h. plain_at x (below? x s.switches) (omega (arith, lines));
        switches = λ x h. of_switch-at x (omega (arith, switches));
        total = ap (λ (x : ℕ). of_total (line_at b x)) switches ∙ ap of_total total-at ∙ is-of_total s.total s.quantity d.total d.quantity;
        adds_up =
            ap (λ (n : ℕ). sum n (rules_on b)) switches
            ∙ sum_same s.switches (rules_on b) (at s.rules) rules-at
            ∙ w.adds_up
            ∙ sym (ap (rules_on b) switches ∙ rules-last);
      })

  -- with these counts in it
  written-counts : counts_in b ≡ s
  unfolding counts_in
  written-counts =
      rw (
        switches,
        column_are s.switches (rules_on b) s.rules w.rules_places (λ x h. sym (rules-at x h)) w.rules_past,
        column_are s.switches (links_on b) s.links w.links_places (λ x h. sym (links-at x h)) w.links_past,
        rules-last,
        links-last,
      ) refl

  pub read_of_written : answer (reading_page (buying_page s)) ≡ given s
  unfolding reading_page
  read_of_written = rw (written-formed, written-counts) refl

-- ---- what is read is written

module _ (b : List ℕ) (e : formed b ≡ true) where
  f : Formed b
  f = formed_is b e

  long : (x : ℕ) → x < lines_in b → length (line_at b x) ≡ line_columns
  long x h = line-length b x (omega (arith, f.bytes))

  inside : (x : ℕ) → x < switches_in b → x < lines_in b
  inside x h = omega arith

  last_in : switches_in b < lines_in b
  last_in = omega (arith, f.some)

  few : switches_in b ≤ max_switches
  few = omega (arith, f.few)

  pub read-shown : Shown (counts_in b)
  unfolding counts_in
  read-shown = record {
    some = omega (arith, f.some);
    few = few;
    rules_places = column_length (switches_in b) (rules_on b);
    links_places = column_length (switches_in b) (links_on b);
    rules_past = column_past (switches_in b) (rules_on b);
    links_past = column_past (switches_in b) (links_on b);
    digits = record {
      rules = λ x h. rw (column_at (switches_in b) (rules_on b) x few h) (number-below (rules_field (line_at b x)) (f.plain x (inside x h)).rules);
      links = λ x h. rw (column_at (switches_in b) (links_on b) x few h) (number-below (links_field (line_at b x)) (f.plain x (inside x h)).links);
      total = number-below (rules_field (line_at b (switches_in b))) (f.plain (switches_in b) last_in).rules;
      quantity = number-below (links_field (line_at b (switches_in b))) (f.plain (switches_in b) last_in).links;
    };
    adds_up = sum_same (switches_in b) (at (column_of (switches_in b) (rules_on b))) (rules_on b) (λ x h. column_at (switches_in b) (rules_on b) x few h) ∙ f.adds_up;
  }

  switch_is : (x : ℕ) → x < switches_in b → switch_line (counts_in b) x ≡ line_at b x
  unfolding counts_in
  switch_is x h =
      let l = line_at b x in
      rw (column_at (switches_in b) (rules_on b) x few h, column_at (switches_in b) (links_on b) x few h)
      (ap (λ (t : List ℕ). line_of t (rules_on b x) (links_on b x)) (sym (switch_laid l (long x (inside x h)) (f.plain x (inside x h)) x (f.switches x h))) ∙ sym (from_fields l (long x (inside x h)) (f.plain x (inside x h))))

  total-is : total_line (counts_in b) ≡ line_at b (switches_in b)
  unfolding counts_in
  total-is =
      let x = switches_in b in
      let l = line_at b x in
      ap (λ (t : List ℕ). line_of t (rules_on b x) (links_on b x)) (sym (total-laid l (long x last_in) (f.plain x last_in) f.total)) ∙ sym (from_fields l (long x last_in) (f.plain x last_in))

  pub written_again : buying_page (counts_in b) ≡ b
  unfolding buying_page counts_in
  written_again =
      let n : 0 + (switches_in b + 1) ≡ lines_in b = omega (arith, f.some) in
      ap₂ (λ (l m : List ℕ). l ++ m) (each_same (switch_line (counts_in b)) (line_at b) 0 (switches_in b) (λ x i h. switch_is x (omega arith))) total-is
      ∙ sym (lines_after (line_at b) (switches_in b))
      ∙ cut b 0 (switches_in b + 1) (f.bytes ∙ ap (λ (k : ℕ). line_columns * k) (sym n))

-- ---- what the reader accepts

module _ (b : List ℕ) (s : Sheet) (g : answer (reading_page b) ≡ given s) where
  accepted : formed b ≡ true
  unfolding reading_page
  accepted = go (bool? (formed b))
    where
      go : (formed b ≡ true) ⊎ (formed b ≡ false) → formed b ≡ true
      go (inl e) = e
      go (inr e) = absurd (given-refused s 18 (sym g ∙ rw e refl))

  counts : counts_in b ≡ s
  unfolding reading_page
  counts = given-given (counts_in b) s (sym (rw accepted refl) ∙ g)

  pub accepted-shown : Shown s
  accepted-shown = subst Shown counts (read-shown b accepted)

  pub written_of_read : buying_page s ≡ b
  written_of_read = ap buying_page (sym counts) ∙ written_again b accepted
