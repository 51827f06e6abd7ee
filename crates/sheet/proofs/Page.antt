-- The lines of a buying page: each has its columns, where its numbers have at most three digits, and so the page has its length. Assumes nothing.
use mathlib.Core.Path.{◌≡◌, refl, sym, ap, ◌∙◌}
use mathlib.Core.List.{List, [], ◌∷◌, ◌++◌, append-nil, append_assoc}
use Prim.Native.Nat.{ℕ, zero, suc, ◌+◌, ◌-◌, ◌*◌, ◌≤◌, ◌<◌}
use native.Mathlib.Numerals.{add-one}
use native.Mathlib.Omega.{arith}
use lib.ListN.{length, drop, length-append}
use Rattle.lists.specs.Arrays.{at}
use Rattle.lists.specs.Numbers.{range}
use Rattle.lists.proofs.Arrays.{sets-front}
use Rattle.limits.specs.Limits.{max_switches}
use Rattle.text.specs.Decimal.{decimal}
use Rattle.text.specs.Lines.{newline, each}
use Rattle.text.specs.Laid.{Laid}
use Rattle.text.proofs.LaidLaws.{laid_then}
use Rattle.columns.specs.Fields.{most_digits, spaces, right_in, left_in}
use Rattle.columns.proofs.Fields.{right-size, spaces-size, short-decimal}
use Rattle.sheet.specs.Columns.{switch_columns, rules_columns, links_columns, line_columns, links_end, last_column}
use Rattle.sheet.specs.Page.{total_word, line_of, switch_line, total_line, buying_page, page_length}
use Rattle.sheet.specs.Numbers.{numbers_of}
use Rattle.sheet.specs.Shown.{ThreeDigits}
use Rattle.sheet.specs.declared.Sheet.{Sheet}

-- a number of at most three digits fills its columns
pub field-size : (columns n : ℕ) → most_digits ≤ columns → n < 1000 → length (right_in columns (decimal n)) ≡ columns
field-size columns n h k = omega (arith, right-size columns (decimal n), short-decimal n k)

-- ---- a line

module _ (a b : ℕ) (h : a < 1000) (k : b < 1000) where
  -- the two numbers, and what comes after them
  pub numbers-size : length (numbers_of a b) ≡ line_columns - switch_columns
  unfolding numbers_of
  numbers-size =
      omega (
        arith,
        length-append (right_in rules_columns (decimal a)) (right_in links_columns (decimal b) ++ (spaces (last_column - links_end) ++ (newline ∷ []))),
        length-append (right_in links_columns (decimal b)) (spaces (last_column - links_end) ++ (newline ∷ [])),
        length-append (spaces (last_column - links_end)) (newline ∷ []),
        spaces-size (last_column - links_end),
        field-size rules_columns a (omega arith) h,
        field-size links_columns b (omega arith) k,
      )

  module _ (field : List ℕ) (f : length field ≡ switch_columns) where
    pub line_is : line_of field a b ≡ field ++ numbers_of a b
    unfolding line_of numbers_of
    line_is =
        let x = right_in rules_columns (decimal a) in
        let y = right_in links_columns (decimal b) in
        let n : last_column - length (field ++ x ++ y) ≡ last_column - links_end = omega (
          arith,
          length-append (field ++ x) y,
          length-append field x,
          field-size rules_columns a (omega arith) h,
          field-size links_columns b (omega arith) k,
        ) in
        rw n
        (append_assoc (field ++ x ++ y) (spaces (last_column - links_end)) (newline ∷ [])
        ∙ append_assoc (field ++ x) y (spaces (last_column - links_end) ++ (newline ∷ []))
        ∙ append_assoc field x (y ++ (spaces (last_column - links_end) ++ (newline ∷ []))))

    pub line-size : length (line_of field a b) ≡ line_columns
    line-size = ap length line_is ∙ omega (arith, length-append field (numbers_of a b), numbers-size)

-- ---- the lines of a page

module _ (s : Sheet) (d : ThreeDigits s) where
  module _ (few : s.switches ≤ max_switches) (x : ℕ) (h : x < s.switches) where
    pub switch_field_lem : length (right_in switch_columns (decimal x)) ≡ switch_columns
    switch_field_lem = field-size switch_columns x (omega arith) (omega arith)

    pub switch_is : switch_line s x ≡ right_in switch_columns (decimal x) ++ numbers_of (at s.rules x) (at s.links x)
    switch_is = line_is (at s.rules x) (at s.links x) (d.rules x h) (d.links x h) (right_in switch_columns (decimal x)) switch_field_lem

    pub switch_size : length (switch_line s x) ≡ line_columns
    switch_size = line-size (at s.rules x) (at s.links x) (d.rules x h) (d.links x h) (right_in switch_columns (decimal x)) switch_field_lem

  pub total-is : total_line s ≡ left_in switch_columns total_word ++ numbers_of s.total s.quantity
  total-is = line_is s.total s.quantity d.total d.quantity (left_in switch_columns total_word) refl

  pub total_size : length (total_line s) ≡ line_columns
  total_size = line-size s.total s.quantity d.total d.quantity (left_in switch_columns total_word) refl

-- ---- lines of numbers in a row

module _ (f : ℕ → List ℕ) where
  lines_next : (k n : ℕ) → each f (range k (suc n)) ≡ each f (range k n) ++ f (k + n)
  lines_next k zero = let e : k + 0 ≡ k = omega arith in rw e (append-nil (f k))
  lines_next k (suc n) =
      let e : suc k + n ≡ k + suc n = omega arith in
      ap (λ (l : List ℕ). f k ++ l) (lines_next (suc k) n) ∙ rw e (sym (append_assoc (f k) (each f (range (suc k) n)) (f (k + suc n))))

  pub lines_after : (n : ℕ) → each f (range 0 (n + 1)) ≡ each f (range 0 n) ++ f n
  lines_after n = let e : 0 + n ≡ n = omega arith in rw (add-one n) (lines_next 0 n ∙ ap (λ (x : ℕ). each f (range 0 n) ++ f x) e)

  pub lines-size : (k n : ℕ) → ((x : ℕ) → k ≤ x → x < k + n → length (f x) ≡ line_columns) → length (each f (range k n)) ≡ line_columns * n
  lines-size k zero h = omega arith
  lines-size k (suc n) h =
      omega (arith, length-append (f k) (each f (range (suc k) n)), h k (omega arith) (omega arith), lines-size (suc k) n (λ x i j. h x (omega arith) (omega arith)))

module _ (s : Sheet) (d : ThreeDigits s) (few : s.switches ≤ max_switches) where
  pub switches-size : (n : ℕ) → n ≤ s.switches → length (each (switch_line s) (range 0 n)) ≡ line_columns * n
  switches-size n h = lines-size (switch_line s) 0 n (λ x i j. switch_size s d few x (omega arith))

  -- "The page is S + 1 lines"
  pub page-size : length (buying_page s) ≡ page_length s
  unfolding buying_page
  page-size =
      omega (arith, length-append (each (switch_line s) (range 0 s.switches)) (total_line s), switches-size s.switches (omega arith), total_size s d)

-- ---- at the front of a buffer

module _ (s : Sheet) (b : List ℕ) where
  -- the lines, laid one after the other, are the page, and what stood past it stays
  pub page-laid : ThreeDigits s → s.switches ≤ max_switches → page_length s ≤ length b → {c e : List ℕ} {i j : ℕ} → Laid b 0 (each (switch_line s) (range 0 s.switches)) c i → Laid c i (total_line s) e j
      → e ≡ buying_page s ++ drop (page_length s) b
  unfolding buying_page
  page-laid d few h l m =
      (laid_then l m).buffer
      ∙ sets-front b (buying_page s) (omega (arith, page-size s d few))
      ∙ ap (λ (n : ℕ). buying_page s ++ drop n b) (page-size s d few)
