-- A line and its fields: of a line from its fields they are those fields, and a line with numbers in its fields and spaces elsewhere is the line from them. Assumes nothing.
use mathlib.Core.Path.{◌≡◌, refl, sym, ap, ap₂, ◌∙◌}
use mathlib.Core.Bool.{true}
use mathlib.Core.List.{List, [], ◌∷◌, ◌++◌}
use Prim.Native.Nat.{ℕ, ◌+◌, ◌-◌, ◌≤◌, ◌<◌}
use native.Mathlib.Omega.{arith}
use borrow.Author.Tests.{eq-eqb, eqb-true}
use lib.Dec.{eqb}
use lib.ListN.{length, take, drop, length-drop, take-append-drop, drop_of_length-le}
use lib.Seq.{take_at, drop_at, drop-drop, drop-cons, get_or-drop, get_or-take, length-take-le, ext_get_or}
use Rattle.lists.specs.Arrays.{at}
use Rattle.lists.specs.Members.{all}
use Rattle.lists.specs.Numbers.{every}
use Rattle.lists.proofs.Numbers.{every-at}
use Rattle.lists.proofs.Tests.{true_T, T_true, and_true}
use Rattle.text.specs.Decimal.{decimal}
use Rattle.text.specs.Lines.{space, newline}
use Rattle.columns.specs.Fields.{spaces, right_in, left_in, is_number, number_in}
use Rattle.columns.proofs.Fields.{right_is, right-reads, number-below, number-right}
use Rattle.sheet.specs.Columns.{switch_columns, rules_columns, links_columns, line_columns, switch_end, rules_end, links_end, last_column, columns_of}
use Rattle.sheet.specs.Page.{total_word, line_of}
use Rattle.sheet.specs.Form.{switch_field, rules_field, links_field, of_switch, of_total}
use Rattle.sheet.specs.Numbers.{numbers_of}
use Rattle.sheet.proofs.Page.{field-size, line_is}
use Rattle.sheet.proofs.Form.{Plain}

-- ---- the fields of a line from its fields

module _ (field : List ℕ) (f : length field ≡ switch_columns) (a b : ℕ) (h : a < 1000) (k : b < 1000) where
  abbrev rules_text : List ℕ
  rules_text = right_in rules_columns (decimal a)

  abbrev links_text : List ℕ
  links_text = right_in links_columns (decimal b)

  abbrev end_text : List ℕ
  end_text = spaces (last_column - links_end) ++ (newline ∷ [])

  abbrev line : List ℕ
  line = line_of field a b

  -- what comes after each field
  past_switch : drop switch_end line ≡ rules_text ++ (links_text ++ end_text)
  unfolding numbers_of
  past_switch = ap (drop switch_end) (line_is a b h k field f) ∙ drop_at field (numbers_of a b) switch_end f

  past-rules : drop rules_end line ≡ links_text ++ end_text
  past-rules =
      sym (drop-drop rules_columns switch_end line)
      ∙ ap (drop rules_columns) past_switch
      ∙ drop_at rules_text (links_text ++ end_text) rules_columns (field-size rules_columns a (omega arith) h)

  past-links : drop links_end line ≡ end_text
  past-links =
      sym (drop-drop links_columns rules_end line) ∙ ap (drop links_columns) past-rules ∙ drop_at links_text end_text links_columns (field-size links_columns b (omega arith) k)

  first_field : switch_field line ≡ field
  first_field = ap (take switch_end) (line_is a b h k field f) ∙ take_at field (numbers_of a b) switch_end f

  second-field : rules_field line ≡ rules_text
  second-field = ap (take rules_columns) past_switch ∙ take_at rules_text (links_text ++ end_text) rules_columns (field-size rules_columns a (omega arith) h)

  third-field : links_field line ≡ links_text
  third-field = ap (take links_columns) past-rules ∙ take_at links_text end_text links_columns (field-size links_columns b (omega arith) k)

  pub reads-rules : number_in (rules_field line) ≡ a
  reads-rules = ap number_in second-field ∙ right-reads rules_columns a h

  pub reads-links : number_in (links_field line) ≡ b
  reads-links = ap number_in third-field ∙ right-reads links_columns b k

  pub is_plain : Plain line
  is_plain = record {
    rules = ap is_number second-field ∙ right_is rules_columns a h;
    links = ap is_number third-field ∙ right_is links_columns b k;
    spaces = ap (λ (l : List ℕ). all (eqb space) (take (last_column - links_end) l)) past-links;
    end = sym (get_or-drop links_end line (last_column - links_end) 0) ∙ ap (λ (l : List ℕ). at l (last_column - links_end)) past-links;
  }

-- the line of a switch, and the last line
pub is-of_switch : (x a b : ℕ) → x < 1000 → a < 1000 → b < 1000 → of_switch (line_of (right_in switch_columns (decimal x)) a b) x ≡ true
unfolding of_switch
is-of_switch x a b i h k =
    rw (first_field (right_in switch_columns (decimal x)) (field-size switch_columns x (omega arith) i) a b h k, right_is switch_columns x i, right-reads switch_columns x i) (eq-eqb x x refl)

pub is-of_total : (a b : ℕ) → a < 1000 → b < 1000 → of_total (line_of (left_in switch_columns total_word) a b) ≡ true
unfolding of_total every
is-of_total a b h k = rw (line_is a b h k (left_in switch_columns total_word) refl) refl

-- ---- a line from its fields

spaces-all : (f : List ℕ) → all (eqb space) f ≡ true → f ≡ spaces (length f)
spaces-all [] e = refl
spaces-all (b ∷ f) e =
    let t = and_true (eqb space b) (all (eqb space) f) e in
    ap₂ (λ (c : ℕ) (l : List ℕ). c ∷ l) (sym (eqb-true space b t.0)) (spaces-all f t.1)

-- a part of a line is as long as its columns
columns_size : (f t : ℕ) (line : List ℕ) → length line ≡ line_columns → f ≤ t → t ≤ line_columns → length (columns_of f t line) ≡ t - f
columns_size f t line h i j = length-take-le (t - f) (drop f line) (omega (arith, length-drop f line))

-- a number in such a part is laid there
number-laid : (f t : ℕ) (line : List ℕ) → length line ≡ line_columns → f ≤ t → t ≤ line_columns → is_number (columns_of f t line) ≡ true
    → columns_of f t line ≡ right_in (t - f) (decimal (number_in (columns_of f t line)))
number-laid f t line h i j e =
    sym (ap (λ (n : ℕ). right_in n (decimal (number_in (columns_of f t line)))) (sym (columns_size f t line h i j)) ∙ number-right (columns_of f t line) e)

-- a list from a place on is so many of its members and the rest
part_then : (f n : ℕ) (l : List ℕ) → drop f l ≡ take n (drop f l) ++ drop (f + n) l
part_then f n l = sym (ap (λ (m : List ℕ). take n (drop f l) ++ m) (sym (drop-drop n f l)) ∙ take-append-drop n (drop f l))

module _ (line : List ℕ) (h : length line ≡ line_columns) (p : Plain line) where
  end_is : drop last_column line ≡ newline ∷ []
  end_is = drop-cons line last_column 0 (omega (arith, h)) ∙ ap₂ (λ (c : ℕ) (l : List ℕ). c ∷ l) p.end (drop_of_length-le line {i = line_columns} (omega (arith, h)))

  rest-is : drop links_end line ≡ spaces (last_column - links_end) ++ (newline ∷ [])
  rest-is =
      part_then links_end (last_column - links_end) line
      ∙ ap₂ (λ (l m : List ℕ). l ++ m)
      (spaces-all (columns_of links_end last_column line) p.spaces ∙ ap spaces (columns_size links_end last_column line h (omega arith) (omega arith)))
      end_is

  numbers-are : drop switch_end line ≡ numbers_of (number_in (rules_field line)) (number_in (links_field line))
  unfolding numbers_of
  numbers-are =
      part_then switch_end rules_columns line
      ∙ ap₂ (λ (l m : List ℕ). l ++ m) (number-laid switch_end rules_end line h (omega arith) (omega arith) p.rules)
      (part_then rules_end links_columns line ∙ ap₂ (λ (l m : List ℕ). l ++ m) (number-laid rules_end links_end line h (omega arith) (omega arith) p.links) rest-is)

  pub from_fields : line ≡ line_of (switch_field line) (number_in (rules_field line)) (number_in (links_field line))
  from_fields =
      sym (take-append-drop switch_end line)
      ∙ ap (λ (l : List ℕ). switch_field line ++ l) numbers-are
      ∙ sym (line_is (number_in (rules_field line)) (number_in (links_field line)) (number-below (rules_field line) p.rules) (number-below (links_field line) p.links) (switch_field line) (columns_size 0 switch_end line h (omega arith) (omega arith)))

  -- the first field of the line of a switch, and of the last line
  pub switch_laid : (x : ℕ) → of_switch line x ≡ true → switch_field line ≡ right_in switch_columns (decimal x)
  unfolding of_switch
  switch_laid x e =
      let t = and_true (is_number (switch_field line)) (eqb (number_in (switch_field line)) x) e in
      number-laid 0 switch_end line h (omega arith) (omega arith) t.0 ∙ ap (λ (n : ℕ). right_in switch_columns (decimal n)) (eqb-true (number_in (switch_field line)) x t.1)

  pub total-laid : of_total line ≡ true → switch_field line ≡ left_in switch_columns total_word
  unfolding of_total
  total-laid e =
      let n = columns_size 0 switch_end line h (omega arith) (omega arith) in
      ext_get_or 0 (switch_field line) (left_in switch_columns total_word) n
      (λ i j. get_or-take switch_end line i 0 (omega (arith, n)) ∙ eqb-true (at line i) (at (left_in switch_columns total_word) i) (T_true _ (every-at switch_columns (λ i. eqb (at line i) (at (left_in switch_columns total_word) i)) (true_T _ e) i (omega (arith, n)))))
