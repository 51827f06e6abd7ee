-- The form of a buying page by its parts: it is of the form exactly if each holds, and what each says of its lines. Assumes nothing.
use mathlib.Core.Path.{◌≡◌, refl}
use mathlib.Core.Bool.{true, false, ◌&&◌}
use mathlib.Core.List.{List}
use Prim.Native.Nat.{ℕ, ◌+◌, ◌*◌, ◌%◌, ◌≤◌, ◌<◌}
use native.Mathlib.Omega.{arith}
use borrow.Author.Tests.{eq-eqb, eqb-true, le-leb, leb-true}
use lib.Dec.{eqb, leb}
use lib.ListN.{length, drop, length-drop}
use lib.Seq.{length-take-le}
use Rattle.lists.specs.Arrays.{at}
use Rattle.lists.specs.Members.{all}
use Rattle.lists.specs.Sum.{sum}
use Rattle.lists.proofs.Numbers.{every-at}
use Rattle.lists.proofs.Stepwise.{every_true}
use Rattle.lists.proofs.Tests.{true_T, T_true, not_true_false, and_true}
use Rattle.limits.specs.Limits.{max_switches}
use Rattle.text.specs.Lines.{space, newline}
use Rattle.columns.specs.Fields.{is_number}
use Rattle.sheet.specs.Columns.{line_columns, links_end, last_column, columns_of}
use Rattle.sheet.specs.Form.{rules_field, links_field, numbers_held, spaces_else, of_switch, of_total, lines_in, line_at, switches_in, rules_on, whole_lines, plain_lines, rising, total_last, rules_add_up, formed}

-- ---- a line

-- the parts of a line that is not looked at in its first field
pub record Plain (line : List ℕ) : Type 0 where
  pub rules : is_number (rules_field line) ≡ true
  pub links : is_number (links_field line) ≡ true
  pub spaces : all (eqb space) (columns_of links_end last_column line) ≡ true
  pub end : at line last_column ≡ newline

module _ (line : List ℕ) where
  line_plain : numbers_held line && spaces_else line ≡ true → Plain line
  unfolding numbers_held spaces_else
  line_plain e =
      let t = and_true (numbers_held line) (spaces_else line) e in
      let n = and_true (is_number (rules_field line)) (is_number (links_field line)) t.0 in
      let s = and_true (all (eqb space) (columns_of links_end last_column line)) (eqb (at line last_column) newline) t.1 in
      record { rules = n.0; links = n.1; spaces = s.0; end = eqb-true (at line last_column) newline s.1 }

  plain_line : Plain line → numbers_held line && spaces_else line ≡ true
  unfolding numbers_held spaces_else
  plain_line p = rw (p.rules, p.links, p.spaces, eq-eqb (at line last_column) newline p.end) refl

-- ---- a page

-- where there are so many lines, each has its columns
pub line-length : (b : List ℕ) (x : ℕ) → line_columns * (x + 1) ≤ length b → length (line_at b x) ≡ line_columns
line-length b x h = length-take-le line_columns (drop (line_columns * x) b) (omega (arith, length-drop (line_columns * x) b))

module _ (b : List ℕ) where
  pub record Formed : Type 0 where
    pub bytes : length b ≡ line_columns * lines_in b
    pub some : 2 ≤ lines_in b
    pub few : lines_in b ≤ max_switches + 1
    pub plain : (x : ℕ) → x < lines_in b → Plain (line_at b x)
    pub switches : (x : ℕ) → x < switches_in b → of_switch (line_at b x) x ≡ true
    pub total : of_total (line_at b (switches_in b)) ≡ true
    pub adds_up : sum (switches_in b) (rules_on b) ≡ rules_on b (switches_in b)

  pub whole_is : whole_lines b ≡ true → (length b ≡ line_columns * lines_in b) × (2 ≤ lines_in b) × (lines_in b ≤ max_switches + 1)
  unfolding whole_lines
  whole_is e =
      let t = and_true (eqb (length b % line_columns) 0 && leb 2 (lines_in b)) (leb (lines_in b) (max_switches + 1)) e in
      let u = and_true (eqb (length b % line_columns) 0) (leb 2 (lines_in b)) t.0 in
      let z = eqb-true (length b % line_columns) 0 u.0 in
      (omega arith, leb-true 2 (lines_in b) u.1, leb-true (lines_in b) (max_switches + 1) t.1)

  pub lines_plain : plain_lines b ≡ true → (x : ℕ) → x < lines_in b → Plain (line_at b x)
  unfolding plain_lines
  lines_plain e x h = line_plain (line_at b x) (T_true _ (every-at (lines_in b) (λ y. numbers_held (line_at b y) && spaces_else (line_at b y)) (true_T _ e) x h))

  -- the tests, one by one
  pub record Passes : Type 0 where
    pub whole : whole_lines b ≡ true
    pub plain : plain_lines b ≡ true
    pub rise : rising b ≡ true
    pub total : total_last b ≡ true
    pub adds_up : rules_add_up b ≡ true

  formed_passes : formed b ≡ true → Passes
  unfolding formed
  formed_passes e =
      let t = and_true (whole_lines b && plain_lines b && rising b && total_last b) (rules_add_up b) e in
      let u = and_true (whole_lines b && plain_lines b && rising b) (total_last b) t.0 in
      let v = and_true (whole_lines b && plain_lines b) (rising b) u.0 in
      let w = and_true (whole_lines b) (plain_lines b) v.0 in
      record { whole = w.0; plain = w.1; rise = v.1; total = u.1; adds_up = t.1 }

  passes_formed : Passes → formed b ≡ true
  unfolding formed
  passes_formed p = rw (p.whole, p.plain, p.rise, p.total, p.adds_up) refl

  pub formed_is : formed b ≡ true → Formed
  unfolding rising total_last rules_add_up
  formed_is e =
      let p = formed_passes e in
      let w = whole_is p.whole in
      record {
        bytes = w.0;
        some = w.1;
        few = w.2;
        plain = lines_plain p.plain;
        switches = λ x h. T_true _ (every-at (switches_in b) (λ y. of_switch (line_at b y) y) (true_T _ p.rise) x h);
        total = p.total;
        adds_up = eqb-true (sum (switches_in b) (rules_on b)) (rules_on b (switches_in b)) p.adds_up;
      }

  pub is_formed : Formed → formed b ≡ true
  unfolding whole_lines plain_lines rising total_last rules_add_up
  is_formed f =
      let z : length b % line_columns ≡ 0 = omega (arith, f.bytes) in
      passes_formed (record {
        whole = rw (eq-eqb (length b % line_columns) 0 z, le-leb 2 (lines_in b) f.some, le-leb (lines_in b) (max_switches + 1) f.few) refl;
        plain = every_true (lines_in b) (λ y. numbers_held (line_at b y) && spaces_else (line_at b y)) (λ x h. plain_line (line_at b x) (f.plain x h));
        rise = every_true (switches_in b) (λ y. of_switch (line_at b y) y) f.switches;
        total = f.total;
        adds_up = eq-eqb (sum (switches_in b) (rules_on b)) (rules_on b (switches_in b)) f.adds_up;
      })

  -- where all tests before it hold, the last one tells
  pub formed_rest : whole_lines b ≡ true → plain_lines b ≡ true → rising b ≡ true → total_last b ≡ true → rules_add_up b ≡ formed b
  unfolding formed
  formed_rest e f g h = rw (e, f, g, h) refl

  -- a test that fails
  pub not_formed : (Passes → ⊥) → formed b ≡ false
  not_formed n = not_true_false (formed b) (λ e. n (formed_passes e))
