-- What document 02's order 3 promises holds: of every page that is written, and of all bytes that are read. Assumes nothing.
use mathlib.Core.Path.{◌≡◌, refl, sym, ap, ◌∙◌}
use mathlib.Core.List.{List, [], ◌∷◌, ◌++◌, map, flatten}
use Prim.Native.Nat.{ℕ, ◌-◌, ◌≤◌, ◌<◌}
use native.Mathlib.Omega.{arith}
use borrow.Author.Tests.{le-ltb}
use lib.ListN.{length, drop, replicate}
use Rattle.lists.specs.Arrays.{at}
use Rattle.lists.specs.Numbers.{range}
use Rattle.lists.proofs.Numbers.{values-at}
use Rattle.lists.proofs.Sum.{sum_same}
use Rattle.plant.specs.declared.Plant.{Plant}
use Rattle.answers.specs.Answers.{given}
use Rattle.answers.specs.Checks.{answer}
use Rattle.answers.proofs.Checks.{goes_on, gives_so, was_given}
use Rattle.codec.specs.Field.{Bytes}
use Rattle.limits.specs.Limits.{max_switches}
use Rattle.walks.specs.Graph.{links_at}
use Rattle.walks.proofs.LinksAt.{links_twice}
use Rattle.senders.specs.Senders.{by_switch}
use Rattle.quantity.specs.Quantity.{max_spare, with_spare, spare_above, order_quantity}
use Rattle.plan.specs.Plan.{table_of}
use Rattle.plan.proofs.Totals.{totals}
use Rattle.sheet.specs.declared.Sheet.{Sheet}
use Rattle.text.specs.Decimal.{decimal}
use Rattle.text.specs.Lines.{each}
use Rattle.sheet.specs.Numbers.{numbers_of}
use Rattle.sheet.specs.Page.{switch_line, total_line, buying_page, page_length}
use Rattle.sheet.specs.Shown.{Shown}
use Rattle.sheet.proofs.Page.{field-size, switch_is, total-is, switch_size, total_size, page-size}
use Rattle.sheet.proofs.RoundTrip.{read_of_written, accepted-shown, written_of_read}
use Rattle.listing.specs.Listing.{reading}
use Rattle.listing.proofs.RoundTrip.{decode_sound}
use Rattle.quoting.specs.Quotes.{sheet_with, pricing}
use Rattle.planner.specs.Calls.{quoting_for}
use Rattle.planner.proofs.Buying.{quoted_shown, buying-given, buying-left}
use Rattle.demands.specs.Order3.{RightAligned, LineIs, PageLines, PageWritten, PageForm}

-- ---- the columns of a line

abbrev right_in : ℕ → List ℕ → List ℕ
right_in columns text = replicate (columns - length text) 32 ++ text

right_aligned : (columns n : ℕ) → 3 ≤ columns → n < 1000 → RightAligned columns n (right_in columns (decimal n))
right_aligned columns n h k = record { wide = field-size columns n h k; before = columns - length (decimal n); is = refl }

line_of : (first : List ℕ) (a b : ℕ) (l : List ℕ) → length first ≡ 6 → a < 1000 → b < 1000 → l ≡ first ++ numbers_of a b → LineIs first a b l
unfolding numbers_of
line_of first a b l six h k e = record {
  six = six;
  second = right_in 8 (decimal a);
  third = right_in 8 (decimal b);
  second_number = right_aligned 8 a (omega arith) h;
  third_number = right_aligned 8 b (omega arith) k;
  is = e;
}

line_by_line : (f : ℕ → List ℕ) (xs : List ℕ) → each f xs ≡ flatten (map f xs)
unfolding flatten
line_by_line f [] = refl
line_by_line f (x ∷ xs) = ap (λ (l : List ℕ). f x ++ l) (line_by_line f xs)

lines_in_lem : (c : Sheet) → buying_page c ≡ flatten (map (switch_line c) (range 0 c.switches)) ++ total_line c
unfolding buying_page
lines_in_lem c = ap (λ (l : List ℕ). l ++ total_line c) (line_by_line (switch_line c) (range 0 c.switches))

pub page_lines : (c : Sheet) → Shown c → PageLines c
page_lines c shown =
    let d = shown.digits in
    record {
      page = lines_in_lem c;
      line = λ x h.
          let f = right_aligned 6 x (omega arith) (omega (arith, shown.few)) in
          (right_in 6 (decimal x), f, line_of (right_in 6 (decimal x)) (at c.rules x) (at c.links x) (switch_line c x) f.wide (d.rules x h) (d.links x h) (switch_is c d shown.few x h));
      total_columns = line_of (116 ∷ 111 ∷ 116 ∷ 97 ∷ 108 ∷ 32 ∷ []) c.total c.quantity (total_line c) refl d.total d.quantity (total-is c d);
      lines = λ x h. switch_size c d shown.few x h;
      last_line = total_size c d;
    }

-- ---- what is written

module _ (s : List ℕ) (bytes : Bytes s) (p : Plant) (e : answer (reading s) ≡ given p) (spare : ℕ) (c : Sheet) (q : answer (quoting_for s spare) ≡ given c) where
  shown : Shown c
  shown = quoted_shown s spare c bytes q

  -- the counts are those of the plant, with the order quantity that is answered
  priced : (n : ℕ) × (answer (order_quantity (by_switch (table_of p)).total spare) ≡ given n) × (sheet_with p (by_switch (table_of p)) n ≡ c)
  unfolding quoting_for pricing
  priced = was_given (order_quantity (by_switch (table_of p)).total spare) (sheet_with p (by_switch (table_of p))) c (sym (goes_on (reading s) (λ r. pricing r spare) p e) ∙ q)

  counts_are : c ≡ sheet_with p (by_switch (table_of p)) priced.0
  counts_are = sym priced.2

  page_of : PageWritten s p spare c
  page_of =
      let ok = decode_sound s p bytes e in
      let t = totals p ok in
      let n : c.switches ≡ p.switches = ap (λ (d : Sheet). d.switches) counts_are in
      let k = page-size c shown.digits shown.few in
      let l : page_length c ≡ length (buying_page c) = sym k in
      let at_switch : (x : ℕ) → x < p.switches → at c.links x ≡ links_at p x = λ x h. ap (λ (d : Sheet). at d.links x) counts_are ∙ values-at (links_at p) 0 max_switches x (omega (arith, ok.few_switches)) in
      record {
        switches = n;
        rules = λ x h. ap (λ (d : Sheet). at d.rules x) counts_are ∙ t.each x h;
        links = at_switch;
        links_twice = sum_same p.switches (at c.links) (links_at p) at_switch ∙ links_twice p ok;
        total = ap (λ (d : Sheet). d.total) counts_are ∙ t.number;
        quantity = ap (λ (a : ℕ). answer (order_quantity a spare)) (sym t.number) ∙ priced.1 ∙ ap (λ (d : Sheet). given d.quantity) priced.2;
        shown = shown;
        size = omega (arith, k, n);
        written = λ b h. let m : page_length c ≤ length b = omega (arith, n) in
            (buying-given s spare b c q m ∙ ap given l, buying-left s spare b c q m ∙ ap (λ (j : ℕ). buying_page c ++ drop j b) l);
        read_back = read_of_written c shown;
      }

-- there are such counts for every spare that is not refused
module _ (s : List ℕ) (bytes : Bytes s) (p : Plant) (e : answer (reading s) ≡ given p) (spare : ℕ) (h : spare ≤ 100) where
  abbrev counts : Sheet
  counts = sheet_with p (by_switch (table_of p)) (with_spare (by_switch (table_of p)).total spare)

  priced_so : answer (order_quantity (by_switch (table_of p)).total spare) ≡ given (with_spare (by_switch (table_of p)).total spare)
  unfolding order_quantity spare_above
  priced_so = rw (le-ltb max_spare spare h) refl

  quoted : answer (quoting_for s spare) ≡ given counts
  unfolding quoting_for pricing
  quoted =
      goes_on (reading s) (λ r. pricing r spare) p e
      ∙ gives_so (order_quantity (by_switch (table_of p)).total spare) (sheet_with p (by_switch (table_of p))) (with_spare (by_switch (table_of p)).total spare) priced_so

  pub page_written : (c : Sheet) × PageWritten s p spare c
  page_written = (counts, page_of s bytes p e spare counts quoted)

module _ (b : List ℕ) where
  pub page_form : PageForm b
  page_form = record {
    counts_shown = accepted-shown b;
    written_back = written_of_read b;
    only_one = λ b' c g h. sym (written_of_read b c g) ∙ written_of_read b' c h;
  }
