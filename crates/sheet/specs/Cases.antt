-- A small buying page, written and read, and pages that are damaged: each row has what the definitions give, and the text or the refusal. Assumes nothing.
use Rattle.std.specs.Prelude.{◌≡◌, refl, List, [], ◌∷◌, ◌++◌, map, ℕ, take}
use Rattle.lists.specs.Numbers.{every}
use Rattle.lists.specs.Padded.{padded}
use Rattle.lists.specs.Sum.{sum}
use Rattle.answers.specs.Answers.{Answer, given, refused, ◌>>=◌}
use Rattle.answers.specs.Checks.{answer}
use Rattle.limits.specs.Limits.{max_switches}
use Rattle.text.specs.Ascii.{ascii}
use Rattle.text.specs.Decimal.{digits, decimal, is_decimal}
use Rattle.columns.specs.Fields.{spaces_before, is_short, is_number, number_in}
use Rattle.sheet.specs.Page.{line_of, buying_page}
use Rattle.sheet.specs.Form.{numbers_held, spaces_else, of_switch, of_total, column_of, whole_lines, plain_lines, rising, total_last, rules_add_up, formed, counts_in, reading_page}
use Rattle.sheet.specs.declared.Sheet.{Sheet}

-- ---- written

-- two switches joined by one link, with a spare of 10 percent
abbrev two_switches : Sheet
two_switches = record { switches = 2; rules = padded max_switches 0 (1 ∷ 1 ∷ []); links = padded max_switches 0 (1 ∷ 1 ∷ []); total = 2; quantity = 3 }

-- one switch and no link
abbrev one_switch : Sheet
one_switch = record { switches = 1; rules = padded max_switches 0 []; links = padded max_switches 0 []; total = 0; quantity = 0 }

abbrev pub pages : List (List ℕ × List ℕ)
pages =
    (buying_page two_switches, ascii "     0       1       1         \n     1       1       1         \ntotal        2       3         \n")
    ∷ (buying_page one_switch, ascii "     0       0       0         \ntotal        0       0         \n")
    ∷ []

as_written : map (λ r. r.0) pages ≡ map (λ r. r.1) pages
unfolding digits decimal line_of buying_page
as_written = refl

-- ---- read: switches, total and quantity, then the rules and the links of the switches

abbrev reads : List ℕ → Answer (List ℕ)
reads b = answer (reading_page b) >>= λ c. given (c.switches ∷ c.total ∷ c.quantity ∷ (take c.switches c.rules ++ take c.switches c.links))

abbrev pub readings : List (Answer (List ℕ) × Answer (List ℕ))
readings =
    (reads (ascii "     0       1       1         \n     1       1       1         \ntotal        2       3         \n"), given (2 ∷ 2 ∷ 3 ∷ 1 ∷ 1 ∷ 1 ∷ 1 ∷ []))
    -- the reader knows no spare, and no link by its ends
    ∷ (reads (ascii "     0      17     999         \ntotal       17       0         \n"), given (1 ∷ 17 ∷ 0 ∷ 17 ∷ 999 ∷ []))
    -- no line, one line, a byte too few
    ∷ (reads [], refused 18)
    ∷ (reads (ascii "total        0       0         \n"), refused 18)
    ∷ (reads (ascii "     0       0       0         \ntotal        0       0         "), refused 18)
    -- a leading zero, a number at the left, none, one of four digits
    ∷ (reads (ascii "     0      01       1         \ntotal        1       1         \n"), refused 18)
    ∷ (reads (ascii "     0      00       1         \ntotal        0       1         \n"), refused 18)
    ∷ (reads (ascii "     0 1             1         \ntotal        1       1         \n"), refused 18)
    ∷ (reads (ascii "     0               1         \ntotal        0       1         \n"), refused 18)
    ∷ (reads (ascii "     0    1000       1         \ntotal     1000       1         \n"), refused 18)
    -- rules that do not add up, a switch left out, switches from 1
    ∷ (reads (ascii "     0       1       1         \n     1       1       1         \ntotal        3       3         \n"), refused 18)
    ∷ (reads (ascii "     0       1       1         \n     2       1       1         \ntotal        2       3         \n"), refused 18)
    ∷ (reads (ascii "     1       1       1         \ntotal        1       1         \n"), refused 18)
    -- `total` at the right, something past the fields, a line without its end
    ∷ (reads (ascii "     0       0       0         \n total       0       0         \n"), refused 18)
    ∷ (reads (ascii "     0       0       0        .\ntotal        0       0         \n"), refused 18)
    ∷ (reads (ascii "     0       0       0          total        0       0         \n"), refused 18)
    ∷ []

as_read : map (λ r. r.0) readings ≡ map (λ r. r.1) readings
unfolding sum every is_decimal spaces_before is_short is_number number_in numbers_held spaces_else of_switch of_total column_of whole_lines plain_lines rising total_last rules_add_up formed counts_in reading_page
as_read = refl
