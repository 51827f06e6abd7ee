-- The bytes that the program `buying` prints on standard output, by its argument and the listing (document 02, order 3).
use Rattle.std.specs.Prelude.{List, ℕ}
use Rattle.answers.specs.Answers.{Answer, given, refused}
use Rattle.answers.specs.Checks.{answer}
use Rattle.text.specs.Decimal.{read_decimal}
use Rattle.text.specs.Lines.{refusal_of}
use Rattle.sheet.specs.declared.Sheet.{Sheet}
use Rattle.sheet.specs.Page.{buying_page}
use Rattle.planner.specs.Calls.{quoting_for}

-- the page of the counts, or the line of a refusal
abbrev pub output_of : Answer Sheet → List ℕ
output_of (given s) = buying_page s
output_of (refused n) = refusal_of n

-- for a spare in percent
abbrev pub bought : ℕ → List ℕ → List ℕ
bought spare s = output_of (answer (quoting_for s spare))

-- for an argument that is a number of one to three digits
abbrev pub printed : List ℕ → List ℕ → List ℕ
printed argument s = bought (read_decimal argument) s
