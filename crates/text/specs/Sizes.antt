-- The most bytes that a line takes, by its letters, its numbers and their digits. Assumes nothing.
use Rattle.std.specs.Prelude.{ℕ, ◌+◌, ◌*◌}

-- the most digits of a number below 1000, and of a number of 16 bits
abbrev pub digits_short : ℕ
digits_short = 3

abbrev pub digits16 : ℕ
digits16 = 5

-- so many numbers of so many digits, each after a space
abbrev pub spaced_most : ℕ → ℕ → ℕ
spaced_most numbers digits = numbers * (1 + digits)

-- a line: a word of so many letters, the numbers and the line's end
abbrev pub line_most : ℕ → ℕ → ℕ → ℕ
line_most letters numbers digits = letters + spaced_most numbers digits + 1

-- ---- the lines of the output: the first line with numbers of 16 bits, the others with numbers below 1000

abbrev pub summary_most : ℕ
summary_most = line_most 5 5 digits16

abbrev pub rule_most : ℕ
rule_most = line_most 4 3 digits_short

-- so many trail lines, with so many labels in all
abbrev pub trails_most : ℕ → ℕ → ℕ
trails_most lines labels = lines * line_most 5 0 digits_short + spaced_most labels digits_short

abbrev pub refusal_most : ℕ
refusal_most = line_most 7 1 digits_short
