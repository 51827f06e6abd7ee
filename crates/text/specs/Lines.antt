-- The bytes that the program `rules` prints (document 01, "Edges and marked cases"): lines of a word and numbers. Assumes nothing.
use Rattle.std.specs.Prelude.{List, [], ◌∷◌, ◌++◌, ℕ}
use Rattle.text.specs.Ascii.{ascii}
use Rattle.text.specs.Decimal.{decimal}

abbrev pub space : ℕ
space = 32

abbrev pub newline : ℕ
newline = 10

-- ---- the words

abbrev pub plant_word : List ℕ
plant_word = ascii "plant"

abbrev pub rule_word : List ℕ
rule_word = ascii "rule"

abbrev pub trail_word : List ℕ
trail_word = ascii "trail"

abbrev pub refused_word : List ℕ
refused_word = ascii "refused"

-- ---- lines

-- the bytes of each, one after the other
abbrev pub each : {A : Type 0} → (A → List ℕ) → List A → List ℕ
each f [] = []
each f (x ∷ xs) = f x ++ each f xs

-- a number after a space
abbrev pub spaced : ℕ → List ℕ
spaced n = space ∷ decimal n

-- numbers, each after a space
abbrev pub spaced_all : List ℕ → List ℕ
spaced_all ns = each spaced ns

-- a word, numbers and the line's end; the bare word where there is no number
unfoldable pub line : List ℕ → List ℕ → List ℕ
line word ns = word ++ (spaced_all ns ++ (newline ∷ []))

-- the first line: switches, links, bridges, rules, hops
abbrev pub summary_line : ℕ → ℕ → ℕ → ℕ → ℕ → List ℕ
summary_line switches links bridges rules hops = line plant_word (switches ∷ links ∷ bridges ∷ rules ∷ hops ∷ [])

-- a rule: sending switch, label, receiving switch
abbrev pub rule_line : ℕ → ℕ → ℕ → List ℕ
rule_line from label to = line rule_word (from ∷ label ∷ to ∷ [])

-- one line for each rule
abbrev pub rule_lines : List (ℕ × ℕ × ℕ) → List ℕ
rule_lines rs = each (λ r. rule_line r.0 r.1 r.2) rs

-- the labels of the trail
abbrev pub trail_line : List ℕ → List ℕ
trail_line labels = line trail_word labels

-- ---- the whole output

-- one line for each trail
abbrev pub trail_lines : List (List ℕ) → List ℕ
trail_lines ws = each trail_line ws

-- of a plant: the first line, the rules, the trails
unfoldable pub page_of : ℕ → ℕ → ℕ → ℕ → ℕ → List (ℕ × ℕ × ℕ) → List (List ℕ) → List ℕ
page_of switches links bridges rules hops page trails =
    summary_line switches links bridges rules hops ++ (rule_lines page ++ trail_lines trails)

-- of a refusal: its number
abbrev pub refusal_of : ℕ → List ℕ
refusal_of n = line refused_word (n ∷ [])
