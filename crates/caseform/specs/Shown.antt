-- Parts of a line, in bytes. Assumes nothing.
use Rattle.std.specs.Prelude.{List, [], ◌∷◌, ◌++◌, ℕ, decimal}
use Rattle.answers.specs.declared.Refusal.{Refusal}
use Rattle.answers.specs.Answers.{number_of}

-- numbers, each after a space
abbrev pub spaced : List ℕ → List ℕ
spaced [] = []
spaced (n ∷ ns) = 32 ∷ decimal n ++ spaced ns

-- a list of so many numbers with this checksum, a colon between the two
abbrev pub sized : ℕ → ℕ → List ℕ
sized n h = decimal n ++ 58 ∷ decimal h

-- the word `refused`
abbrev pub refusal_word : List ℕ
refusal_word = 114 ∷ 101 ∷ 102 ∷ 117 ∷ 115 ∷ 101 ∷ 100 ∷ []

-- a refusal: that word, and its number
abbrev pub refused : Refusal → List ℕ
refused k = refusal_word ++ spaced (number_of k ∷ [])
