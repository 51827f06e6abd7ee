-- The output of document 01's example, of the triangle of document 02's order 7, of a plant with no links, of two plants in several components (order 9) and of a refusal: each
-- row has the bytes that the definitions give, and the text. Assumes nothing.
use Rattle.std.specs.Prelude.{◌≡◌, refl, List, [], ◌∷◌, map, ℕ}
use Rattle.text.specs.Ascii.{ascii}
use Rattle.text.specs.Decimal.{digits, decimal}
use Rattle.text.specs.Lines.{line, page_of, refusal_of}

abbrev pub rows : List (List ℕ × List ℕ)
rows =
    (page_of 4 4 1 5 5 ((0, 0, 1) ∷ (1, 2, 2) ∷ (2, 4, 0) ∷ (0, 6, 3) ∷ (3, 7, 0) ∷ []) ((0 ∷ 2 ∷ 4 ∷ 6 ∷ 7 ∷ []) ∷ []), ascii "plant 4 4 1 5 5\nrule 0 0 1\nrule 1 2 2\nrule 2 4 0\nrule 0 6 3\nrule 3 7 0\ntrail 0 2 4 6 7\n")
    ∷ (page_of 3 2 2 4 6 ((0, 0, 1) ∷ (1, 1, 0) ∷ (1, 2, 2) ∷ (2, 3, 1) ∷ []) ((0 ∷ 1 ∷ 0 ∷ 2 ∷ 3 ∷ 1 ∷ []) ∷ []), ascii "plant 3 2 2 4 6\nrule 0 0 1\nrule 1 1 0\nrule 1 2 2\nrule 2 3 1\ntrail 0 1 0 2 3 1\n")
    ∷ (page_of 1 0 0 0 0 [] ([] ∷ []), ascii "plant 1 0 0 0 0\ntrail\n")
    ∷ (page_of 3 1 1 2 2 ((0, 0, 1) ∷ (1, 1, 0) ∷ []) ([] ∷ (0 ∷ 1 ∷ []) ∷ []), ascii "plant 3 1 1 2 2\nrule 0 0 1\nrule 1 1 0\ntrail\ntrail 0 1\n")
    ∷ (page_of 2 0 0 0 0 [] ([] ∷ [] ∷ []), ascii "plant 2 0 0 0 0\ntrail\ntrail\n")
    ∷ (refusal_of 1, ascii "refused 1\n")
    ∷ (refusal_of 16, ascii "refused 16\n")
    ∷ (decimal 10050, ascii "10050")
    ∷ []

-- one test over the rows
right : map (λ r. r.0) rows ≡ map (λ r. r.1) rows
unfolding digits decimal line page_of
right = refl
