-- Tables of cases: a row has what the definitions answer and what the papers say. One computed test over all rows of a table shows that the two are the same in each.
-- Assumes nothing.
use Rattle.std.specs.Prelude.{◌≡◌, refl, Bool, true, false, ◌&&◌, List, [], ◌∷◌, map, ℕ, ◌+◌, ◌*◌, eqb}
use Rattle.std.proofs.Common.{ap, ap₂, eqb-true}
use Rattle.std.proofs.lemmas.Bool.{false≢true}
use Rattle.std.proofs.Math.Bool.{and-eq-true_iff}
use Rattle.answers.specs.Answers.{Answer, given, refused}

-- a byte in its two hexadecimal digits, as the papers write it
abbrev pub byte : ℕ → ℕ → ℕ
byte high low = 16 * high + low

-- ---- the test

abbrev same_list : List ℕ → List ℕ → Bool
same_list [] [] = true
same_list [] (b ∷ bs) = false
same_list (a ∷ r) [] = false
same_list (a ∷ r) (b ∷ bs) = eqb a b && same_list r bs

abbrev same : Answer (List ℕ) → Answer (List ℕ) → Bool
same (given r) (given bs) = same_list r bs
same (given r) (refused n) = false
same (refused m) (given bs) = false
same (refused m) (refused n) = eqb m n

abbrev pub agree : {R : Type 0} → (R → Answer (List ℕ)) → (R → Answer (List ℕ)) → List R → Bool
agree got said [] = true
agree got said (r ∷ rs) = same (got r) (said r) && agree got said rs

-- ---- what passes it is the same

list_same : (r bs : List ℕ) → same_list r bs ≡ true → r ≡ bs
list_same [] [] e = refl
list_same [] (b ∷ bs) e = absurd (false≢true e)
list_same (a ∷ r) [] e = absurd (false≢true e)
list_same (a ∷ r) (b ∷ bs) e = let t = (and-eq-true_iff (eqb a b) (same_list r bs)).0 e in ap₂ {C = List ℕ} (λ x y. x ∷ y) (eqb-true a b t.0) (list_same r bs t.1)

answer-same : (a b : Answer (List ℕ)) → same a b ≡ true → a ≡ b
answer-same (given r) (given bs) e = ap given (list_same r bs e)
answer-same (given r) (refused n) e = absurd (false≢true e)
answer-same (refused m) (given bs) e = absurd (false≢true e)
answer-same (refused m) (refused n) e = ap refused (eqb-true m n e)

pub agreed : {R : Type 0} (got said : R → Answer (List ℕ)) (rs : List R) → agree got said rs ≡ true → map got rs ≡ map said rs
agreed got said [] e = refl
agreed got said (r ∷ rs) e =
    let t = (and-eq-true_iff (same (got r) (said r)) (agree got said rs)).0 e in
    ap₂ {C = List (Answer (List ℕ))} (λ x y. x ∷ y) (answer-same (got r) (said r) t.0) (agreed got said rs t.1)
