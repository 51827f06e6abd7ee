-- The starred cases of document 01 on the order quantity: each row has what the definition answers, and what document 01 says. Assumes nothing.
use Rattle.std.specs.Prelude.{◌≡◌, refl, List, [], ◌∷◌, map, ℕ}
use Rattle.answers.specs.Answers.{Answer, given, refused, ◌>>=◌}
use Rattle.answers.specs.Checks.{answer}
use Rattle.quantity.specs.Quantity.{spare_above, order_quantity}

abbrev pub asked : ℕ → ℕ → Answer (List ℕ)
asked a p = answer (order_quantity a p) >>= λ n. given (n ∷ [])

abbrev pub rows : List (Answer (List ℕ) × Answer (List ℕ))
rows = (asked 5 10, given (6 ∷ [])) ∷ (asked 5 0, given (5 ∷ [])) ∷ (asked 5 101, refused 17) ∷ []

-- one test over the rows
right : map (λ r. r.0) rows ≡ map (λ r. r.1) rows
unfolding order_quantity spare_above
right = refl
