-- What the code leaves of the lent buffer. Contracts go by it, and no promise needs it. Assumes nothing.
use Rattle.std.specs.Prelude.{List, ℕ}
use Rattle.answers.specs.Checks.{answer, leaves}
use Rattle.plant.specs.declared.Plant.{Plant}
use Rattle.quoting.specs.Quotes.{page_in, pricing}

-- the page of the counts of a plant; at a refusal the buffer as it was
abbrev pub quoted_out : Plant → ℕ → List ℕ → List ℕ
quoted_out p spare b = leaves (λ c. page_in c b) b (answer (pricing p spare))
