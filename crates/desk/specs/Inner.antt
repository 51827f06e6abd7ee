-- Inner: the parts of an outcome that is given to a console's search, as the code takes them. No promise of a call needs it. Assumes
-- nothing.
use Rattle.std.specs.Prelude.{ℕ}
use Rattle.answers.specs.Checks.{Checked, check}
use Rattle.search.specs.declared.Search.{Search}
use Rattle.search.specs.declared.Outcome.{Outcome}
use Rattle.search.specs.Search.{next}
use Rattle.judging.specs.Conditions.{wanted_checks}
use Rattle.desk.specs.declared.Console.{Console}
use Rattle.desk.specs.Console.{console_with, search_from, held_checks, held_after}

-- 14 and 15 of a search over e links, then its next state
unfoldable pub giving_to : ℕ → Search → Outcome → Checked Search
giving_to e q o = check (wanted_checks e q) (next q o)

-- of a console that has a search
unfoldable pub feeding : ℕ → ℕ → Outcome → ℕ → ℕ → Search → Checked Console
feeding s e o set x q = check (held_checks s e set (search_from x q)) (console_with set (held_after o (search_from x q)))
