-- Cases of a console's calls, mostly for the three switches and three links of document 01's triangle: each row has what the definitions answer, and what order 8 says. Every
-- refusal from 11 on that a console tries occurs, and where two conditions hold, the one that is tried first is answered. Assumes nothing.
use Rattle.std.specs.Prelude.{Option, Some, None, ◌≡◌, refl, List, [], ◌∷◌, map, ℕ, ◌-◌, ◌^◌}
use Rattle.answers.specs.Answers.{Answer, given, refused, ◌>>=◌}
use Rattle.answers.specs.Checks.{Checked, answer}
use Rattle.answers.specs.Tables.{agreed}
use Rattle.limits.specs.Limits.{max_switches}
use Rattle.search.specs.declared.Search.{Search}
use Rattle.search.specs.declared.Search.TheVariants.{Checking, Halving, AllUp, Down}
use Rattle.search.specs.declared.Outcome.TheVariants.{Returned, Lost}
use Rattle.search.specs.Search.{new_search}
use Rattle.search.specs.Values.{values_of}
use Rattle.judging.specs.Conditions.{search_unsound}
use Rattle.desk.specs.declared.Held.{Held}
use Rattle.desk.specs.declared.Console.{Console}
use Rattle.desk.specs.Console.{set_out_of_range, console_with, search_from, replacing, starting, telling}

-- a search as numbers: its kind, 0 Checking, 1 Halving, 2 All up, 3 Down, and then its own
abbrev numbers : Search → List ℕ
numbers q = (values_of q).0 ∷ (values_of q).1

-- with its switch before it, or nothing
abbrev held : Option Held → List ℕ
held None = []
held (Some h) = h.switch ∷ numbers h.search

-- a console as numbers: its set, and then its search
abbrev pub console : Console → List ℕ
console c = c.set ∷ held c.search

abbrev comes : Checked Console → Answer (List ℕ)
comes c = answer c >>= λ d. given (console d)

abbrev pub rows : List (Answer (List ℕ) × Answer (List ℕ))
rows =
    -- a new set: 20 of the new one alone, and the search stays as it is, whatever it is
    (comes (replacing 3 7 (console_with 0 None)), given (7 ∷ []))
    ∷ (comes (replacing 3 8 (console_with 7 None)), refused 20)
    ∷ (comes (replacing 3 9 (console_with 7 None)), refused 20)
    ∷ (comes (replacing 3 5 (console_with 255 None)), given (5 ∷ []))
    ∷ (comes (replacing 3 6 (console_with 7 (search_from 0 (Checking 3 1)))), given (6 ∷ 0 ∷ 0 ∷ 3 ∷ 1 ∷ []))
    ∷ (comes (replacing 3 0 (console_with 7 (search_from 200 (Halving 9 2 7)))), given (0 ∷ 200 ∷ 1 ∷ 9 ∷ 2 ∷ 7 ∷ []))
    -- with as many switches as a plant can have no bit is out of range, with one fewer the last is
    ∷ (comes (replacing max_switches (2 ^ max_switches - 1) (console_with 0 None)), given ((2 ^ max_switches - 1) ∷ []))
    ∷ (comes (replacing (max_switches - 1) (2 ^ (max_switches - 1)) (console_with 0 None)), refused 20)
    ∷ (comes (replacing (max_switches - 1) (2 ^ (max_switches - 1) - 1) (console_with 0 None)), given ((2 ^ (max_switches - 1) - 1) ∷ []))
    -- a start: 20 of its own set, then 11, then 21; the search that it had is not judged
    ∷ (comes (starting 3 3 0 (console_with 7 None)), given (7 ∷ 0 ∷ 0 ∷ 3 ∷ 0 ∷ []))
    ∷ (comes (starting 3 3 2 (console_with 4 (search_from 1 (Checking 9 9)))), given (4 ∷ 2 ∷ 0 ∷ 3 ∷ 0 ∷ []))
    ∷ (comes (starting 1 0 0 (console_with 1 None)), given (1 ∷ 0 ∷ 2 ∷ []))
    ∷ (comes (starting 3 3 1 (console_with 5 None)), refused 21)
    ∷ (comes (starting 3 3 3 (console_with 7 None)), refused 11)
    ∷ (comes (starting 3 3 200 (console_with 0 None)), refused 11)
    ∷ (comes (starting 3 3 3 (console_with 15 None)), refused 20)
    ∷ (comes (starting 3 3 1 (console_with 13 None)), refused 20)
    ∷ (comes (starting max_switches 3 (max_switches - 1) (console_with (2 ^ (max_switches - 1)) None)), given (2 ^ (max_switches - 1) ∷ (max_switches - 1) ∷ 0 ∷ 3 ∷ 0 ∷ []))
    -- an outcome moves the search as its own call does
    ∷ (comes (telling 3 3 Returned (console_with 7 (search_from 1 (Checking 3 2)))), given (7 ∷ 1 ∷ 2 ∷ []))
    ∷ (comes (telling 3 3 Lost (console_with 7 (search_from 1 (Checking 3 0)))), given (7 ∷ 1 ∷ 0 ∷ 3 ∷ 1 ∷ []))
    ∷ (comes (telling 3 3 Lost (console_with 7 (search_from 1 (Checking 3 2)))), given (7 ∷ 1 ∷ 1 ∷ 1 ∷ 3 ∷ 0 ∷ []))
    ∷ (comes (telling 3 3 Returned (console_with 7 (search_from 1 (Halving 1 3 0)))), given (7 ∷ 1 ∷ 3 ∷ 3 ∷ []))
    -- 20 of its own set; then 15 where it has no search, and else 11 and 21 of the search's switch, 14 and 15
    ∷ (comes (telling 3 3 Lost (console_with 8 None)), refused 20)
    ∷ (comes (telling 3 3 Lost (console_with 7 None)), refused 15)
    ∷ (comes (telling 3 3 Lost (console_with 8 (search_from 0 AllUp))), refused 20)
    ∷ (comes (telling 2 1 Lost (console_with 3 (search_from 2 (Checking 3 0)))), refused 11)
    ∷ (comes (telling 3 3 Lost (console_with 6 (search_from 0 (Checking 3 0)))), refused 21)
    ∷ (comes (telling 3 3 Lost (console_with 6 (search_from 0 (Checking 4 0)))), refused 21)
    ∷ (comes (telling 3 3 Lost (console_with 7 (search_from 0 (Checking 4 0)))), refused 14)
    ∷ (comes (telling 3 3 Lost (console_with 7 (search_from 0 (Checking 3 3)))), refused 14)
    ∷ (comes (telling 3 2 Lost (console_with 7 (search_from 0 (Checking 3 0)))), refused 14)
    ∷ (comes (telling 3 3 Lost (console_with 7 (search_from 0 (Down 4)))), refused 14)
    ∷ (comes (telling 3 3 Lost (console_with 7 (search_from 0 (Down 2)))), refused 15)
    ∷ (comes (telling 3 3 Returned (console_with 7 (search_from 0 AllUp))), refused 15)
    ∷ []

as_said : map (λ r. r.0) rows ≡ map (λ r. r.1) rows
unfolding replacing starting telling set_out_of_range new_search search_unsound
as_said = agreed (λ r. r.0) (λ r. r.1) rows refl
