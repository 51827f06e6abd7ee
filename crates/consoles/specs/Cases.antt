-- Cases of the calls on a desk, with the triangle of document 01, that of document 02's order 7, whose last link is out of service, plants in several components (order 9), and
-- listings that are refused; and of lists of calls of several consoles. Each row has what the definitions answer, and what orders 8 and 9 say. One computed test over all rows.
-- Assumes nothing.
use Rattle.std.specs.Prelude.{None, ◌≡◌, refl, List, [], ◌∷◌, map, ◌++◌, ℕ, length}
use Rattle.lists.specs.Count.{count}
use Rattle.lists.specs.Least.{least_from}
use Rattle.lists.specs.Numbers.{every}
use Rattle.plant.specs.Links.{plant_with, live}
use Rattle.answers.specs.Answers.{Answer, given, refused, ◌>>=◌}
use Rattle.answers.specs.Checks.{answer}
use Rattle.answers.specs.Tables.{agreed}
use Rattle.walks.specs.Visit.{scan, visit}
use Rattle.walks.specs.Arcs.{opposite, tail, head}
use Rattle.walks.specs.Graph.{arcs, visit_from, links_from}
use Rattle.walks.specs.Components.{root_of, links_with}
use Rattle.codec.specs.Part.{taken, value_of, redundant, map_missing, map_undefined, field_missing, field_redundant, field_values, after_part, part}
use Rattle.listing.specs.Listing as listing
use Rattle.search.specs.declared.Search.TheVariants.{Checking, Halving, AllUp, Down}
use Rattle.search.specs.declared.Outcome.TheVariants.{Returned, Lost}
use Rattle.search.specs.Search.{new_search}
use Rattle.search.specs.Calls.{Call, asks, gives}
use Rattle.search.specs.Values.{outcome_number}
use Rattle.judging.specs.Conditions.{search_unsound}
use Rattle.desk.specs.declared.Console.{Console}
use Rattle.desk.specs.Console.{set_out_of_range, console_with, search_from, replacing, starting, telling}
use Rattle.desk.specs.Desk.{fresh_desk, console_of, with_console}
use Rattle.desk.specs.Cases.{console}
use Rattle.consoles.specs.Calls.{console_out_of_range, sizing, Request, new_set, start, outcome, calling, served}
use Rattle.consoles.specs.Lists.{DeskCall, after_all, answers_of, Fed, unknown, since, fed_in}

-- the triangle, and that with its last link out of service
abbrev triangle : List ℕ
triangle = 3 ∷ 3 ∷ 3 ∷ 0 ∷ 2 ∷ 1 ∷ 3 ∷ 1 ∷ 2 ∷ 3 ∷ 2 ∷ 0 ∷ []

abbrev open_triangle : List ℕ
open_triangle = 3 ∷ 3 ∷ 3 ∷ 0 ∷ 2 ∷ 1 ∷ 3 ∷ 1 ∷ 2 ∷ 11 ∷ 2 ∷ 0 ∷ []

-- two switches and no link
abbrev apart : List ℕ
apart = 1 ∷ 2 ∷ []

-- seven switches and five links. The start, 5, and 4 have one link; 0, 2 and 3 have three; between 1 and 6 there is one that is out of service
abbrev yards : List ℕ
yards = 7 ∷ 7 ∷ 5 ∷ 0 ∷ 5 ∷ 3 ∷ 4 ∷ 5 ∷ 3 ∷ 0 ∷ 2 ∷ 3 ∷ 2 ∷ 3 ∷ 3 ∷ 3 ∷ 0 ∷ 11 ∷ 1 ∷ 6 ∷ []

-- ---- one call of a console with this set and search

abbrev calls : ℕ → List ℕ → Request → Console → Answer (List ℕ)
calls k s r c = answer (calling k s r c) >>= λ d. given (console d)

-- ---- a list of calls on a fresh desk

abbrev call : ℕ → Request → DeskCall
call k r = record { console = k; listing = triangle; request = r }

-- consoles 0 and 2 take turns; console 0 ends its search, and its third call is refused; console 2 replaces its set under its search; console 4 is none
abbrev turns : List DeskCall
turns =
    call 0 (new_set 7)
    ∷ call 2 (new_set 3)
    ∷ call 0 (start 0)
    ∷ call 4 (start 0)
    ∷ call 2 (start 1)
    ∷ call 2 (outcome Lost)
    ∷ call 0 (start 3)
    ∷ call 0 (outcome Returned)
    ∷ call 2 (new_set 5)
    ∷ call 2 (outcome Lost)
    ∷ []

abbrev answers : ℕ → Answer (List ℕ)
answers k = given (flat (answers_of k fresh_desk turns))
  where
    flat : List (Answer Console) → List ℕ
    flat [] = []
    flat (given c ∷ l) = console c ++ flat l
    flat (refused n ∷ l) = n ∷ flat l

abbrev stands : ℕ → Answer (List ℕ)
stands k = given (console (console_of (after_all fresh_desk turns) k))

-- the calls that start and feed a console's search, as numbers: the length of the listing, the switch, and 0 or 1 for each outcome
abbrev fed : ℕ → Answer (List ℕ)
fed k = given (numbers (fed_in k fresh_desk turns))
  where
    outcomes : List Call → List ℕ
    outcomes [] = []
    outcomes (asks ∷ l) = outcomes l
    outcomes (gives o ∷ l) = outcome_number o ∷ outcomes l

    numbers : Fed → List ℕ
    numbers unknown = []
    numbers (since s x os) = length s ∷ x ∷ outcomes os

abbrev pub rows : List (Answer (List ℕ) × Answer (List ℕ))
rows =
    -- 19, before every refusal of the listing
    (calls 4 triangle (new_set 0) (console_with 0 None), refused 19)
    ∷ (calls 4 [] (new_set 0) (console_with 0 None), refused 19)
    ∷ (calls 255 (8 ∷ []) (start 0) (console_with 0 None), refused 19)
    ∷ (calls 4 apart (outcome Lost) (console_with 0 None), refused 19)
    -- those of the listing, before 20 and the others
    ∷ (calls 3 [] (new_set 255) (console_with 0 None), refused 1)
    ∷ (calls 3 (8 ∷ []) (start 9) (console_with 0 None), refused 2)
    ∷ (calls 3 (1 ∷ 2 ∷ 0 ∷ []) (outcome Lost) (console_with 255 None), refused 8)
    -- with a plant in one component a call goes by its switches and its links in service
    ∷ (calls 3 triangle (new_set 7) (console_with 255 None), given (7 ∷ []))
    ∷ (calls 0 triangle (new_set 8) (console_with 7 None), refused 20)
    ∷ (calls 1 triangle (start 2) (console_with 4 None), given (4 ∷ 2 ∷ 0 ∷ 3 ∷ 0 ∷ []))
    ∷ (calls 1 open_triangle (start 2) (console_with 4 None), given (4 ∷ 2 ∷ 0 ∷ 2 ∷ 0 ∷ []))
    ∷ (calls 2 triangle (outcome Lost) (console_with 4 (search_from 2 (Checking 3 0))), given (4 ∷ 2 ∷ 0 ∷ 3 ∷ 1 ∷ []))
    ∷ (calls 2 open_triangle (outcome Lost) (console_with 4 (search_from 2 (Checking 3 0))), refused 14)
    -- several components are not refused: no call tries 9
    ∷ (calls 3 apart (outcome Lost) (console_with 255 None), refused 20)
    ∷ (calls 3 apart (new_set 3) (console_with 255 None), given (3 ∷ []))
    ∷ (calls 3 apart (start 1) (console_with 3 None), given (3 ∷ 1 ∷ 2 ∷ []))
    -- a start goes by the links in service of its switch's component, whatever search it replaces
    ∷ (calls 0 yards (start 5) (console_with 127 None), given (127 ∷ 5 ∷ 0 ∷ 1 ∷ 0 ∷ []))
    ∷ (calls 1 yards (start 4) (console_with 127 (search_from 2 (Checking 3 1))), given (127 ∷ 4 ∷ 0 ∷ 1 ∷ 0 ∷ []))
    ∷ (calls 2 yards (start 2) (console_with 127 (search_from 4 (Checking 1 1))), given (127 ∷ 2 ∷ 0 ∷ 3 ∷ 0 ∷ []))
    ∷ (calls 3 yards (start 0) (console_with 127 None), given (127 ∷ 0 ∷ 0 ∷ 3 ∷ 0 ∷ []))
    ∷ (calls 0 yards (start 1) (console_with 127 None), given (127 ∷ 1 ∷ 2 ∷ []))
    ∷ (calls 0 yards (start 6) (console_with 127 (search_from 2 (Checking 3 0))), given (127 ∷ 6 ∷ 2 ∷ []))
    -- and an outcome by those of its search's: the E of another component, of the whole plant or of the listing is 14
    ∷ (calls 0 yards (outcome Lost) (console_with 127 (search_from 4 (Checking 1 0))), given (127 ∷ 4 ∷ 0 ∷ 1 ∷ 1 ∷ []))
    ∷ (calls 0 yards (outcome Returned) (console_with 127 (search_from 5 (Checking 1 2))), given (127 ∷ 5 ∷ 2 ∷ []))
    ∷ (calls 0 yards (outcome Lost) (console_with 127 (search_from 4 (Checking 1 2))), given (127 ∷ 4 ∷ 3 ∷ 1 ∷ []))
    ∷ (calls 0 yards (outcome Lost) (console_with 127 (search_from 2 (Checking 3 2))), given (127 ∷ 2 ∷ 1 ∷ 1 ∷ 3 ∷ 0 ∷ []))
    ∷ (calls 0 yards (outcome Lost) (console_with 127 (search_from 4 (Checking 3 0))), refused 14)
    ∷ (calls 0 yards (outcome Lost) (console_with 127 (search_from 2 (Checking 1 0))), refused 14)
    ∷ (calls 0 yards (outcome Lost) (console_with 127 (search_from 2 (Checking 4 0))), refused 14)
    ∷ (calls 0 yards (outcome Lost) (console_with 127 (search_from 2 (Checking 5 0))), refused 14)
    ∷ (calls 0 yards (outcome Lost) (console_with 127 (search_from 4 (Checking 4 0))), refused 14)
    ∷ (calls 0 yards (outcome Lost) (console_with 127 (search_from 5 (Halving 1 3 0))), refused 14)
    ∷ (calls 0 yards (outcome Lost) (console_with 127 (search_from 2 (Down 4))), refused 14)
    ∷ (calls 0 yards (outcome Lost) (console_with 127 (search_from 2 (Down 3))), refused 15)
    -- at a switch without links in service every search that has a link is 14
    ∷ (calls 0 yards (outcome Lost) (console_with 127 (search_from 6 (Checking 1 0))), refused 14)
    ∷ (calls 0 yards (outcome Lost) (console_with 127 (search_from 1 (Down 1))), refused 14)
    ∷ (calls 0 yards (outcome Lost) (console_with 127 (search_from 6 AllUp)), refused 15)
    -- a set may lie across components; a new one judges no search, and the range goes by the switches of all
    ∷ (calls 0 yards (new_set 22) (console_with 127 (search_from 2 (Checking 1 0))), given (22 ∷ 2 ∷ 0 ∷ 1 ∷ 0 ∷ []))
    ∷ (calls 0 yards (new_set 128) (console_with 22 None), refused 20)
    ∷ (calls 0 yards (start 2) (console_with 22 None), given (22 ∷ 2 ∷ 0 ∷ 3 ∷ 0 ∷ []))
    ∷ (calls 0 yards (start 4) (console_with 22 None), given (22 ∷ 4 ∷ 0 ∷ 1 ∷ 0 ∷ []))
    ∷ (calls 0 yards (start 1) (console_with 22 None), given (22 ∷ 1 ∷ 2 ∷ []))
    ∷ (calls 0 yards (start 5) (console_with 22 None), refused 21)
    ∷ (calls 0 yards (start 7) (console_with 22 None), refused 11)
    ∷ (calls 0 yards (outcome Lost) (console_with 22 None), refused 15)
    ∷ (calls 0 yards (outcome Lost) (console_with 22 (search_from 5 (Checking 3 0))), refused 21)
    ∷ (calls 0 yards (outcome Lost) (console_with 22 (search_from 7 (Checking 3 0))), refused 11)
    -- a list of calls: what those of a console answer, each as it then stands, and what it has at the end; a console that makes no call has what it had
    ∷ (answers 0, given (7 ∷ 7 ∷ 0 ∷ 0 ∷ 3 ∷ 0 ∷ 11 ∷ 7 ∷ 0 ∷ 2 ∷ []))
    ∷ (answers 2, given (3 ∷ 3 ∷ 1 ∷ 0 ∷ 3 ∷ 0 ∷ 3 ∷ 1 ∷ 0 ∷ 3 ∷ 1 ∷ 5 ∷ 1 ∷ 0 ∷ 3 ∷ 1 ∷ 21 ∷ []))
    ∷ (answers 4, given (19 ∷ []))
    ∷ (stands 0, given (7 ∷ 0 ∷ 2 ∷ []))
    ∷ (stands 1, given (0 ∷ []))
    ∷ (stands 2, given (5 ∷ 1 ∷ 0 ∷ 3 ∷ 1 ∷ []))
    ∷ (stands 3, given (0 ∷ []))
    -- of these, what started and fed a console's search: not refused calls, calls of others or new sets; without a start, nothing
    ∷ (fed 0, given (12 ∷ 0 ∷ 1 ∷ []))
    ∷ (fed 1, given [])
    ∷ (fed 2, given (12 ∷ 1 ∷ 0 ∷ []))
    ∷ (fed 4, given [])
    ∷ []

as_said : map (λ r. r.0) rows ≡ map (λ r. r.1) rows
unfolding console_out_of_range sizing calling served fresh_desk console_of with_console replacing starting telling set_out_of_range new_search search_unsound plant_with taken value_of redundant map_missing map_undefined field_missing field_redundant field_values after_part part listing.value_out_of_range listing.end_out_of_range listing.self_link listing.bytes_remain listing.sound_link listing.header listing.link listing.links listing.with_links listing.linked listing.ended listing.reading arcs visit_from links_from root_of links_with least_from opposite tail head scan visit live count every
as_said = agreed (λ r. r.0) (λ r. r.1) rows refl
