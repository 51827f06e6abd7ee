-- A console of document 02's order 8: its set of switches and its search, and what each of the three calls of a console tries and does to
-- them, for a listing with s switches, where the component of the switch of the start, or of the search, has e links in service (order 9).
-- A call is given its own console's set and search and nothing else of the desk. Assumes nothing.
use Rattle.std.specs.Prelude.{Option, Some, None, Bool, true, not, [], ◌∷◌, ◌++◌, ℕ, ◌/◌, ◌%◌, ◌^◌, eqb, leb}
use Rattle.answers.specs.Checks.{Conditions, Checked, check}
use Rattle.search.specs.declared.Search.{Search}
use Rattle.search.specs.declared.Outcome.{Outcome}
use Rattle.search.specs.Search.{new_search, next}
use Rattle.judging.specs.Conditions.{wanted_checks}
use Rattle.desk.specs.declared.Held.{Held}
use Rattle.desk.specs.declared.Console.{Console}

-- ---- sets of switches

-- is switch x in the set? Bit x says so
abbrev pub has : ℕ → ℕ → Bool
has set x = eqb (set / 2 ^ x % 2) 1

-- 20: "a bit at or above S in the calling console's set". The set as a number is 2 ^ s at least
unfoldable pub set_out_of_range : ℕ → ℕ → Bool
set_out_of_range s set = leb (2 ^ s) set

-- 21: "the switch is outside the set"
abbrev pub outside_set : ℕ → ℕ → Bool
outside_set set x = not (has set x)

-- 11, the switch is not below S, and 21 "just after 11"
abbrev pub switch_checks : ℕ → ℕ → ℕ → Conditions
switch_checks s set x = (11, leb s x) ∷ (21, outside_set set x) ∷ []

-- 20 of a set, then those of a switch
abbrev pub start_checks : ℕ → ℕ → ℕ → Conditions
start_checks s set x = (20, set_out_of_range s set) ∷ switch_checks s set x

-- ---- the calls of a console

abbrev pub console_with : ℕ → Option Held → Console
console_with set held = record { set = set; search = held }

-- a search from switch x
abbrev pub search_from : ℕ → Search → Option Held
search_from x q = Some (record { switch = x; search = q })

-- a console of a fresh desk: "empty sets and no search"
abbrev pub idle : Console
idle = console_with 0 None

-- "a console replaces its set": 20 of the new set. The search stays, and is not judged
unfoldable pub replacing : ℕ → ℕ → Console → Checked Console
replacing s set c = check ((20, set_out_of_range s set) ∷ []) (console_with set c.search)

-- "starts a search, which replaces its own": 20 of its set, then 11 and 21. The search that it had is not judged
unfoldable pub starting : ℕ → ℕ → ℕ → Console → Checked Console
starting s e x c = check (start_checks s c.set x) (console_with c.set (search_from x (new_search e)))

-- the switch that a search is at; without a search it does not matter
abbrev pub held_at : Option Held → ℕ
held_at None = 0
held_at (Some h) = h.switch

-- what "gives a fate to it" tries of a console's search: with none, 15; else 11 and 21 of the search's own switch, then 14 and 15
abbrev pub held_checks : ℕ → ℕ → ℕ → Option Held → Conditions
held_checks s e set None = (15, true) ∷ []
held_checks s e set (Some h) = switch_checks s set h.switch ++ wanted_checks e h.search

-- and what it does to it
abbrev pub held_after : Outcome → Option Held → Option Held
held_after o None = None
held_after o (Some h) = search_from h.switch (next h.search o)

-- 20 of its set, then those of its search
unfoldable pub telling : ℕ → ℕ → Outcome → Console → Checked Console
telling s e o c =
    check ((20, set_out_of_range s c.set) ∷ held_checks s e c.set c.search) (console_with c.set (held_after o c.search))
