-- The search of document 01, with the sendings lost of document 02's order 4: its states, what each says and the probe that it wants, what
-- an outcome does, refusals 14 and 15, and the calls. Assumes nothing.
use Rattle.std.specs.Prelude.{Bool, true, false, not, ◌&&◌, [], ◌∷◌, ℕ, ◌+◌, ◌/◌, eqb, leb, ltb}
use Rattle.lists.specs.Tests.{choose}
use Rattle.answers.specs.Checks.{Conditions, Checked, check}
use Rattle.limits.specs.Limits.{max_links}
use Rattle.search.specs.declared.Search.{Search}
use Rattle.search.specs.declared.Search.TheVariants.{Checking, Halving, AllUp, Down}
use Rattle.search.specs.declared.Said.{Said}
use Rattle.search.specs.declared.Said.TheVariants as said
use Rattle.search.specs.declared.Outcome.{Outcome}
use Rattle.search.specs.declared.Outcome.TheVariants.{Returned, Lost}

-- ---- the state

-- "a probe now counts as lost when three sendings in a row were lost": how often a probe is sent at most
abbrev pub tries : ℕ
tries = 3

-- a new search over e links: no sending is lost
unfoldable pub new_search : ℕ → Search
new_search e = choose (eqb e 0) AllUp (Checking e 0)

-- can it be a number of links, or a place in their order?
abbrev pub counts : ℕ → Bool
counts n = ltb 0 n && leb n max_links

-- can they be the places that are left to halve?
abbrev pub halves : ℕ → ℕ → Bool
halves low high = ltb 0 low && (ltb low high && leb high max_links)

-- "the sendings lost so far, 0 to 2": fewer than settle a probe
abbrev pub short : ℕ → Bool
short lost = ltb lost tries

-- not refusal 14
abbrev pub sound : Search → Bool
sound (Checking count lost) = counts count && short lost
sound (Halving low high lost) = halves low high && short lost
sound AllUp = true
sound (Down place) = counts place

-- not the part of refusal 14 that is tried in a call with a listing of e links
abbrev pub sound_for : ℕ → Search → Bool
sound_for e (Checking count lost) = eqb count e
sound_for e (Halving low high lost) = leb high e
sound_for e AllUp = true
sound_for e (Down place) = leb place e

-- what a state says: nothing yet, that all links are up, or that the link at a place is down
abbrev pub says : Search → Said
says (Checking count lost) = said.Open
says (Halving low high lost) = said.Open
says AllUp = said.AllUp
says (Down place) = said.Down place

-- refusal 15: a search has ended once it says something
abbrev pub over : Said → Bool
over said.Open = false
over said.AllUp = true
over (said.Down place) = true

abbrev pub ended : Search → Bool
ended s = over (says s)

-- m, the probe to send; a search that has ended wants none, and 0 stands for that
abbrev pub wanted : Search → ℕ
wanted (Checking count lost) = count
wanted (Halving low high lost) = (low + high) / 2
wanted AllUp = 0
wanted (Down place) = 0

-- the sendings lost so far of the probe that is wanted
abbrev pub lost_so_far : Search → ℕ
lost_so_far (Checking count lost) = lost
lost_so_far (Halving low high lost) = lost
lost_so_far AllUp = 0
lost_so_far (Down place) = 0

-- does an outcome settle the probe that is wanted, so that it counts? It counts "as home at the first that returns", and as lost at the
-- third loss in a row
abbrev pub settles : Search → Outcome → Bool
settles s Returned = true
settles s Lost = not (short (lost_so_far s + 1))

-- the first broken link is at one of the places low .. high, with so many sendings lost of the next probe
abbrev pub narrowed : ℕ → ℕ → ℕ → Search
narrowed low high lost = choose (eqb low high) (Down low) (Halving low high lost)

-- the state after the probe that is wanted counts as returned or lost (document 01: home or lost); no sending of the next one is lost
abbrev pub settled : Search → Outcome → Search
settled (Checking count lost) Returned = AllUp
settled (Checking count lost) Lost = narrowed 1 count 0
settled (Halving low high lost) Returned = narrowed (wanted (Halving low high lost) + 1) high 0
settled (Halving low high lost) Lost = narrowed low (wanted (Halving low high lost)) 0
settled AllUp o = AllUp
settled (Down place) o = Down place

-- the state after one more of its sendings was lost, and the probe does not count yet: only that number grows
abbrev pub once_more : Search → Search
once_more (Checking count lost) = Checking count (lost + 1)
once_more (Halving low high lost) = Halving low high (lost + 1)
once_more AllUp = AllUp
once_more (Down place) = Down place

-- the state after a sending of the probe that is wanted had an outcome (document 01: a fate, home or lost)
abbrev pub next : Search → Outcome → Search
next s o = choose (settles s o) (settled s o) (once_more s)

-- ---- the calls

-- each of the two tries 14, then 15
abbrev pub call_checks : Search → Conditions
call_checks s = (14, not (sound s)) ∷ (15, ended s) ∷ []

-- the call for a probe: its m
unfoldable pub ask : Search → Checked ℕ
ask s = check (call_checks s) (wanted s)

-- the call that gives an outcome: the next state
unfoldable pub give : Search → Outcome → Checked Search
give s o = check (call_checks s) (next s o)
