-- The conditions of refusals 12 to 15 in a call that is given a listing (document 01, "Refusals in checking order"), each once; and what
-- calls try alike.
use Rattle.std.specs.Prelude.{Bool, not, ◌&&◌, List, [], ◌∷◌, ℕ, ◌*◌, eqb, ltb, length}
use Rattle.plant.specs.declared.Plant.{Plant}
use Rattle.answers.specs.Checks.{Conditions, Checked, check}
use Rattle.plan.specs.Plan.{trail_of, round_of}
use Rattle.trail.specs.Filled.{begins_with}
use Rattle.search.specs.declared.Search.{Search}
use Rattle.search.specs.Search.{sound, sound_for, ended, wanted}

-- 12: the lent trail, in its whole length, differs from the listing's trails, one after another: it does not begin with their hops, or has
-- another length
unfoldable pub trail_differs : Plant → List ℕ → Bool
trail_differs p w = not (begins_with w (trail_of p) && eqb (length w) (length (trail_of p)))

-- 12 in the calls of document 02's order 6, where "a lent trail may have spare places": it "looks at the hops alone and includes a slice
-- too short". The lent trail does not begin with the hops w
unfoldable pub hops_differ : List ℕ → List ℕ → Bool
hops_differ w lent = not (begins_with lent w)

-- 13: there are fewer state bytes than e: the links of the listing, or in the round run its labels
unfoldable pub states_short : ℕ → List ℕ → Bool
states_short e states = ltb (length states) e

-- 14: the search is unsound by itself, or in a call with a listing, where a search is over e links: those in service of the component of
-- its switch
unfoldable pub search_unsound : ℕ → Search → Bool
search_unsound e q = not (sound q && sound_for e q)

-- ---- what calls share

-- 12, then 13
abbrev pub lent_checks : Plant → List ℕ → List ℕ → Conditions
lent_checks p w states = (12, trail_differs p w) ∷ (13, states_short p.count states) ∷ []

-- 12 and 13 of the round run: of the lent round trail, and of a byte for each label
abbrev pub round_checks : Plant → List ℕ → List ℕ → Conditions
round_checks p lent states = (12, hops_differ (round_of p) lent) ∷ (13, states_short (2 * p.count) states) ∷ []

-- 14, then 15: a probe is wanted of All up or Down
abbrev pub wanted_checks : ℕ → Search → Conditions
wanted_checks e q = (14, search_unsound e q) ∷ (15, ended q) ∷ []

-- the m of the probe wanted
unfoldable pub probe_wanted : ℕ → Search → Checked ℕ
probe_wanted e q = check (wanted_checks e q) (wanted q)
