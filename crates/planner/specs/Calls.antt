-- What each call that is given a listing or a plant comes to, and what it leaves in a lent buffer.
use Rattle.std.specs.Prelude.{Bool, List, [], ◌∷◌, ◌++◌, map, ℕ, ltb, length, drop}
use Rattle.lists.specs.Numbers.{range}
use Rattle.plant.specs.declared.Plant.{Plant}
use Rattle.answers.specs.Checks.{Checked, check, answer, ◌then◌, ◌giving◌, leaves}
use Rattle.limits.specs.Limits.{max_links}
use Rattle.listing.specs.Listing.{reading}
use Rattle.listing.specs.Writing.{buffer_short, writing}
use Rattle.walks.specs.Graph.{bridge}
use Rattle.plan.specs.Plan.{trail_of, round_of, table_of}
use Rattle.trail.specs.Filled.{filled_with}
use Rattle.table.specs.declared.Table.{Table}
use Rattle.senders.specs.declared.BySwitch.{BySwitch}
use Rattle.senders.specs.Senders.{by_switch}
use Rattle.sheet.specs.declared.Sheet.{Sheet}
use Rattle.quoting.specs.Quotes.{pricing, quoting, page_in}
use Rattle.planning.specs.declared.Numbers.{Numbers}
use Rattle.planning.specs.declared.Components.{Components}
use Rattle.planning.specs.Components.{components_of}
use Rattle.planning.specs.Numbers.{numbers_of}

-- ---- reading and writing again: 1 to 8, then 16, the lent buffer is shorter than the listing

unfoldable pub rewriting : List ℕ → List ℕ → Checked ℕ
rewriting s b = reading s then λ p. check ((16, buffer_short s b) ∷ []) (length s)

-- the same bytes, then those that stood past them; at a refusal the buffer as it was
unfoldable pub rewritten : List ℕ → List ℕ → List ℕ
rewritten s b = leaves (λ n. s ++ drop n b) b (answer (rewriting s b))

-- ---- writing and reading again: 5, 6, 7, 16

unfoldable pub rereading : Plant → List ℕ → Checked Plant
rereading p b = writing p b giving λ _. p

-- ---- the forwarding table: 1 to 8

unfoldable pub tabling : List ℕ → Checked Table
tabling s = reading s giving table_of

-- ---- the rules for each switch: 1 to 8

-- those of the forwarding table, by sending switch
unfoldable pub counting : List ℕ → Checked BySwitch
counting s = tabling s giving by_switch

-- ---- the bridges: 1 to 8

-- a flag for each link place: is it a bridge?
unfoldable pub bridge_flags : Plant → List Bool
bridge_flags p = map (bridge p) (range 0 max_links)

unfoldable pub bridging : List ℕ → Checked (List Bool)
bridging s = reading s giving bridge_flags

-- ---- switches, links, bridges, rules and hops: 1 to 8

unfoldable pub summing : List ℕ → Checked Numbers
summing s = reading s giving numbers_of

-- ---- the components (document 02, order 9): 1 to 8

unfoldable pub parting : List ℕ → Checked Components
parting s = reading s giving components_of

-- ---- the trails, and the round trails, one after another: 1 to 8, then 10

-- 10: the lent buffer has fewer places than the trail w has hops
unfoldable pub places_short : List ℕ → List ℕ → Bool
places_short w b = ltb (length b) (length w)

-- the hops
unfoldable pub laying : List ℕ → List ℕ → Checked ℕ
laying w b = check ((10, places_short w b) ∷ []) (length w)

-- the trail w in the buffer b, then what stood past its end; at a refusal the buffer as it was
abbrev pub laid_with : List ℕ → List ℕ → List ℕ
laid_with w b = leaves (λ n. filled_with w b) b (answer (laying w b))

unfoldable pub trailing : List ℕ → List ℕ → Checked ℕ
trailing s b = reading s then λ p. laying (trail_of p) b

-- at a refusal of the listing too, the buffer is as it was
unfoldable pub laid_out : List ℕ → List ℕ → List ℕ
laid_out s b = leaves (λ p. laid_with (trail_of p) b) b (answer (reading s))

unfoldable pub round_trailing : List ℕ → List ℕ → Checked ℕ
round_trailing s b = reading s then λ p. laying (round_of p) b

unfoldable pub round_laid_out : List ℕ → List ℕ → List ℕ
round_laid_out s b = leaves (λ p. laid_with (round_of p) b) b (answer (reading s))

-- ---- the buying page: 1 to 8, then 17, then 18

-- its counts: 1 to 8, then 17
unfoldable pub quoting_for : List ℕ → ℕ → Checked Sheet
quoting_for s spare = reading s then λ p. pricing p spare

-- the length of the page
unfoldable pub buying : List ℕ → ℕ → List ℕ → Checked ℕ
buying s spare b = reading s then λ p. quoting p spare b

-- the page, then the bytes that stood past it; at a refusal the buffer as it was
unfoldable pub bought_out : List ℕ → ℕ → List ℕ → List ℕ
bought_out s spare b = leaves (λ c. page_in c b) b (answer (quoting_for s spare))
