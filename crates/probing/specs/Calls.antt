-- What each call on packets, probes and searches comes to that is given a listing: in the plant of the listing, after 1 to 8 and 11. Ring,
-- order, probes and E belong to the component of the named switch x (document 02, order 9): its trail is `trail_with p x`, and E, the number
-- of links that a search is over, `links_with p x`. State bytes are counted against the listing's link count, `p.count`.
use Rattle.std.specs.Prelude.{List, [], ◌∷◌, ℕ, eqb, length}
use Rattle.lists.specs.Tests.{choose}
use Rattle.plant.specs.declared.Plant.{Plant}
use Rattle.answers.specs.Checks.{Checked, check, ◌then◌, ◌giving◌}
use Rattle.walks.specs.Arcs.{head}
use Rattle.walks.specs.Components.{component_of, links_with, used}
use Rattle.plan.specs.Plan.{trail_of, trail_with, trail_begin, round_of, round_with, round_begin_of, in_table}
use Rattle.rings.specs.Packet.{End, run}
use Rattle.rings.specs.Rules.{up_by_link}
use Rattle.rings.specs.Order.{nth}
use Rattle.rings.specs.Probe.{outward}
use Rattle.rings.specs.Injection.{ring_of, order_of, probe_run}
use Rattle.rings.specs.Round.{round_run}
use Rattle.choosing.specs.declared.Choice.{Choice}
use Rattle.choosing.specs.Choice.{choice_of}
use Rattle.order.specs.declared.Order.{Order}
use Rattle.order.specs.declared.Span.{Span}
use Rattle.order.specs.Order.{listed}
use Rattle.order.specs.Span.{ring_span, span_of, shifted_by}
use Rattle.search.specs.declared.Search.{Search}
use Rattle.search.specs.declared.Said.{Said}
use Rattle.search.specs.declared.Said.TheVariants as said
use Rattle.search.specs.declared.Progress.{Progress}
use Rattle.search.specs.Search.{new_search, says, wanted}
use Rattle.search.specs.Calls.{Call, perform, begun}
use Rattle.planning.specs.Planning.{planning_at}
use Rattle.judging.specs.Conditions.{trail_differs, states_short, search_unsound, lent_checks, hops_differ, round_checks, wanted_checks}

-- ---- a packet that is no probe: 1 to 8, 11, 13

-- it runs under the forwarding table alone
unfoldable pub run_in : ℕ → List ℕ → List ℕ → Plant → Checked End
run_in x labels states p = check ((13, states_short p.count states) ∷ []) (run (in_table p) (up_by_link states) (head p) x 0 labels)

unfoldable pub running : List ℕ → ℕ → List ℕ → List ℕ → Checked End
running s x labels states = planning_at s x then run_in x labels states

-- ---- the full check: 1 to 8, 11, 12, 13

-- the whole ring under the forwarding table; where the component has no links, no label
unfoldable pub check_in : ℕ → List ℕ → List ℕ → Plant → Checked End
check_in x w states p = check (lent_checks p w states) (run (in_table p) (up_by_link states) (head p) x 0 (ring_of p (trail_with p x) x))

unfoldable pub checking : List ℕ → ℕ → List ℕ → List ℕ → Checked End
checking s x w states = planning_at s x then check_in x w states

-- ---- the round run (document 02, order 6): 1 to 8, 11, 12, 13

-- the ring of the switch on the round trail of its component, under all rules, by a byte for each label
unfoldable pub round_in : ℕ → List ℕ → List ℕ → Plant → Checked End
round_in x w states p = check (round_checks p w states) (round_run p (round_with p x) x states)

unfoldable pub round_running : List ℕ → ℕ → List ℕ → List ℕ → Checked End
round_running s x w states = planning_at s x then round_in x w states

-- ---- the shorter of two lent trails (document 02, order 6): 1 to 8, 11, 12

-- of the trail and the round trail of the component of x the one that has fewer hops: where it begins among those of all components, and
-- how many
abbrev pub choice_at : Plant → ℕ → Choice
choice_at p x = choice_of (trail_begin p (component_of p x)) (length (trail_with p x)) (round_begin_of p (component_of p x)) (length (round_with p x))

-- 12 of the round trail, then that
abbrev pub choice_from : ℕ → List ℕ → Plant → Checked Choice
choice_from x v p = check ((12, hops_differ (round_of p) v) ∷ []) (choice_at p x)

-- 12 of the trail, then that
unfoldable pub choice_in : ℕ → List ℕ → List ℕ → Plant → Checked Choice
choice_in x w v p = check {A = Unit} ((12, hops_differ (trail_of p) w) ∷ []) tt then λ _. choice_from x v p

unfoldable pub choosing : List ℕ → ℕ → List ℕ → List ℕ → Checked Choice
choosing s x w v = planning_at s x then choice_in x w v

-- ---- the order of links: 1 to 8, 11, 12

unfoldable pub order_in : ℕ → List ℕ → Plant → Checked Order
order_in x w p = check ((12, trail_differs p w) ∷ []) (listed (order_of p (trail_with p x) x))

unfoldable pub ordering : List ℕ → ℕ → List ℕ → Checked Order
ordering s x w = planning_at s x then order_in x w

-- ---- the outward labels of the probe wanted: 1 to 8, 11, 12, 14, 15

-- those of probe m: up to the first crossing of the m-th link of the order; for the full check, m = E, the whole ring
unfoldable pub out_labels : Plant → ℕ → ℕ → List ℕ
out_labels p x m = choose (eqb m (links_with p x)) (ring_of p (trail_with p x) x) (outward m (ring_of p (trail_with p x) x))

-- where they stand in the trail of the component: at most two parts of it
unfoldable pub own_span : Plant → ℕ → ℕ → Span
own_span p x m = choose (eqb m (links_with p x)) (ring_span p (trail_with p x) x) (span_of p (trail_with p x) x m)

-- and so in the trails of all components, one after another: the place is a number in the whole lent trail
unfoldable pub out_span : Plant → ℕ → ℕ → Span
out_span p x m = shifted_by (own_span p x m) (trail_begin p (component_of p x))

unfoldable pub outward_in : ℕ → List ℕ → Search → Plant → Checked Span
outward_in x w q p = check ((12, trail_differs p w) ∷ wanted_checks (links_with p x) q) (out_span p x (wanted q))

unfoldable pub outgoing : List ℕ → ℕ → List ℕ → Search → Checked Span
outgoing s x w q = planning_at s x then outward_in x w q

-- ---- the run of the probe wanted: 1 to 8, 11, 12, 13, 14, 15

-- how probe m comes out
abbrev pub probe_end : Plant → ℕ → List ℕ → ℕ → End
probe_end p x states m = probe_run p (used p) (trail_with p x) x (links_with p x) (up_by_link states) m

-- 14 and 15, then the probe wanted
abbrev pub probe_over : Plant → ℕ → List ℕ → Search → Checked End
probe_over p x states q = check (wanted_checks (links_with p x) q) (probe_end p x states (wanted q))

-- 12 and 13, then that
unfoldable pub probe_in : ℕ → List ℕ → List ℕ → Search → Plant → Checked End
probe_in x w states q p = check {A = Unit} (lent_checks p w states) tt then λ _. probe_over p x states q

unfoldable pub probing : List ℕ → ℕ → List ℕ → List ℕ → Search → Checked End
probing s x w states q = planning_at s x then probe_in x w states q

-- ---- the link named: 1 to 8, 11, 12, 14

-- what a search names: a link, none since all are up, or nothing yet since it has not ended
pub data Name : Type 0 where
  link : ℕ → Name
  none : Name
  unknown : Name

-- by what it says: Down names the link at its place in the order
abbrev pub named_in : List ℕ → Said → Name
named_in ls said.Open = unknown
named_in ls said.AllUp = none
named_in ls (said.Down place) = link (nth ls place)

unfoldable pub name_in : ℕ → List ℕ → Search → Plant → Checked Name
name_in x w q p =
    check ((12, trail_differs p w) ∷ (14, search_unsound (links_with p x) q) ∷ []) (named_in (order_of p (trail_with p x) x) (says q))

unfoldable pub naming : List ℕ → ℕ → List ℕ → Search → Checked Name
naming s x w q = planning_at s x then name_in x w q

-- ---- a new search, and a list of calls after it: 1 to 8, 11

-- a new search over the links of the component of an injection switch
unfoldable pub beginning : List ℕ → ℕ → Checked Search
beginning s x = planning_at s x giving λ p. new_search (links_with p x)

-- a new search, and then a list of calls
unfoldable pub performed_in : ℕ → List Call → Plant → Progress
performed_in x cs p = perform (begun (links_with p x)) cs

unfoldable pub performing : List ℕ → ℕ → List Call → Checked Progress
performing s x cs = planning_at s x giving performed_in x cs
