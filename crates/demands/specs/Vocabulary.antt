-- The words that the promises are said in, each from the file that defines it, by subject. A file of promises takes its words from here, and its operators
-- from the library itself.

-- ---- lists, numbers and logic
pub use Rattle.std.specs.Prelude.{◌≡◌, ◌⊎◌, ◌↔◌, true, false, not, Bool, ◌&&◌, ◌||◌, ℕ, suc, ◌≤◌, ◌<◌, ◌+◌, ◌*◌, ◌-◌, ◌/◌, ◌%◌, ◌^◌, T, ltb, leb, length, drop, get_or, take, replicate}
pub use mathlib.Core.List.{List, [], ◌∷◌, ◌++◌, map, flatten}
-- ---- lists, further
pub use Rattle.lists.specs.Arrays.{at}
pub use Rattle.lists.specs.Count.{count}
pub use Rattle.lists.specs.Members.{Each, In, Distinct, memb}
pub use Rattle.lists.specs.Numbers.{range, keep}
pub use Rattle.lists.specs.Sum.{sum, sum_of}
-- ---- answers: a result or a refusal, by conditions that are tried in order
pub use Rattle.answers.specs.declared.Refusal.{Refusal}
pub use Rattle.answers.specs.Answers.{given, refused, refuse, ◌>>=◌, Answer, number_of}
pub use Rattle.answers.specs.Checks.{Conditions, Checked, answer, check, ◌then◌, NoneHolds, FirstHolds}
-- ---- the plant and its limits
pub use Rattle.plant.specs.declared.Link.{Link}
pub use Rattle.plant.specs.declared.Plant.{Plant}
pub use Rattle.plant.specs.Links.{zero_link, live, marked, is_out_of_service, link_at}
pub use Rattle.limits.specs.Limits.{max_switches, max_links, max_rules, max_hops}
pub use Rattle.limits.specs.Sound.{Sound}
-- ---- the listing: its parts and fields, read and written
pub use Rattle.codec.specs.declared.Field.{Field}
pub use Rattle.codec.specs.Field.{Bytes, number}
pub use Rattle.codec.specs.Given.{bit_at, SomeGiven, EndsBefore, HoldsAbsent}
pub use Rattle.codec.specs.Part.{map_missing, map_undefined, field_missing, field_redundant, field_values, map_byte, part, part_bytes}
pub use Rattle.listing.specs.Listing.{header_fields, link_fields, link_from, end_out_of_range, self_link, bytes_remain, header}
pub use Rattle.listing.specs.Listing.{sound_link, links, with_links, links_of, reading, encode, value_out_of_range}
pub use Rattle.listing.specs.Writing.{plant_out_of_range, sound_links, buffer_short, writing, buffer_after}
-- ---- walks, bridges, the visit, arcs in use, components, the round trail
pub use Rattle.walks.specs.Arcs.{tail, head, Arc, opposite}
pub use Rattle.walks.specs.ByLinks.{visit_links}
pub use Rattle.walks.specs.Components.{links_with, root_of, roots, component_of, link_with, used, arcs_used}
pub use Rattle.walks.specs.Graph.{To, Bridge, bridge, live_links, visited_from, entered_from, earlier_from, used_from, Crosses, ClosedWalk}
pub use Rattle.walks.specs.Graph.{ClosedWalks, bridges, links_at, switches_from, links_from, bridges_from, arcs_used_from}
pub use Rattle.walks.specs.Round.{tour_from, round_from}
pub use Rattle.walks.specs.RoundRule.{ByRoundRule}
-- ---- distances and the trail
pub use Rattle.routes.specs.Meaning.{Fewest}
pub use Rattle.routes.specs.Plants.{distance_from, trail_from, TrailByRule}
-- ---- packets, rules, rings, the order of links and probes
pub use Rattle.rings.specs.FirstDown.{FirstDown}
pub use Rattle.rings.specs.Injection.{place_of, ring_of, order_of, probe_of, probe_run, probe_rules}
pub use Rattle.rings.specs.Order.{nth}
pub use Rattle.rings.specs.Packet.{End, run, leads_to}
pub use Rattle.rings.specs.Probe.{up_to, back}
pub use Rattle.rings.specs.Ring.{FirstHop}
pub use Rattle.rings.specs.Round.{up_by_label, EveryUp, Vouches, link_bytes, Together}
pub use Rattle.rings.specs.Rules.{in_all, all_rules, up_by, up_by_link}
-- ---- the plan of a plant: its trails, rules and components, and the rules by sending switch
pub use Rattle.table.specs.declared.Table.{Table}
pub use Rattle.table.specs.Rules.{zero_rule, rules_in, table_in}
pub use Rattle.senders.specs.Senders.{sent_by, past_senders, by_switch}
pub use Rattle.plan.specs.Plan.{trail_of, round_of, trail_with, trail_begin, in_table, rules_of, round_with, table_of, round_begin_of}
pub use Rattle.plan.specs.Plan.{Connected}
pub use Rattle.plan.specs.Rounds.{AreRounds}
pub use Rattle.plan.specs.Totals.{Totals}
pub use Rattle.plan.specs.Trails.{AreTrails}
pub use Rattle.planning.specs.Components.{zero_component, components_of}
pub use Rattle.planning.specs.Planning.{switch_out_of_range}
-- ---- spans of a lent trail, and the choice between two
pub use Rattle.order.specs.declared.Span.{Span}
pub use Rattle.order.specs.Span.{stretch_of, front_of, ring_span, span_of}
pub use Rattle.choosing.specs.declared.Choice.{Choice}
pub use Rattle.choosing.specs.Choice.{hops_in, choice_of}
-- ---- the search, its outcomes and its allowance, and the order quantity
pub use Rattle.quantity.specs.Quantity.{max_spare, spare_above, order_quantity, with_spare}
pub use Rattle.allowance.specs.Allowance.{allowance}
pub use Rattle.search.specs.declared.Outcome.{Outcome}
pub use Rattle.search.specs.declared.Search.{Search}
pub use Rattle.search.specs.Calls.{Call, asks, gives, perform, begun, Sending, sent, counted_in, TrueSending, OneReturns}
pub use Rattle.search.specs.Search.{sound, ended, ask, give, new_search, wanted, sound_for}
pub use Rattle.search.specs.Values.{IsAllUp, IsDown, IsReturned, IsLost, Values, values_of, halving, all_up, down, outcome_number}
pub use Rattle.packet.specs.Outcome.{outcome_of}
-- ---- the conditions on what is lent and on a search
pub use Rattle.judging.specs.Conditions.{trail_differs, hops_differ, states_short, search_unsound}
-- ---- values that calls hand back
pub use Rattle.order.specs.declared.Order.{Order}
pub use Rattle.probing.specs.Calls.{none}
-- ---- the buying page, and what is printed
pub use Rattle.text.specs.Ascii.{ascii}
pub use Rattle.text.specs.Decimal.{decimal}
pub use Rattle.text.specs.Lines.{line}
pub use Rattle.text.specs.Lines.{summary_line, rule_lines, trail_line}
pub use Rattle.sheet.specs.declared.Sheet.{Sheet}
pub use Rattle.sheet.specs.Columns.{line_columns}
pub use Rattle.sheet.specs.Form.{formed, reading_page}
pub use Rattle.sheet.specs.Page.{buying_page, page_short, switch_line, total_line}
pub use Rattle.sheet.specs.Shown.{Shown}
pub use Rattle.printing.specs.Output.{triple, printed}
-- ---- the calls
pub use Rattle.planner.specs.Calls.{places_short, rewriting, rereading, summing, bridging, parting, tabling, counting, trailing}
pub use Rattle.planner.specs.Calls.{round_trailing, buying, rewritten, laid_out, bought_out, round_laid_out}
pub use Rattle.probing.specs.Calls.{running, checking, round_running, choosing, ordering, outgoing, probing, naming, beginning, performing}
pub use Rattle.probing.specs.Calls.{out_span, link, out_labels, probe_end, choice_at}
pub use Rattle.probing.specs.Searches.{CeilLog, AllTrue, OneOfThree, Searches, actual_outcome, sent_over, Says, NoneBroken}
-- ---- consoles
pub use Rattle.desk.specs.declared.Console.{Console}
pub use Rattle.desk.specs.declared.Desk.{Desk}
pub use Rattle.desk.specs.declared.Held.{Held}
pub use Rattle.std.specs.Prelude.{Option, None, Some}
pub use Rattle.desk.specs.Console.{set_out_of_range, outside_set, has, console_with, search_from, idle}
pub use Rattle.desk.specs.Desk.{fresh_desk, console_of}
pub use Rattle.consoles.specs.Calls.{console_out_of_range, new_set, start, outcome, serving, Request, switch_of, asking, calling, served}
pub use Rattle.consoles.specs.Lists.{DeskCall, answer_to, after, after_all, calls_of, answers_of, unknown, since, fed_in}
