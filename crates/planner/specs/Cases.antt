-- Cases beside the starred ones, which are in `Starred`: each row has what the definitions answer, and what documents 01 and 02 say. One
-- computed test over all rows. Bytes are in decimal but for the most switches, which are document 01's hexadecimal 40, and the byte above it.
-- Assumes nothing.
use Rattle.std.specs.Prelude.{◌≡◌, refl, false, ℕ, take, replicate}
use mathlib.Core.List.{List, [], ◌∷◌, ◌++◌, map, flatten}
use Rattle.plant.specs.declared.Link.{Link}
use Rattle.plant.specs.Links.{plant_with, live}
use Rattle.answers.specs.Answers.{Answer, given, refused, ◌>>=◌}
use Rattle.answers.specs.Checks.{answer}
use Rattle.answers.specs.Tables.{byte, agreed}
use Rattle.codec.specs.Part.{taken, value_of, redundant, map_missing, map_undefined, field_missing, field_redundant, field_values, after_part, part, part_bytes}
use Rattle.listing.specs.Listing.{value_out_of_range, end_out_of_range, self_link, bytes_remain, sound_link, header, link, links, with_links, linked, ended, reading, link_of, links_of, header_bytes, link_bytes, encode}
use Rattle.listing.specs.Writing.{is_zero, plant_out_of_range, sound_plant, buffer_short, writing}
use Rattle.limits.specs.Limits.{max_switches, max_links}
use Rattle.lists.specs.Arrays.{at}
use Rattle.lists.specs.Count.{bit, count}
use Rattle.lists.specs.Least.{least_from}
use Rattle.lists.specs.Numbers.{range}
use Rattle.lists.specs.Padded.{padded}
use Rattle.lists.specs.Sum.{sum}
use Rattle.walks.specs.Visit.{scan, visit}
use Rattle.walks.specs.Arcs.{opposite, tail, head}
use Rattle.walks.specs.Graph.{arcs, others, visit_from, bridge, live_links, bridges, links_at, used_from}
use Rattle.walks.specs.Components.{root_of, begun_at, roots, used, arcs_used}
use Rattle.walks.specs.Round.{walk_at, tour, round_from}
use Rattle.routes.specs.Distance.{sources, within, dist, hop, hops, route}
use Rattle.routes.specs.Trail.{near, nearest, legs, trail}
use Rattle.plan.specs.Plan.{trails_of, rounds_of}
use Rattle.table.specs.Rules.{table_with, rules_in}
use Rattle.senders.specs.Senders.{sent_by, by_switch}
use Rattle.allowance.specs.Allowance.{allowance}
use Rattle.quantity.specs.Quantity.{with_spare, spare_above, order_quantity}
use Rattle.sheet.specs.Page.{writing_page}
use Rattle.planning.specs.Numbers.{numbers_of}
use Rattle.planning.specs.declared.Component.{Component}
use Rattle.planning.specs.Components.{components_with, component_at, components_of}
use Rattle.quoting.specs.Quotes.{pricing, quoting}
use Rattle.planner.specs.Calls.{tabling, summing, parting, counting, places_short, laying, laid_out, trailing, round_laid_out, round_trailing, quoting_for, buying}
use Rattle.planner.specs.Starred.{Row, reads, tables, trails, two_switches, triangle, three_parallel}

-- ---- reading: switch count, link count, start, and the ends and tag of each link

abbrev readings : List Row
readings =
    -- "`01 00` and `01 41`: 5"; `01 40` is a plant since document 02's order 9; "a link from switch 0 to itself: 7"
    reads (1 ∷ 0 ∷ []) (refused 5)
    ∷ reads (1 ∷ byte 4 1 ∷ []) (refused 5)
    ∷ reads (1 ∷ byte 4 0 ∷ []) (given (byte 4 0 ∷ 0 ∷ 0 ∷ []))
    ∷ reads (3 ∷ 2 ∷ 1 ∷ 0 ∷ 0 ∷ []) (refused 7)
    -- "within one part the lowest number goes first": 3, though its first field is 4; and a link 5-5 with three switches is 6, though also 7
    ∷ reads (3 ∷ 1 ∷ []) (refused 3)
    ∷ reads (3 ∷ 3 ∷ 1 ∷ 0 ∷ 3 ∷ 5 ∷ 5 ∷ []) (refused 6)
    -- "records in order": a link 1-1 is 7, though the record after it, 0-9, is 6
    ∷ reads (3 ∷ 3 ∷ 2 ∷ 0 ∷ 3 ∷ 1 ∷ 1 ∷ 3 ∷ 0 ∷ 9 ∷ []) (refused 7)
    -- the header before the records, and these before the end: 5 though the record is 1, 4 of a record though bytes remain
    ∷ reads (3 ∷ 0 ∷ 1 ∷ 0 ∷ []) (refused 5)
    ∷ reads (3 ∷ 2 ∷ 1 ∷ 0 ∷ 3 ∷ 0 ∷ 1 ∷ 9 ∷ []) (refused 4)
    ∷ []

-- ---- writing: the length of the listing of a plant with such links, switches and start, of which so many count, in a buffer of so many places

abbrev joins : ℕ → ℕ → Link
joins first second = link_of first second 0 false

abbrev writes : ℕ → ℕ → ℕ → List Link → ℕ → Answer (List ℕ) → Row
writes switches count start ls places a =
    record { got = answer (writing (record { switches = switches; count = count; start = start; links = ls }) (replicate places 0)) >>= λ n. given (n ∷ []); said = a }

-- "the writer tries all of 5, then 6 and 7 record by record, then 16"
abbrev writings : List Row
writings =
    -- all of 5 before 6 and 7: a start that is no switch, and a place past the links that is not zero
    writes 3 1 3 (joins 1 9 ∷ joins 0 0 ∷ []) 0 (refused 5)
    ∷ writes 3 1 0 (joins 1 9 ∷ joins 0 1 ∷ []) 0 (refused 5)
    -- 6 and 7 record by record: 6 before 7 in one record, and an earlier record before a later one
    ∷ writes 3 1 0 (joins 5 5 ∷ joins 0 0 ∷ []) 0 (refused 6)
    ∷ writes 3 2 0 (joins 1 1 ∷ joins 0 9 ∷ []) 0 (refused 7)
    ∷ writes 3 2 0 (joins 0 9 ∷ joins 1 1 ∷ []) 0 (refused 6)
    -- then 16: a self link and no room for the listing is 7; a sound plant and one place too few is 16
    ∷ writes 3 1 0 (joins 2 2 ∷ joins 0 0 ∷ []) 0 (refused 7)
    ∷ writes 3 1 0 (joins 0 2 ∷ joins 0 0 ∷ []) 5 (refused 16)
    ∷ writes 3 1 0 (joins 0 2 ∷ joins 0 0 ∷ []) 6 (given (6 ∷ []))
    ∷ []

-- ---- reading with marks: the same, and 1 after the tag of a link out of service, 0 after any other

abbrev marks_of : List Link → List ℕ
marks_of [] = []
marks_of (l ∷ ls) = l.first ∷ l.second ∷ l.tag ∷ bit l.out_of_service ∷ marks_of ls

abbrev reads_marks : List ℕ → Answer (List ℕ) → Row
reads_marks s a = record { got = answer (reading s) >>= λ p. given (p.switches ∷ p.count ∷ p.start ∷ marks_of (links_of p)); said = a }

-- document 02's order 7: the triangle with its last link out of service
abbrev open_triangle : List ℕ
open_triangle = 3 ∷ 3 ∷ 3 ∷ 0 ∷ 2 ∷ 1 ∷ 3 ∷ 1 ∷ 2 ∷ 11 ∷ 2 ∷ 0 ∷ []

-- two parallel links, the first out of service; the second takes its ends from it
abbrev one_of_two : List ℕ
one_of_two = 3 ∷ 2 ∷ 2 ∷ 0 ∷ 10 ∷ 1 ∷ 0 ∷ []

abbrev marked_readings : List Row
marked_readings =
    reads_marks open_triangle (given (3 ∷ 3 ∷ 0 ∷ 0 ∷ 1 ∷ 0 ∷ 0 ∷ 1 ∷ 2 ∷ 0 ∷ 0 ∷ 2 ∷ 0 ∷ 0 ∷ 1 ∷ []))
    ∷ reads_marks one_of_two (given (2 ∷ 2 ∷ 0 ∷ 0 ∷ 1 ∷ 0 ∷ 1 ∷ 0 ∷ 1 ∷ 0 ∷ 0 ∷ []))
    ∷ reads_marks (3 ∷ 2 ∷ 1 ∷ 0 ∷ 14 ∷ 1 ∷ 5 ∷ 2 ∷ []) (given (2 ∷ 1 ∷ 0 ∷ 0 ∷ 1 ∷ 517 ∷ 1 ∷ []))
    ∷ reads_marks (3 ∷ 2 ∷ 1 ∷ 0 ∷ 18 ∷ 1 ∷ []) (refused 2)
    ∷ reads_marks (3 ∷ 2 ∷ 1 ∷ 0 ∷ 128 ∷ []) (refused 2)
    ∷ reads_marks (3 ∷ 2 ∷ 1 ∷ 0 ∷ 10 ∷ []) (refused 3)
    ∷ reads_marks (3 ∷ 2 ∷ 1 ∷ 0 ∷ 10 ∷ 0 ∷ []) (refused 4)
    ∷ reads_marks (3 ∷ 2 ∷ 1 ∷ 0 ∷ 10 ∷ 2 ∷ []) (refused 6)
    ∷ reads_marks (3 ∷ 2 ∷ 1 ∷ 0 ∷ 8 ∷ []) (refused 7)
    ∷ []

-- ---- planning: the number of rules, and the trails in a buffer of so many places

-- document 02's order 9, `01 40`: as many switches as there can be, and no links
abbrev no_links : List ℕ
no_links = 1 ∷ byte 4 0 ∷ []

-- two switches, and the link between them out of service
abbrev apart : List ℕ
apart = 3 ∷ 2 ∷ 1 ∷ 0 ∷ 10 ∷ 1 ∷ []

-- three switches and a link between the first two; the start is the third
abbrev pair_beside : List ℕ
pair_beside = 7 ∷ 3 ∷ 1 ∷ 0 ∷ 2 ∷ 2 ∷ 1 ∷ []

-- two triangles and a switch without links; the start is in the triangle that has the highest switches, and is not its lowest
abbrev triangles : List ℕ
triangles = 7 ∷ 7 ∷ 6 ∷ 0 ∷ 5 ∷ 3 ∷ 4 ∷ 5 ∷ 3 ∷ 0 ∷ 2 ∷ 3 ∷ 5 ∷ 6 ∷ 3 ∷ 2 ∷ 3 ∷ 3 ∷ 6 ∷ 4 ∷ 3 ∷ 3 ∷ 0 ∷ []

abbrev planned : List Row
planned =
    tables no_links (given (0 ∷ []))
    ∷ trails no_links 0 (given [])
    ∷ tables open_triangle (given (4 ∷ []))
    ∷ trails open_triangle 5 (refused 10)
    ∷ trails open_triangle 6 (given (0 ∷ 1 ∷ 0 ∷ 2 ∷ 3 ∷ 1 ∷ []))
    ∷ tables one_of_two (given (2 ∷ []))
    ∷ trails one_of_two 2 (given (2 ∷ 3 ∷ []))
    ∷ tables apart (given (0 ∷ []))
    ∷ trails apart 0 (given [])
    ∷ tables pair_beside (given (2 ∷ []))
    ∷ trails pair_beside 1 (refused 10)
    ∷ trails pair_beside 2 (given (0 ∷ 1 ∷ []))
    ∷ tables triangles (given (6 ∷ []))
    ∷ trails triangles 5 (refused 10)
    ∷ trails triangles 6 (given (1 ∷ 9 ∷ 5 ∷ 2 ∷ 6 ∷ 10 ∷ []))
    ∷ []

-- the numbers of the first line that the program `rules` prints: switches, links, bridges, rules, hops

abbrev sums : List ℕ → Answer (List ℕ) → Row
sums s a = record { got = answer (summing s) >>= λ n. given (n.switches ∷ n.links ∷ n.bridges ∷ n.rules ∷ n.hops ∷ []); said = a }

abbrev summed : List Row
summed =
    sums triangle (given (3 ∷ 3 ∷ 0 ∷ 3 ∷ 3 ∷ []))
    ∷ sums open_triangle (given (3 ∷ 2 ∷ 2 ∷ 4 ∷ 6 ∷ []))
    ∷ sums one_of_two (given (2 ∷ 1 ∷ 1 ∷ 2 ∷ 2 ∷ []))
    ∷ sums no_links (given (byte 4 0 ∷ 0 ∷ 0 ∷ 0 ∷ 0 ∷ []))
    ∷ sums apart (given (2 ∷ 0 ∷ 0 ∷ 0 ∷ 0 ∷ []))
    ∷ sums pair_beside (given (3 ∷ 1 ∷ 1 ∷ 2 ∷ 2 ∷ []))
    ∷ sums triangles (given (7 ∷ 6 ∷ 0 ∷ 6 ∷ 6 ∷ []))
    ∷ []

-- ---- the components: how many, and five numbers of each: its root, where its trail begins and its hops, where its round trail begins and its hops

abbrev five_of : List Component → List ℕ
five_of [] = []
five_of (c ∷ cs) = c.first ∷ c.begin ∷ c.hops ∷ c.round_begin ∷ c.round_hops ∷ five_of cs

abbrev parts : List ℕ → Answer (List ℕ) → Row
parts s a = record { got = answer (parting s) >>= λ c. given (c.count ∷ five_of (take c.count c.list)); said = a }

abbrev parted : List Row
parted =
    parts (8 ∷ []) (refused 2)
    ∷ parts (0 ∷ []) (given (1 ∷ 0 ∷ 0 ∷ 0 ∷ 0 ∷ 0 ∷ []))
    ∷ parts no_links (given (byte 4 0 ∷ flatten (map (λ x. x ∷ 0 ∷ 0 ∷ 0 ∷ 0 ∷ []) (range 0 (byte 4 0)))))
    ∷ parts open_triangle (given (1 ∷ 0 ∷ 0 ∷ 6 ∷ 0 ∷ 4 ∷ []))
    ∷ parts apart (given (2 ∷ 0 ∷ 0 ∷ 0 ∷ 0 ∷ 0 ∷ 1 ∷ 0 ∷ 0 ∷ 0 ∷ 0 ∷ []))
    ∷ parts pair_beside (given (2 ∷ 2 ∷ 0 ∷ 0 ∷ 0 ∷ 0 ∷ 0 ∷ 0 ∷ 2 ∷ 0 ∷ 2 ∷ []))
    ∷ parts triangles (given (3 ∷ 5 ∷ 0 ∷ 3 ∷ 0 ∷ 6 ∷ 0 ∷ 3 ∷ 3 ∷ 6 ∷ 6 ∷ 1 ∷ 6 ∷ 0 ∷ 12 ∷ 0 ∷ []))
    ∷ []

-- ---- the rules for each switch: a number for each switch place, then the total; and the order quantity laid on the total, then the sum of those laid on each switch

abbrev counts : List ℕ → Answer (List ℕ) → Row
counts s a = record { got = answer (counting s) >>= λ b. given (b.counts ++ (b.total ∷ [])); said = a }

-- the numbers of the first switches, zeros in the places past them, and the total
abbrev sending : List ℕ → ℕ → Answer (List ℕ)
sending ns total = given (padded max_switches 0 ns ++ (total ∷ []))

abbrev orders : List ℕ → ℕ → Answer (List ℕ) → Row
orders s spare a = record {
  got = answer (counting s) >>= λ b. answer (order_quantity b.total spare)
      >>= λ n. given (n ∷ sum max_switches (λ x. with_spare (at b.counts x) spare) ∷ []);
  said = a;
}

-- document 01's example of the program `rules`
abbrev ring_and_tail : List ℕ
ring_and_tail = 3 ∷ 4 ∷ 4 ∷ 0 ∷ 2 ∷ 1 ∷ 3 ∷ 1 ∷ 2 ∷ 3 ∷ 2 ∷ 0 ∷ 3 ∷ 0 ∷ 3 ∷ []

abbrev by_switches : List Row
by_switches =
    counts (8 ∷ []) (refused 2)
    ∷ counts no_links (sending [] 0)
    ∷ counts (0 ∷ []) (sending [] 0)
    ∷ counts two_switches (sending (1 ∷ 1 ∷ []) 2)
    ∷ counts triangle (sending (1 ∷ 1 ∷ 1 ∷ []) 3)
    ∷ counts three_parallel (sending (1 ∷ 2 ∷ []) 3)
    ∷ counts ring_and_tail (sending (2 ∷ 1 ∷ 1 ∷ 1 ∷ []) 5)
    ∷ counts open_triangle (sending (1 ∷ 2 ∷ 1 ∷ []) 4)
    ∷ counts pair_beside (sending (1 ∷ 1 ∷ []) 2)
    ∷ counts triangles (sending (1 ∷ 0 ∷ 1 ∷ 1 ∷ 1 ∷ 1 ∷ 1 ∷ []) 6)
    ∷ orders two_switches 0 (given (2 ∷ 2 ∷ []))
    ∷ orders two_switches 10 (given (3 ∷ 4 ∷ []))
    ∷ []

-- ---- the round trails: their hops, and what stands in a buffer of so many places that held 7

abbrev rounds : List ℕ → ℕ → Answer (List ℕ) → Row
rounds s places a = record { got = answer (round_trailing s (replicate places 7)) >>= λ n. given (n ∷ round_laid_out s (replicate places 7)); said = a }

abbrev round_trails : List Row
round_trails =
    rounds no_links 0 (given (0 ∷ []))
    ∷ rounds (0 ∷ []) 1 (given (0 ∷ 7 ∷ []))
    ∷ rounds two_switches 2 (given (2 ∷ 0 ∷ 1 ∷ []))
    ∷ rounds triangle 6 (given (6 ∷ 0 ∷ 2 ∷ 4 ∷ 5 ∷ 3 ∷ 1 ∷ []))
    ∷ rounds three_parallel 5 (refused 10)
    ∷ rounds three_parallel 6 (given (6 ∷ 0 ∷ 3 ∷ 2 ∷ 5 ∷ 4 ∷ 1 ∷ []))
    ∷ rounds ring_and_tail 10 (given (8 ∷ 0 ∷ 2 ∷ 4 ∷ 5 ∷ 3 ∷ 1 ∷ 6 ∷ 7 ∷ 7 ∷ 7 ∷ []))
    ∷ rounds open_triangle 3 (refused 10)
    ∷ rounds open_triangle 5 (given (4 ∷ 0 ∷ 2 ∷ 3 ∷ 1 ∷ 7 ∷ []))
    ∷ rounds pair_beside 3 (given (2 ∷ 0 ∷ 1 ∷ 7 ∷ []))
    ∷ rounds triangles 11 (refused 10)
    ∷ rounds triangles 12 (given (12 ∷ 1 ∷ 9 ∷ 5 ∷ 4 ∷ 8 ∷ 0 ∷ 2 ∷ 6 ∷ 10 ∷ 11 ∷ 7 ∷ 3 ∷ []))
    ∷ []

-- ---- the buying page: its counts (the rules of the switches, the links at them, all rules, the quantity), and its length in a buffer of so many places

abbrev quotes : List ℕ → ℕ → Answer (List ℕ) → Row
quotes s spare a = record { got = answer (quoting_for s spare) >>= λ c. given (take c.switches c.rules ++ take c.switches c.links ++ (c.total ∷ c.quantity ∷ [])); said = a }

abbrev buys : List ℕ → ℕ → ℕ → Answer (List ℕ) → Row
buys s spare places a = record { got = answer (buying s spare (replicate places 0)) >>= λ n. given (n ∷ []); said = a }

abbrev bought_pages : List Row
bought_pages =
    quotes (0 ∷ []) 100 (given (0 ∷ 0 ∷ 0 ∷ 0 ∷ []))
    ∷ quotes two_switches 10 (given (1 ∷ 1 ∷ 1 ∷ 1 ∷ 2 ∷ 3 ∷ []))
    ∷ quotes three_parallel 100 (given (1 ∷ 2 ∷ 3 ∷ 3 ∷ 3 ∷ 6 ∷ []))
    ∷ quotes ring_and_tail 10 (given (2 ∷ 1 ∷ 1 ∷ 1 ∷ 3 ∷ 2 ∷ 2 ∷ 1 ∷ 5 ∷ 6 ∷ []))
    ∷ quotes open_triangle 10 (given (1 ∷ 2 ∷ 1 ∷ 1 ∷ 2 ∷ 1 ∷ 4 ∷ 5 ∷ []))
    ∷ quotes pair_beside 10 (given (1 ∷ 1 ∷ 0 ∷ 1 ∷ 1 ∷ 0 ∷ 2 ∷ 3 ∷ []))
    ∷ quotes ring_and_tail 101 (refused 17)
    ∷ buys no_links 101 0 (refused 17)
    ∷ buys ring_and_tail 101 0 (refused 17)
    ∷ buys ring_and_tail 10 159 (refused 18)
    ∷ buys ring_and_tail 10 160 (given (160 ∷ []))
    ∷ []

-- ---- the allowance: 0 of no link and of one. It is that of any number, also of more links than a plant can have

abbrev allows : ℕ → ℕ → Row
allows n k = record { got = given (allowance n ∷ []); said = given (k ∷ []) }

abbrev allowances : List Row
allowances =
    allows 0 0 ∷ allows 1 0 ∷ allows 2 1 ∷ allows 3 2 ∷ allows 4 2 ∷ allows 5 3 ∷ allows 128 7 ∷ allows 129 8 ∷ allows max_links 8
    ∷ allows 257 9 ∷ allows 300 9 ∷ allows 512 9 ∷ allows 513 10 ∷ allows 65535 16 ∷ []

-- ---- the table, and the test

abbrev table : List Row
table = readings ++ writings ++ marked_readings ++ planned ++ summed ++ parted ++ by_switches ++ round_trails ++ bought_pages ++ allowances

as_said : map (λ r. r.got) table ≡ map (λ r. r.said) table
unfolding plant_with taken value_of redundant map_missing map_undefined field_missing field_redundant field_values after_part part value_out_of_range end_out_of_range self_link bytes_remain sound_link header link links with_links linked ended reading trail legs nearest near route hops hop dist within sources least_from count used_from bridge visit_from arcs others visit scan round_from tour walk_at opposite tail head live root_of begun_at roots used arcs_used flatten trails_of rounds_of rules_in table_with tabling live_links bridges numbers_of summing components_with component_at components_of parting sent_by sum by_switch counting places_short laying laid_out trailing round_laid_out round_trailing links_at pricing quoting quoting_for writing_page buying allowance order_quantity spare_above is_zero plant_out_of_range sound_plant buffer_short header_bytes link_bytes encode part_bytes writing
as_said = agreed (λ r. r.got) (λ r. r.said) table refl
