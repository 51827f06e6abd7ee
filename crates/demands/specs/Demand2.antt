-- Demand 2: the definitions are document 01's, the round trips and the trail.
use Rattle.std.specs.Prelude.{◌≡◌, ◌↔◌, ◌∷◌, ◌++◌, ◌≤◌, ◌<◌, ◌+◌, ◌*◌, ◌-◌, ◌/◌, ◌^◌}
use Rattle.demands.specs.Vocabulary.{true, false, Bool, List, [], map, flatten, ℕ, suc}
use Rattle.demands.specs.Vocabulary.{T, length, drop, get_or, take, count, In, Distinct, range, keep, given, answer, Plant}
use Rattle.demands.specs.Vocabulary.{live, is_out_of_service, link_at, max_switches, max_links, max_rules, max_hops, Sound, reading, encode}
use Rattle.demands.specs.Vocabulary.{writing, buffer_after, tail, head, Arc, opposite, visit_links, links_with, root_of, roots}
use Rattle.demands.specs.Vocabulary.{component_of, link_with, used, To, Bridge, bridge, live_links, visited_from, entered_from}
use Rattle.demands.specs.Vocabulary.{earlier_from, used_from, round_from, Fewest, distance_from, trail_from, TrailByRule, nth, run, up_to}
use Rattle.demands.specs.Vocabulary.{back, FirstHop, up_by_label, in_all, all_rules, up_by, up_by_link, trail_of, round_of, trail_with}
use Rattle.demands.specs.Vocabulary.{trail_begin, in_table, round_with, AreTrails, Span, rewriting, rereading, trailing, rewritten}
use Rattle.demands.specs.Vocabulary.{laid_out, out_span}
use Rattle.demands.specs.Names.{ReadAs, ring_at, order_at, place_at, probe_run_at}

-- the labels of link l, and whether it is in service
pub record LabelsAre (p : Plant) (l : ℕ) : Type 0 where
  -- "arc label 2×l crosses link l from first end to second; 2×l + 1 crosses it back"
  pub crosses : (tail p (2 * l) ≡ (link_at p l).first) × (head p (2 * l) ≡ (link_at p l).second)
  pub crosses_back : (tail p (2 * l + 1) ≡ (link_at p l).second) × (head p (2 * l + 1) ≡ (link_at p l).first)
  -- each is opposite to the other
  pub opposites : (opposite (2 * l) ≡ 2 * l + 1) × (opposite (2 * l + 1) ≡ 2 * l)
  -- a link in service is one of the listing that is not marked
  pub in_service : T (live p l) ↔ ((l < p.count) × (is_out_of_service p l ≡ false))

-- the components of a plant: what is joined over links in service, and in which order they are planned (document 02, order 9)
pub record ComponentsAre (p : Plant) : Type 0 where
  -- switches are of one component exactly if a walk over links in service leads from one to the other
  pub joined : (x y : ℕ) → x < p.switches → y < p.switches → (root_of p x ≡ root_of p y) ↔ To p (Arc p) x y
  -- each has one root, which is a switch of it, and no other switch is a root
  pub only : (r : ℕ) → In r (roots p) ↔ ((r < p.switches) × (root_of p r ≡ r))
  pub own : (x : ℕ) → x < p.switches → In (root_of p x) (roots p) × To p (Arc p) (root_of p x) x
  pub once : Distinct (roots p)
  pub few : length (roots p) ≤ max_switches
  -- "the start's first, begun at the start, the rest by their lowest switch, begun there" (the first is read aloud)
  pub first : get_or (roots p) 0 0 ≡ p.start
  pub lowest : (i x : ℕ) → 1 ≤ i → i < length (roots p) → x < p.switches → To p (Arc p) (get_or (roots p) i 0) x → get_or (roots p) i 0 ≤ x
  pub rising : (i j : ℕ) → 1 ≤ i → i < j → j < length (roots p) → get_or (roots p) i 0 < get_or (roots p) j 0

-- the order of the visit from r, the root of a component: the list of the switches visited has the last one first
pub record VisitOrder (p : Plant) (r : ℕ) : Type 0 where
  -- it visits the switches of the component, each once, and r first
  pub each : (x : ℕ) → In x (visited_from p r).ord ↔ To p (Arc p) r x
  pub once : Distinct (visited_from p r).ord
  pub begins : (i : ℕ) → i + 1 ≡ length (visited_from p r).ord → get_or (visited_from p r).ord i 0 ≡ r
  -- the switch at place i was visited earlier than that at place j exactly if it stands after it
  pub earlier : (i j : ℕ) → i < length (visited_from p r).ord → j < length (visited_from p r).ord
      → T (earlier_from p r (get_or (visited_from p r).ord i 0) (get_or (visited_from p r).ord j 0)) ↔ (j < i)

-- "injection, order, probes and E belong to the island of the named switch" x: its trail and its round trail are those from its root (read
-- aloud), and its links are those in service that a walk from x leads to
pub record ComponentOf (p : Plant) (x : ℕ) : Type 0 where
  pub own_trail : trail_with p x ≡ trail_from p (root_of p x)
  pub own_round : round_with p x ≡ round_from p (root_of p x)
  pub own_link : (l : ℕ) → T (link_with p x l) ↔ (T (live p l) × To p (Arc p) x (link_at p l).first)

-- which arcs are in use, of an arc a of a link in service, by the visit from r, the root of its component
pub record InUse (p : Plant) (r a : ℕ) : Type 0 where
  -- "both arcs of a bridge are in use"
  pub of_bridge : Bridge p (a / 2) → T (used p a)
  -- "of an entered link that is no bridge, the arc from earlier to later visited"
  pub of_entered : (Bridge p (a / 2) → ⊥) → T (entered_from p r (a / 2)) → T (used p a) ↔ T (earlier_from p r (tail p a) (head p a))
  -- "of every other link, the arc from later to earlier"
  pub of_other : (Bridge p (a / 2) → ⊥) → (T (entered_from p r (a / 2)) → ⊥) → T (used p a) ↔ T (earlier_from p r (head p a) (tail p a))

-- the trail of the component with root r
pub record TrailIs (p : Plant) (r : ℕ) : Type 0 where
  -- it goes over the arcs in use that leave a switch of the component
  pub over : (a : ℕ) → T (used_from p r a) ↔ (T (used p a) × (root_of p (tail p a) ≡ r))
  -- "the fewest hops over arcs in use between every two switches"
  pub distances : (u v : ℕ) → u < p.switches → v < p.switches
      → Fewest p.switches (2 * p.count) (tail p) (head p) (used_from p r) u v (distance_from p r u v)
  -- "it goes to the nearest switch with an uncrossed outgoing arc in use and crosses that arc; ties go to the lowest label of such an arc.
  -- On the way, each hop takes the lowest label of an arc in use that lessens the distance left": so it goes by these distances, and no
  -- other list of labels does
  pub by_rule : TrailByRule p r (trail_from p r)
  pub only : (w : List ℕ) → TrailByRule p r w → w ≡ trail_from p r

-- what components, bridges, the visits and the trails of a plant are, in the papers' words
pub record PlanIs (p : Plant) : Type 0 where
  pub components : ComponentsAre p
  pub component_of_is : (x : ℕ) → x < p.switches → ComponentOf p x
  -- "a bridge is a link without which its two ends are not joined"
  pub bridges : (l : ℕ) → T (live p l) → T (bridge p l) ↔ Bridge p l
  -- "at each switch the links are tried by rising number, and a link to an unvisited switch is entered before the next is tried": so from
  -- each root. "The visit calls itself at most 64 deep": as deep as there are switches is enough, and leave to go deeper changes nothing
  pub visit : (r deep : ℕ) → In r (roots p) → p.switches ≤ deep
      → visit_links p (keep (live p) (range 0 p.count)) deep r (record { ord = r ∷ []; ent = [] }) ≡ visited_from p r
  pub visit_order : (r : ℕ) → In r (roots p) → VisitOrder p r
  -- the arcs in use: of links in service alone
  pub in_use : (a : ℕ) → Arc p a → InUse p (root_of p (tail p a)) a
  pub in_service : (a : ℕ) → T (used p a) → Arc p a
  -- each trail goes by the rule, and is a closed walk from its root over exactly the arcs in use of its component; all have at most 20,479
  -- hops
  pub each_trail : (r : ℕ) → In r (roots p) → TrailIs p r
  pub trails : AreTrails p
  -- "trails follow one another", and so do round trails (read aloud)
  pub one_after_another : (trail_of p ≡ flatten (map (trail_from p) (roots p))) × (round_of p ≡ flatten (map (round_from p) (roots p)))

-- what the run of a packet is, under any rules and by the labels that are up, those whose link is: from switch `at`, after n hops. Each
-- field is a case of its definition read aloud
pub record RunIs (rule : ℕ → ℕ → Bool) (up : ℕ → Bool) (hd : ℕ → ℕ) : Type 0 where
  -- "at a switch with a rule for the next label, and that label's link up, it crosses"
  pub crosses : (at n a : ℕ) (w : List ℕ) → rule at a ≡ true → up a ≡ true → run rule up hd at n (a ∷ w) ≡ run rule up hd (hd a) (suc n) w
  -- "with the list empty it has ended there"
  pub ends : (at n : ℕ) → run rule up hd at n [] ≡ record { ended = true; hops = n; last = at }
  -- "otherwise it is lost"
  pub no_rule : (at n a : ℕ) (w : List ℕ) → rule at a ≡ false → run rule up hd at n (a ∷ w) ≡ record { ended = false; hops = n; last = at }
  pub link_down : (at n a : ℕ) (w : List ℕ) → up a ≡ false → run rule up hd at n (a ∷ w) ≡ record { ended = false; hops = n; last = at }

-- link states: "one byte for each link tells its state: 0 down, any other value up"
pub record StatesAre (states : List ℕ) : Type 0 where
  pub down : (l : ℕ) → l < length states → (up_by states l ≡ false) ↔ (get_or states l 0 ≡ 0)
  pub up : (l : ℕ) → l < length states → (up_by states l ≡ true) ↔ (1 ≤ get_or states l 0)
  -- a link without a byte is down; with fewer bytes than links the calls refuse 13
  pub past : (l : ℕ) → length states ≤ l → up_by states l ≡ false
  -- both labels of a link are up if it is; in the round run a label is up if its own byte says so (read aloud)
  pub by_link_is : (a : ℕ) → up_by_link states a ≡ up_by states (a / 2)
  pub by_label_is : (a : ℕ) → up_by_label states a ≡ up_by states a

-- the rules that packets run under
pub record RulesAre (p : Plant) : Type 0 where
  -- the rule page: one for each arc in use, at the switch that it leaves (read aloud)
  pub table : (at a : ℕ) → (in_table p at a ≡ true) ↔ (T (used p a) × (tail p a ≡ at))
  -- "opposite arcs have rules of their own: 2×E rules in all" (the first is read aloud)
  pub all : (at a : ℕ) → (in_all p at a ≡ true) ↔ (T (live p (a / 2)) × (tail p a ≡ at))
  pub number : all_rules p ≡ 2 * live_links p

-- both parts that a span names stand between places i and j of a lent trail
pub record StandsIn (i j : ℕ) (b : Span) : Type 0 where
  pub stretch : (i ≤ b.from) × (b.from + b.len ≤ j)
  pub front : (i ≤ b.begin) × (b.begin + b.front ≤ j)

-- injection at switch x: its place, its ring, the order of links, and probes, all in the component of x
pub record InjectionIs (p : Plant) (x : ℕ) : Type 0 where
  -- the trail of the component stands among the trails of all, from the hops of those before it on
  pub stretch : take (length (trail_with p x)) (drop (trail_begin p (component_of p x)) (trail_of p)) ≡ trail_with p x
  -- "the place is the first hop of the trail that leaves it (0 if the trail is empty)"
  pub place : 1 ≤ links_with p x → FirstHop (tail p) x (trail_with p x) (place_at p x)
  pub place_empty : trail_with p x ≡ [] → place_at p x ≡ 0
  -- so it is in the whole lent trail, where the place is this number after the hops of the components before; and the outward labels of a
  -- probe, the whole ring among them, are answered as parts of it that begin there and stand within the stretch of the component
  pub place_lent : 1 ≤ links_with p x → FirstHop (tail p) x (trail_of p) (trail_begin p (component_of p x) + place_at p x)
  pub span_from : (m : ℕ) → (out_span p x m).from ≡ trail_begin p (component_of p x) + place_at p x
  pub span_within : (m : ℕ)
      → StandsIn (trail_begin p (component_of p x)) (trail_begin p (component_of p x) + length (trail_with p x)) (out_span p x m)
  -- "the ring is read from there to the trail's end, then from its front" (read aloud)
  pub ring : ring_at p x ≡ drop (place_at p x) (trail_with p x) ++ take (place_at p x) (trail_with p x)
  -- "the order of links is by first crossing from that place": each link of the component once, and the earlier in the order is the earlier
  -- crossed
  pub order_each : (l : ℕ) → In l (order_at p x) ↔ T (link_with p x l)
  pub order_once : Distinct (order_at p x)
  pub order_rises : (i j : ℕ) → 1 ≤ i → i < j → j ≤ links_with p x
      → length (up_to (nth (order_at p x) i) (ring_at p x)) < length (up_to (nth (order_at p x) j) (ring_at p x))
  -- E is how many these are
  pub links : links_with p x ≡ count p.count (link_with p x)
  -- "probe m, for 1 ≤ m < E, goes out up to the first crossing of the m-th link and then back over the opposite arcs", under the rules of
  -- all arcs (read aloud)
  pub probe : (up : ℕ → Bool) (m : ℕ) → m < links_with p x
      → probe_run_at p x up m
      ≡ run (in_all p) up (head p) x 0 (up_to (nth (order_at p x) m) (ring_at p x) ++ back (up_to (nth (order_at p x) m) (ring_at p x)))
  -- "the full check, m = E, is the whole ring", under the rule page alone (read aloud)
  pub full_check : (up : ℕ → Bool) → probe_run_at p x up (links_with p x) ≡ run (in_table p) up (head p) x 0 (ring_at p x)

pub record Demand2 : Type 0 where
  -- "it has at most 20,479 hops: 319 arcs × 64 + 63" (read aloud); a field of the plan has the rest
  pub most_hops : max_hops ≡ max_rules * max_switches + (max_switches - 1)
  -- what was read is written as the bytes that were read, and what was written is read as the plant that was written
  pub read_write : (s : List ℕ) (p : Plant) → ReadAs s p → encode p ≡ s
  pub write_read : (p : Plant) → Sound p → ReadAs (encode p) p
  -- so it is with the calls: the buffer begins with the listing, bytes past it stay, and they read it back
  pub rewrite : (s b : List ℕ) (p : Plant) → ReadAs s p → length s ≤ length b
      → (answer (rewriting s b) ≡ given (length s)) × (rewritten s b ≡ s ++ drop (length s) b)
  pub reread : (p : Plant) (b : List ℕ) → Sound p → length (encode p) ≤ length b
      → (answer (rereading p b) ≡ given p) × (buffer_after p b ≡ encode p ++ drop (length (encode p)) b)
  -- so it is with any plant value that the writer accepts: it answers the length n of the listing, and bytes past it stay. The type of a
  -- plant gives it as many link places as a plant can have links, and tags of 16 bits; with these, the writer accepts p exactly if p is
  -- sound and there is room for its listing, and the first n bytes are read back as p
  pub written : (p : Plant) (b : List ℕ) (n : ℕ) → answer (writing p b) ≡ given n
      → (length (encode p) ≡ n) × (n ≤ length b) × (buffer_after p b ≡ encode p ++ drop n b)
  pub accepts : (p : Plant) (b : List ℕ) → length p.links ≡ max_links → ((l : ℕ) → l < max_links → (link_at p l).tag < 2 ^ 16)
      → ((n : ℕ) × (answer (writing p b) ≡ given n)) ↔ (Sound p × (length (encode p) ≤ length b))
  pub written_read : (p : Plant) (b : List ℕ) (n : ℕ) → length p.links ≡ max_links → ((l : ℕ) → l < max_links → (link_at p l).tag < 2 ^ 16)
      → answer (writing p b) ≡ given n → ReadAs (take n (buffer_after p b)) p
  -- "the longest sound listing has 1,285 bytes": none has more, and one has as many
  pub longest : (s : List ℕ) (p : Plant) → answer (reading s) ≡ given p → length s ≤ 1285
  pub as_long : (p : Plant) × (length (encode p) ≡ 1285) × ReadAs (encode p) p
  -- what is read is sound
  pub sound : (s : List ℕ) (p : Plant) → ReadAs s p → Sound p
  -- the plan of a listing is document 01's, component by component
  pub plan : (s : List ℕ) (p : Plant) → ReadAs s p → PlanIs p
  -- "trails follow one another in the buffer": one with enough places begins with them, and places past them stay
  pub laid : (s b : List ℕ) (p : Plant) → answer (reading s) ≡ given p → length (trail_of p) ≤ length b
      → (answer (trailing s b) ≡ given (length (trail_of p))) × (laid_out s b ≡ trail_of p ++ drop (length (trail_of p)) b)
  -- labels, link states, packets, rules and probes are document 01's
  pub labels : (p : Plant) (l : ℕ) → LabelsAre p l
  pub states : (states : List ℕ) → StatesAre states
  pub run : (rule : ℕ → ℕ → Bool) (up : ℕ → Bool) (hd : ℕ → ℕ) → RunIs rule up hd
  pub rules : (p : Plant) → RulesAre p
  pub injection : (s : List ℕ) (p : Plant) → ReadAs s p → (x : ℕ) → x < p.switches → InjectionIs p x
