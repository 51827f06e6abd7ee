-- Document 02, order 9: plants in several islands, here components.
use Rattle.std.specs.Prelude.{◌≡◌, ◌∷◌, ◌++◌, ◌≤◌, ◌<◌, ◌+◌, ◌*◌}
use Rattle.demands.specs.Vocabulary.{true, List, [], map, ℕ, suc, length, get_or, In, sum_of}
use Rattle.demands.specs.Vocabulary.{Refusal, given, number_of, answer, Plant, live, tail, head, links_with, root_of, roots, component_of}
use Rattle.demands.specs.Vocabulary.{link_with, used, arcs_used, live_links, used_from, Crosses, bridges, switches_from, links_from}
use Rattle.demands.specs.Vocabulary.{bridges_from, arcs_used_from, round_from, trail_from, rules_in, table_in, trail_of, round_of, trail_with}
use Rattle.demands.specs.Vocabulary.{trail_begin, round_with, table_of, round_begin_of, zero_component, components_of, ring_span, span_of}
use Rattle.demands.specs.Vocabulary.{choice_of, Search, IsAllUp, summary_line, rule_lines, trail_line, triple, printed, parting, checking}
use Rattle.demands.specs.Vocabulary.{round_running, naming, beginning, out_span, link, choice_at}
use Rattle.demands.specs.Names.{ring_at, order_at, round_ring_at}

-- "9 never occurs": no refusal has its number, so that no call can answer it (read aloud)
abbrev pub NeverNine : Type 0
NeverNine = (k : Refusal) → number_of k ≡ 9 → ⊥

-- for every listing s that is read as a plant p: its components as a call answers them; `answers`, `number`, `each` and `zeros` are its
-- definition read aloud
pub record Parted (s : List ℕ) (p : Plant) : Type 0 where
  pub answers : answer (parting s) ≡ given (components_of p)
  -- how many, and for each its root, where its trail begins among the trails of all and its hops, and the same of its round trail; the
  -- places past them are zero
  pub number : (components_of p).count ≡ length (roots p)
  pub each : (i : ℕ) → i < length (roots p) → get_or (components_of p).list i zero_component ≡ record {
    first = get_or (roots p) i 0;
    begin = trail_begin p i;
    hops = length (trail_from p (get_or (roots p) i 0));
    round_begin = round_begin_of p i;
    round_hops = length (round_from p (get_or (roots p) i 0));
  }
  pub zeros : (i : ℕ) → length (roots p) ≤ i → get_or (components_of p).list i zero_component ≡ zero_component
  -- each begins where those before it end, the first at 0
  pub begin_first : (trail_begin p 0 ≡ 0) × (round_begin_of p 0 ≡ 0)
  pub begin_next : (i : ℕ) → i < length (roots p)
      → (trail_begin p (suc i) ≡ trail_begin p i + length (trail_from p (get_or (roots p) i 0)))
      × (round_begin_of p (suc i) ≡ round_begin_of p i + length (round_from p (get_or (roots p) i 0)))
  -- the component of a switch, by its number
  pub component : (x : ℕ) → x < p.switches → (component_of p x < length (roots p)) × (get_or (roots p) (component_of p x) 0 ≡ root_of p x)
  -- "bridges and totals are over all": the links, the bridges, the arcs in use and the switches of the components are those of the plant
  pub sums : (sum_of (map (links_from p) (roots p)) ≡ live_links p) × (sum_of (map (bridges_from p) (roots p)) ≡ bridges p)
      × (sum_of (map (arcs_used_from p) (roots p)) ≡ arcs_used p) × (sum_of (map (switches_from p) (roots p)) ≡ p.switches)

-- a link l that is not of the component of a switch x, be it of another or out of service
pub record Elsewhere (s : List ℕ) (p : Plant) (x l : ℕ) : Type 0 where
  -- "a link elsewhere or laid up is never its broken one"
  pub not_named : (w : List ℕ) (q : Search) → answer (naming s x w q) ≡ given (link l) → ⊥
  pub no_order : In l (order_at p x) → ⊥
  pub no_ring : Crosses l (ring_at p x) → ⊥
  pub no_round : Crosses l (round_ring_at p x) → ⊥

-- a switch x whose component has no links: "an empty ring", "All up", and a full check that ends at once
pub record NoLinks (s : List ℕ) (p : Plant) (x : ℕ) : Type 0 where
  pub ring : ring_at p x ≡ []
  pub all_up : (q : Search) × (answer (beginning s x) ≡ given q) × IsAllUp q
  pub full_check : (states : List ℕ) → p.count ≤ length states
      → answer (checking s x (trail_of p) states) ≡ given (record { ended = true; hops = 0; last = x })
  pub round_run_is : (spare states : List ℕ) → 2 * p.count ≤ length states
      → answer (round_running s x (round_of p ++ spare) states) ≡ given (record { ended = true; hops = 0; last = x })

-- "for a connected plant every earlier output remains", where s is its listing: its one component is the plant, and every definition that
-- this order changed is what it was, from the start and over all links in service
pub record OneComponent (s : List ℕ) (p : Plant) : Type 0 where
  pub one_root : roots p ≡ p.start ∷ []
  pub in_use : used p ≡ used_from p p.start
  pub trail : trail_of p ≡ trail_from p p.start
  pub round : round_of p ≡ round_from p p.start
  pub trail_with_is : (x : ℕ) → x < p.switches → (trail_with p x ≡ trail_of p) × (trail_begin p (component_of p x) ≡ 0)
  pub round_with_is : (x : ℕ) → x < p.switches → (round_with p x ≡ round_of p) × (round_begin_of p (component_of p x) ≡ 0)
  pub links : (x : ℕ) → x < p.switches → (links_with p x ≡ live_links p) × ((l : ℕ) → link_with p x l ≡ live p l)
  -- the forwarding table is that of the arcs in use from the start
  pub table : table_of p ≡ table_in (2 * p.count) (tail p) (head p) (used_from p p.start)
  -- outward labels stand where they stand in the one trail: for the full check, m = E, the ring, and for any other m those of probe m
  pub span_ring : (x : ℕ) → x < p.switches → out_span p x (live_links p) ≡ ring_span p (trail_of p) x
  pub span : (x m : ℕ) → x < p.switches → (m ≡ live_links p → ⊥) → out_span p x m ≡ span_of p (trail_of p) x m
  -- the shorter trail is chosen of the two whole ones
  pub choice : (x : ℕ) → x < p.switches → choice_at p x ≡ choice_of 0 (length (trail_of p)) 0 (length (round_of p))
  -- what `rules` prints for its listing is document 01's page: the numbers, the rules by rising label, and one trail line
  pub page : printed s
      ≡ summary_line p.switches (live_links p) (bridges p) (arcs_used_from p p.start) (length (trail_from p p.start))
      ++ (rule_lines (map triple (rules_in (2 * p.count) (tail p) (head p) (used_from p p.start))) ++ trail_line (trail_from p p.start))
