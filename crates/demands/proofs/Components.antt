-- The promises of document 02's order 9: what the components of a plant are, how a call answers them, links elsewhere, components without links, and a plant of one component.
-- Assumes a sound plant.
use mathlib.Core.Path.{◌≡◌, refl, sym, ap, ◌∙◌, subst}
use mathlib.Core.Logic.{inl, inr, ⊎_elim, ◌↔◌}
use mathlib.Core.Bool.{Bool}
use mathlib.Core.List.{List, [], ◌∷◌, map}
use Prim.Native.Nat.{ℕ, zero, suc, ◌+◌, ◌*◌, ◌/◌, ◌≤◌, ◌<◌}
use native.Mathlib.Nat.{add-zero}
use native.Mathlib.Omega.{arith}
use borrow.Author.Tests.{le-ltb, eq-eqb, ne_eqb}
use lib.Dec.{T, eqb}
use lib.ListN.{length, get_or, get_or-eq_default}
use Rattle.lists.specs.Members.{In}
use Rattle.lists.specs.Tests.{choose}
use Rattle.lists.specs.Numbers.{range, keep}
use Rattle.lists.proofs.Members.{get_d_in}
use Rattle.lists.proofs.Numbers.{range_in, keep_in, values-at, values_length}
use Rattle.lists.proofs.Padded.{padded-at}
use Rattle.lists.proofs.Rising.{keep-rises}
use Rattle.lists.proofs.Tests.{T-same, below?, and_left, and_both, eq→eqb}
use Rattle.plant.specs.declared.Plant.{Plant}
use Rattle.plant.specs.Links.{first, live}
use Rattle.limits.specs.Limits.{max_switches}
use Rattle.limits.specs.Sound.{Sound}
use Rattle.answers.specs.declared.Refusal.TheVariants as is
use Rattle.answers.specs.Answers.{given}
use Rattle.answers.specs.Checks.{answer}
use Rattle.answers.proofs.Checks.{gives_so, goes_on}
use Rattle.codec.specs.Field.{Bytes}
use Rattle.listing.specs.Listing.{reading}
use Rattle.listing.proofs.RoundTrip.{decode_sound}
use Rattle.walks.specs.Arcs.{tail, head, Arc, Valid}
use Rattle.walks.specs.Graph.{To, Crosses, reached_from, live_links}
use Rattle.walks.specs.Components.{root_of, begun_at, roots, component_of, link_with, links_with}
use Rattle.walks.proofs.Labels.{even_half, odd_half}
use Rattle.walks.proofs.Components as components
use Rattle.walks.proofs.Valid.{sound_valid}
use Rattle.walks.proofs.Visited.{visited_finds}
use Rattle.table.specs.Rules.{table_in}
use Rattle.plan.specs.Plan.{Connected, trail_of, trail_with, round_of, round_with, round_begin_of, in_table}
use Rattle.plan.proofs.Connected as connected
use Rattle.plan.proofs.Trails as trails
use Rattle.plan.proofs.Rounds as rounds
use Rattle.rings.specs.Rules.{up_by_link, in_all}
use Rattle.rings.specs.Round.{up_by_label, round_run}
use Rattle.rings.specs.Injection.{ring_of, order_of}
use Rattle.rings.proofs.Packet.{run_none}
use Rattle.rings.proofs.Injection.{ring-labels}
use Rattle.planning.specs.Components.{zero_component, components_with, component_at, components_of}
use Rattle.planning.specs.Planning.{planning_at}
use Rattle.planning.proofs.Plans.{given-at}
use Rattle.judging.specs.Conditions.{states_short}
use Rattle.judging.proofs.Lent.{trail-own}
use Rattle.planner.specs.Calls.{parting}
use Rattle.search.specs.Search.{new_search}
use Rattle.search.specs.Values.{IsAllUp}
use Rattle.order.specs.declared.Span.{Span}
use Rattle.order.specs.Span.{ring_span, span_of, shifted_by}
use Rattle.choosing.specs.Choice.{choice_of}
use Rattle.printing.specs.Output.{output_of}
use Rattle.printing.proofs.Printed.{printed-one}
use Rattle.probing.specs.Calls.{choice_at, own_span, out_span, check_in, checking, beginning}
use Rattle.probing.proofs.Injection.{trail-links, order-links, order-length, round-links}
use Rattle.probing.proofs.NamedLinks.{naming-within}
use Rattle.demands.specs.Demand2.{ComponentsAre}
use Rattle.demands.specs.Order9.{NeverNine, Parted, Elsewhere, NoLinks, OneComponent}
use Rattle.demands.proofs.Packets.{in_long, no_ring}
use Rattle.demands.proofs.Rounds.{taken-run}

-- ---- the number 9

pub never_nine : NeverNine
never_nine is.MapMissing e = omega arith
never_nine is.MapUndefined e = omega arith
never_nine is.FieldMissing e = omega arith
never_nine is.FieldRedundant e = omega arith
never_nine is.ValueOutOfRange e = omega arith
never_nine is.EndOutOfRange e = omega arith
never_nine is.SelfLink e = omega arith
never_nine is.BytesRemain e = omega arith
never_nine is.TrailBufferShort e = omega arith
never_nine is.SwitchOutOfRange e = omega arith
never_nine is.TrailDiffers e = omega arith
never_nine is.StatesShort e = omega arith
never_nine is.SearchUnsound e = omega arith
never_nine is.SearchEnded e = omega arith
never_nine is.ListingBufferShort e = omega arith
never_nine is.SpareTooLarge e = omega arith
never_nine is.BuyingPageUnfit e = omega arith
never_nine is.ConsoleOutOfRange e = omega arith
never_nine is.SetOutOfRange e = omega arith
never_nine is.SwitchOutsideSet e = omega arith

-- ---- what they are

module _ (p : Plant) (ok : Sound p) where
  valid : Valid p
  valid = sound_valid p ok

  reach : (x y : ℕ) → x < p.switches → T (reached_from p x y) ↔ To p (Arc p) x y
  reach x y h = visited_finds p valid x h y

  begins : get_or (roots p) 0 0 ≡ p.start
  unfolding roots
  begins = refl

  -- the later ones by rising number
  rising : (i j : ℕ) → 1 ≤ i → i < j → j < length (roots p) → get_or (roots p) i 0 < get_or (roots p) j 0
  unfolding roots
  rising zero j h k l = absurd (omega arith)
  rising (suc i) zero h k l = absurd (omega arith)
  rising (suc i) (suc j) h k l = keep-rises (begun_at p) 0 p.switches i j (omega arith) (omega arith)

  lowest : (i x : ℕ) → 1 ≤ i → i < length (roots p) → x < p.switches → To p (Arc p) (get_or (roots p) i 0) x → get_or (roots p) i 0 ≤ x
  unfolding roots
  lowest zero x h k l t = absurd (omega arith)
  lowest (suc i) x h k l t =
      let r = get_or (keep (begun_at p) (range 0 p.switches)) i 0 in
      let q = keep_in (begun_at p) r (range 0 p.switches) (get_d_in (keep (begun_at p) (range 0 p.switches)) i (omega arith)) in
      let r_in : r < p.switches = omega (arith, range_in r 0 p.switches q.0) in
      let new = ((components.begun-is p valid ok.start_in r r_in).0 q.1).1 in
      ⊎_elim (λ less. absurd (new x less (components.joined_back p valid ok.start_in r x r_in ((reach r x r_in).1 t)))) (λ le. le) (below? x r)

  pub components_are : ComponentsAre p
  components_are = record {
    joined = λ x y h i. (
      λ e. (reach x y h).0 (components.joined_on p valid ok.start_in x (root_of p x) y h (components.joined_back p valid ok.start_in (root_of p x) x (components.root_in p valid ok.start_in x h) (components.root_reaches p valid ok.start_in x h))
          (subst (λ (r : ℕ). T (reached_from p r y)) (sym e) (components.root_reaches p valid ok.start_in y i))),
      λ t. components.root-same p valid ok.start_in x y h ((reach x y h).1 t),
    );
    only = components.in_roots p valid ok.start_in;
    own = λ x h. (
      components.root-listed p valid ok.start_in x h,
      (reach (root_of p x) x (components.root_in p valid ok.start_in x h)).0 (components.root_reaches p valid ok.start_in x h),
    );
    once = components.roots_distinct p valid ok.start_in;
    few = omega (arith, components.roots_few p valid ok.start_in, ok.few_switches);
    first = begins;
    lowest = lowest;
    rising = rising;
  }

-- ---- a plant of one component

-- a span that is not shifted
shift_none : (b : Span) → shifted_by b 0 ≡ b
unfolding shifted_by
shift_none b = λ i. record { from = add-zero b.from i; len = b.len; begin = add-zero b.begin i; front = b.front }

module _ (s : List ℕ) (p : Plant) (g : answer (reading s) ≡ given p) (ok : Sound p) (con : Connected p) where
  -- where it does not matter what is before
  own-span : (x m : ℕ) → x < p.switches → out_span p x m ≡ choose (eqb m (live_links p)) (ring_span p (trail_of p) x) (span_of p (trail_of p) x m)
  unfolding out_span own_span
  own-span x m h =
      ap (shifted_by (own_span p x m)) (connected.trail-begin p ok con x h) ∙ shift_none (own_span p x m)
      ∙ ap (λ (e : ℕ). choose (eqb m e) (ring_span p (trail_with p x) x) (span_of p (trail_with p x) x m)) (connected.links_with_lem p ok con x h)
      ∙ ap (λ (w : List ℕ). choose (eqb m (live_links p)) (ring_span p w x) (span_of p w x m)) (connected.trail_with_is p ok con x h)

  choice : (x : ℕ) → x < p.switches → choice_at p x ≡ choice_of 0 (length (trail_of p)) 0 (length (round_of p))
  choice x h =
      ap (λ (i : ℕ). choice_of i (length (trail_with p x)) (round_begin_of p (component_of p x)) (length (round_with p x))) (connected.trail-begin p ok con x h)
      ∙ ap (λ (j : ℕ). choice_of 0 (length (trail_with p x)) j (length (round_with p x))) (connected.round-begin p ok con x h)
      ∙ ap (λ (w : List ℕ). choice_of 0 (length w) 0 (length (round_with p x))) (connected.trail_with_is p ok con x h)
      ∙ ap (λ (w : List ℕ). choice_of 0 (length (trail_of p)) 0 (length w)) (connected.round_with_is p ok con x h)

  pub one_component : OneComponent s p
  one_component = record {
    one_root = components.roots-one p (sound_valid p ok) ok.start_in con;
    in_use = connected.used-one p ok con;
    trail = connected.trail-one p ok con;
    round = connected.round-one p ok con;
    trail_with_is = λ x h. (connected.trail_with_is p ok con x h, connected.trail-begin p ok con x h);
    round_with_is = λ x h. (connected.round_with_is p ok con x h, connected.round-begin p ok con x h);
    links = λ x h. (connected.links_with_lem p ok con x h, same x h);
    table = ap (λ (t : ℕ → Bool). table_in (2 * p.count) (tail p) (head p) t) (connected.used-one p ok con);
    span_ring = λ x h. own-span x (live_links p) h ∙ rw (eq-eqb (live_links p) (live_links p) refl) refl;
    span = λ x m h n. own-span x m h ∙ rw (ne_eqb m (live_links p) n) refl;
    choice = choice;
    page = ap output_of g ∙ printed-one p ok con;
  }
    where
      same : (x : ℕ) → x < p.switches → (l : ℕ) → link_with p x l ≡ live p l
      same x h l =
          T-same (link_with p x l) (live p l) (and_left (live p l) (eqb (root_of p (first p l)) (root_of p x)))
          (λ t. and_both (live p l) (eqb (root_of p (first p l)) (root_of p x)) t (eq→eqb (components.root-one p (sound_valid p ok) ok.start_in con (first p l) ((sound_valid p ok).first_in_is l t)
          ∙ sym (components.root-one p (sound_valid p ok) ok.start_in con x h))))

-- ---- the calls

module _ (s : List ℕ) (b : Bytes s) (p : Plant) (g : answer (reading s) ≡ given p) where
  ok : Sound p
  ok = decode_sound s p b g

  each : (i : ℕ) → i < length (roots p) → get_or (components_of p).list i zero_component ≡ component_at p i
  unfolding components_of components_with
  each i h =
      padded-at max_switches zero_component (map (component_at p) (range 0 (length (roots p)))) i ∙ values-at (component_at p) zero_component (length (roots p)) i h

  zeros : (i : ℕ) → length (roots p) ≤ i → get_or (components_of p).list i zero_component ≡ zero_component
  unfolding components_of components_with
  zeros i h =
      padded-at max_switches zero_component (map (component_at p) (range 0 (length (roots p)))) i
      ∙ get_or-eq_default (map (component_at p) (range 0 (length (roots p)))) zero_component {n = i} (omega (arith, values_length (component_at p) 0 (length (roots p))))

  number : (components_of p).count ≡ length (roots p)
  unfolding components_of components_with
  number = values_length (component_at p) 0 (length (roots p))

  pub parted : Parted s p
  unfolding parting component_at
  parted =
      let v = sound_valid p ok in
      record {
        answers = gives_so (reading s) components_of p g;
        number = number;
        each = each;
        zeros = zeros;
        begin_first = (trails.begin_first p, rounds.begin_first p);
        begin_next = λ i h. (trails.begin_next p i h, rounds.begin_next p i h);
        component = λ x h. (components.component_in p v ok.start_in x h, components.component-root p v ok.start_in x h);
        sums = (components.links-sum p v ok.start_in, components.bridges-sum p v ok.start_in, components.arcs-sum p v ok.start_in, components.switches-sum p v ok.start_in);
      }

  module _ (x : ℕ) (x_in : x < p.switches) where
    -- a link elsewhere
    module _ (l : ℕ) (away : T (link_with p x l) → ⊥) where
      no_crossing : (w : List ℕ) → ((a : ℕ) → In a w → T (link_with p x (a / 2))) → Crosses l w → ⊥
      no_crossing w f (inl i) = away (subst (λ (k : ℕ). T (link_with p x k)) (even_half l) (f (2 * l) i))
      no_crossing w f (inr i) = away (subst (λ (k : ℕ). T (link_with p x k)) (odd_half l) (f (2 * l + 1) i))

      pub elsewhere : Elsewhere s p x l
      elsewhere = record {
        not_named = λ w q e. away (naming-within s p g ok x w q l e);
        no_order = λ i. away ((order-links p ok x x_in l).0 i);
        no_ring = no_crossing (ring_of p (trail_with p x) x) (λ a i. trail-links p ok x x_in a ((ring-labels p (trail_with p x) x a).0 i));
        no_round = no_crossing (ring_of p (round_with p x) x) (λ a i. round-links p ok x x_in a ((ring-labels p (round_with p x) x a).0 i));
      }

    -- a component without links
    module _ (none : links_with p x ≡ 0) where
      empty : ring_of p (trail_with p x) x ≡ []
      empty = no_ring p ok x x_in none

      up_at_once : IsAllUp (new_search (links_with p x))
      unfolding new_search
      up_at_once = rw none refl

      -- its round trail has no hop either
      empty_round : ring_of p (round_with p x) x ≡ []
      empty_round = go (ring_of p (round_with p x) x) (λ a i. (order-links p ok x x_in (a / 2)).1 (round-links p ok x x_in a ((ring-labels p (round_with p x) x a).0 i)))
        where
          go : (v : List ℕ) → ((a : ℕ) → In a v → In (a / 2) (order_of p (trail_with p x) x)) → v ≡ []
          go [] f = refl
          go (a ∷ v) f = absurd (omega (arith, order-length p ok x x_in, none, in_long (a / 2) (order_of p (trail_with p x) x) (f a (inl refl))))

      pub no_links_is : NoLinks s p x
      unfolding beginning checking check_in states_short round_run
      no_links_is = record {
        ring = empty;
        all_up = (new_search (links_with p x), gives_so (planning_at s x) (λ q. new_search (links_with q x)) p (given-at s x p g x_in), up_at_once);
        full_check = λ states h.
            goes_on (planning_at s x) (check_in x (trail_of p) states) p (given-at s x p g x_in) ∙ rw (trail-own p, le-ltb (length states) p.count h, empty) (ap given (run_none (in_table p) (up_by_link states) (head p) x 0));
        round_run_is = λ spare states h. taken-run s b p g x x_in spare states h ∙ rw empty_round (ap given (run_none (in_all p) (up_by_label states) (head p) x 0));
      }
