-- What calls answer whose answers no demand and no order speaks of, and what `rules` prints. Assumes a listing that is read as a plant where it says so.
use mathlib.Core.Path.{◌≡◌, refl, sym, ap, ap₂, ◌∙◌, subst}
use mathlib.Core.Logic.{◌⊎◌, inl, inr, ◌↔◌}
use mathlib.Core.Bool.{Bool, true, false}
use mathlib.Core.List.{List, [], ◌∷◌, ◌++◌, map, flatten, append-nil}
use Prim.Native.Nat.{ℕ, ◌≤◌, ◌<◌}
use native.Mathlib.Omega.{arith}
use borrow.Author.Tests.{le-ltb, eq-eqb, ne_eqb}
use lib.Dec.{T}
use lib.ListN.{length, get_or, get_or-eq_default}
use Rattle.lists.proofs.Numbers.{values-at, values_length}
use Rattle.lists.proofs.Padded.{padded-at, padded-length}
use Rattle.lists.proofs.Tests.{below?, not_both}
use Rattle.plant.specs.declared.Plant.{Plant}
use Rattle.plant.specs.Links.{live}
use Rattle.answers.specs.Answers.{given, refused}
use Rattle.answers.specs.Checks.{answer}
use Rattle.answers.proofs.Checks.{gives_so, goes_on}
use Rattle.codec.specs.Field.{Bytes}
use Rattle.limits.specs.Limits.{max_links}
use Rattle.limits.specs.Sound.{Sound}
use Rattle.listing.specs.Listing.{reading}
use Rattle.listing.proofs.RoundTrip.{decode_sound}
use Rattle.walks.specs.Graph.{Bridge, bridge, live_links, bridges}
use Rattle.walks.specs.Components.{links_with, roots}
use Rattle.walks.proofs.Tests.{bridge-live, bridge-is}
use Rattle.walks.proofs.Valid.{sound_valid}
use Rattle.routes.specs.Plants.{trail_from}
use Rattle.plan.specs.Plan.{trail_of, rules_of}
use Rattle.plan.proofs.Plan.{rules_by_label}
use Rattle.rings.specs.Order.{nth}
use Rattle.rings.specs.Probe.{up_to, outward}
use Rattle.rings.specs.Injection.{order_of}
use Rattle.order.specs.Order.{listed}
use Rattle.search.specs.declared.Search.{Search}
use Rattle.search.specs.declared.Search.TheVariants.{Checking, Halving, AllUp, Down}
use Rattle.search.specs.Search.{ended, wanted}
use Rattle.search.specs.Sound.{Good}
use Rattle.search.proofs.Sound.{good_sound}
use Rattle.search.proofs.Values.{same-state, is-all_up, is_down}
use Rattle.planning.specs.Planning.{planning_at}
use Rattle.planning.specs.Numbers.{numbers_of}
use Rattle.planning.proofs.Plans.{given-at}
use Rattle.judging.specs.Conditions.{search_unsound}
use Rattle.judging.proofs.Lent.{trail-own}
use Rattle.planner.specs.Calls.{bridge_flags, bridging, summing}
use Rattle.probing.specs.Calls.{order_in, ordering, out_labels, out_span, outward_in, outgoing, unknown, name_in, naming}
use Rattle.probing.proofs.Injection.{order-length, links-few}
use Rattle.probing.proofs.OutwardLabels.{outward-parts}
use Rattle.text.specs.Ascii.{ascii}
use Rattle.text.specs.Decimal.{decimal}
use Rattle.text.proofs.DecimalLaws.{decimal-last, decimal_more}
use Rattle.text.specs.Lines.{each, spaced, line, rule_line, trail_line, page_of}
use Rattle.printing.specs.Output.{triple, plant_output, output_of, printed}
use Rattle.demands.specs.Names.{ring_at, order_at}
use Rattle.demands.specs.Answered.{BridgeFlags, OrderHanded, Sends, Outward, Named, Answered, AnsweredAlways}

-- ---- lines

-- the bytes of each, one after the other, as one list
each-flat : {A : Type 0} (f : A → List ℕ) (xs : List A) → each f xs ≡ flatten (map f xs)
unfolding flatten
each-flat f [] = refl
each-flat f (x ∷ xs) = ap (λ (l : List ℕ). f x ++ l) (each-flat f xs)

each_map : {A B : Type 0} (f : B → List ℕ) (g : A → B) (xs : List A) → each f (map g xs) ≡ flatten (map (λ x. f (g x)) xs)
unfolding flatten
each_map f g [] = refl
each_map f g (x ∷ xs) = ap (λ (l : List ℕ). f (g x) ++ l) (each_map f g xs)

line_is : (word ns : List ℕ) → line word ns ≡ word ++ (flatten (map (λ n. 32 ∷ decimal n) ns) ++ (10 ∷ []))
unfolding line
line_is word ns = ap (λ (l : List ℕ). word ++ (l ++ (10 ∷ []))) (each-flat spaced ns)

refusal_prints : (s : List ℕ) (n : ℕ) → answer (reading s) ≡ refused n → printed s ≡ ascii "refused" ++ (32 ∷ (decimal n ++ (10 ∷ [])))
unfolding line
refusal_prints s n e = ap output_of e ∙ ap (λ (l : List ℕ). ascii "refused" ++ (32 ∷ (l ++ (10 ∷ [])))) (append-nil (decimal n))

pub answered_always : AnsweredAlways
answered_always = record { stretch = λ w b. refl; front = λ w b. refl; line_is = line_is; decimal_digit = decimal-last; decimal_more = decimal_more; refusal_prints = refusal_prints }

-- ---- a state that sends a probe

record Going (e : ℕ) (q : Search) (m : ℕ) : Type 0 where
  good : Good e q
  going : ended q ≡ false
  probe : wanted q ≡ m

sends : (e : ℕ) (q : Search) (m : ℕ) → Sends e q m → Going e q m
sends e q m (inl h) =
    subst (λ (r : Search). Going e r m) (sym (same-state q (Checking e h.0) h.1)) (record {
      good = (refl, h.3, omega (arith, h.2));
      going = refl;
      probe = sym h.4;
    })
sends e q m (inr h) =
    subst (λ (r : Search). Going e r m) (sym (same-state q (Halving h.0 h.1 h.2) h.3)) (record {
      good = (h.5, h.6, h.7, omega (arith, h.4));
      going = refl;
      probe = sym h.8;
    })

-- ---- the plant that was read

module _ (s : List ℕ) (bytes : Bytes s) (p : Plant) (g : answer (reading s) ≡ given p) where
  ok : Sound p
  ok = decode_sound s p bytes g

  -- ---- the bridges

  flag_at : (l : ℕ) → l < max_links → get_or (bridge_flags p) l false ≡ bridge p l
  unfolding bridge_flags
  flag_at l h = values-at (bridge p) false max_links l h

  flags_long : length (bridge_flags p) ≡ max_links
  unfolding bridge_flags
  flags_long = values_length (bridge p) 0 max_links

  bridge_both : (l : ℕ) → T (bridge p l) ↔ (T (live p l) × Bridge p l)
  bridge_both l = (
    λ t. (bridge-live p l t, (bridge-is p (sound_valid p ok) l (bridge-live p l t)).0 t),
    λ h. (bridge-is p (sound_valid p ok) l h.0).1 h.1,
  )

  not-bridge : (l : ℕ) → p.count ≤ l → bridge p l ≡ false
  unfolding bridge live
  not-bridge l h = rw (le-ltb l p.count h) refl

  flags_are : BridgeFlags p (bridge_flags p)
  flags_are = record {
    flag_places = flags_long;
    flag_set = λ l h. subst (λ (b : Bool). T b ↔ (T (live p l) × Bridge p l)) (sym (flag_at l (omega (arith, ok.few_links)))) (bridge_both l);
    flag_past = λ l h. past l h (below? l max_links);
  }
    where
      past : (l : ℕ) → p.count ≤ l → (l < max_links) ⊎ (max_links ≤ l) → get_or (bridge_flags p) l false ≡ false
      past l h (inl k) = flag_at l k ∙ not-bridge l h
      past l h (inr k) = get_or-eq_default (bridge_flags p) false {n = l} (omega (arith, flags_long))

  -- ---- what `rules` prints

  prints : plant_output p
      ≡ line (ascii "plant") (p.switches ∷ live_links p ∷ bridges p ∷ length (rules_of p) ∷ length (trail_of p) ∷ [])
      ++ (flatten (map (λ r. line (ascii "rule") (r.from ∷ r.label ∷ r.to ∷ [])) (rules_of p))
      ++ flatten (map (λ r. line (ascii "trail") (trail_from p r)) (roots p)))
  unfolding plant_output page_of
  prints =
      ap₂ (λ (a : ℕ) (l : List ℕ). line (ascii "plant") (p.switches ∷ live_links p ∷ bridges p ∷ a ∷ length (trail_of p) ∷ []) ++ l)
      (sym (rules_by_label p))
      (ap₂ (λ (u v : List ℕ). u ++ v) (each_map (λ r. rule_line r.0 r.1 r.2) triple (rules_of p)) (each_map trail_line (trail_from p) (roots p)))

  -- ---- from a switch

  module _ (x : ℕ) (x_in : x < p.switches) where
    order_handed : OrderHanded p x (listed (order_at p x))
    unfolding listed
    order_handed = record {
      order_count = order-length p ok x x_in;
      order_places = padded-length max_links 0 (order_at p x) ∙ omega (arith, order-length p ok x x_in, links-few p ok x x_in);
      order_each = λ i h. padded-at max_links 0 (order_at p x) i;
      order_zeros = λ i h. padded-at max_links 0 (order_at p x) i ∙ get_or-eq_default (order_at p x) 0 {n = i} (omega (arith, order-length p ok x x_in));
    }

    ordered : answer (ordering s x (trail_of p)) ≡ given (listed (order_at p x))
    unfolding ordering order_in
    ordered = goes_on (planning_at s x) (order_in x (trail_of p)) p (given-at s x p g x_in) ∙ rw (trail-own p) refl

    -- a state that is sound for the links of the component is not refused
    fine : (q : Search) → Good (links_with p x) q → search_unsound (links_with p x) q ≡ false
    unfolding search_unsound
    fine q h = let r = good_sound (links_with p x) q (links-few p ok x x_in) h in rw (r.0, r.1) refl

    out : (q : Search) → Good (links_with p x) q → ended q ≡ false → answer (outgoing s x (trail_of p) q) ≡ given (out_span p x (wanted q))
    unfolding outgoing outward_in
    out q h e = goes_on (planning_at s x) (outward_in x (trail_of p) q) p (given-at s x p g x_in) ∙ rw (trail-own p, fine q h, e) refl

    probe : (m : ℕ) → m < links_with p x → out_labels p x m ≡ up_to (nth (order_at p x) m) (ring_at p x)
    unfolding out_labels outward order_of
    probe m h = rw (ne_eqb m (links_with p x) (λ e. omega (arith, e))) refl

    full_check : out_labels p x (links_with p x) ≡ ring_at p x
    unfolding out_labels
    full_check = rw (eq-eqb (links_with p x) (links_with p x) refl) refl

    outward-is : Outward s p x
    outward-is = record {
      probe = probe;
      full_check = full_check;
      parts = λ q m h. let r = sends (links_with p x) q m h in (
        out_span p x (wanted q),
        out q r.good r.going,
        outward-parts s bytes x (trail_of p) q (answer (outgoing s x (trail_of p) q)) refl p (out_span p x (wanted q)) (given-at s x p g x_in) (out q r.good r.going) ∙ ap (out_labels p x) r.probe,
      );
    }

    named : (q : Search) → Good (links_with p x) q → answer (naming s x (trail_of p) q) ≡ given (name_in x (trail_of p) q p).result
    unfolding naming name_in
    named q h = goes_on (planning_at s x) (name_in x (trail_of p) q) p (given-at s x p g x_in) ∙ rw (trail-own p, fine q h) refl

    named_is : Named s p x
    unfolding name_in
    named_is = record {
      down = λ q k d h l. ap (λ (r : Search). answer (naming s x (trail_of p) r)) (is_down q k d) ∙ named (Down k) (h, l);
      all_up = λ q d. ap (λ (r : Search). answer (naming s x (trail_of p) r)) (is-all_up q d) ∙ named AllUp tt;
      not_ended = λ q m h. let r = sends (links_with p x) q m h in named q r.good ∙ go q r.going;
    }
      where
        go : (q : Search) → ended q ≡ false → given (name_in x (trail_of p) q p).result ≡ given unknown
        go (Checking count lost) e = refl
        go (Halving low high lost) e = refl
        go AllUp e = absurd (not_both true refl e)
        go (Down place) e = absurd (not_both true refl e)

  summarized : answer (summing s)
      ≡ given (record { switches = p.switches; links = live_links p; bridges = bridges p; rules = length (rules_of p); hops = length (trail_of p) })
  unfolding summing numbers_of
  summarized =
      gives_so (reading s) numbers_of p g
      ∙ ap (λ (a : ℕ). given (record { switches = p.switches; links = live_links p; bridges = bridges p; rules = a; hops = length (trail_of p) })) (sym (rules_by_label p))

  pub answered : Answered s p
  unfolding bridging
  answered = record {
    find_bridges = (bridge_flags p, gives_so (reading s) bridge_flags p g, flags_are);
    summarize = summarized;
    order_of_links = λ x h. (listed (order_at p x), ordered x h, order_handed x h);
    outward_labels = outward-is;
    link_named = named_is;
    rules_prints = ap output_of g ∙ prints;
  }
