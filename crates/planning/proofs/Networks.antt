-- The network of a plant from the root of each component, by arrays that tell the ends of its arcs and the arcs in use of all components: it keeps the limits, it is strongly
-- connected, the shared chains and distances are its own, and its trail is the component's. Where chains and distances are of some part, it is the one that is reached. Assumes a
-- sound plant.
use mathlib.Core.Path.{◌≡◌, refl, sym, ap, ◌∙◌, subst}
use mathlib.Core.Logic.{◌⊎◌, inl, inr, ∥∥₁_elim}
use mathlib.Core.Bool.{Bool, false}
use mathlib.Core.List.{List, map}
use Prim.Native.Nat.{ℕ, suc, ◌*◌, ◌≤◌, ◌<◌}
use native.Mathlib.Bridge.{le_prop}
use native.Mathlib.Nat.{ℕ_set}
use native.Mathlib.Omega.{arith}
use lib.Dec.{T}
use lib.ListN.{get_or-eq_default}
use Rattle.lists.specs.Arrays.{flag, at}
use Rattle.lists.specs.Members.{In}
use Rattle.lists.specs.Numbers.{range}
use Rattle.lists.specs.Count.{count}
use Rattle.lists.proofs.Numbers.{values-at, values_length}
use Rattle.lists.proofs.Tests.{below?, not_true_false, true_T}
use Rattle.plant.specs.declared.Plant.{Plant}
use Rattle.limits.specs.Limits.{max_links, max_rules}
use Rattle.limits.specs.Sound.{Sound}
use Rattle.walks.specs.Arcs.{tail, head, Valid}
use Rattle.walks.specs.Graph.{reached_from, used_from, arcs_used_from}
use Rattle.walks.specs.Components.{roots, used}
use Rattle.walks.proofs.Labels.{tail_in, head_in}
use Rattle.walks.proofs.Orientation.{from_arc}
use Rattle.walks.proofs.Components.{used_arc, used_in, in_roots}
use Rattle.walks.proofs.Limits.{few_arcs}
use Rattle.walks.proofs.Valid.{sound_valid}
use Rattle.routes.specs.Meaning.{Strong}
use Rattle.routes.specs.Plants.{trail_from}
use Rattle.routes.specs.Trail.{trail}
use Rattle.routes.proofs.Plants.{used-below, part-strong}
use Rattle.arcs.specs.Net.{Ends, Within}
use Rattle.arcs.specs.Chains.{TailsIn, Chained, following}
use Rattle.arcs.specs.Table.{cell, distance_in, distances_in, trail_in}
use Rattle.arcs.specs.Parts as network
use Rattle.arcs.specs.Flags.{Flags}
use Rattle.arcs.proofs.Ways.{entry_in}
use Rattle.planning.specs.Plans.{net_of, used_flags}
use Rattle.planning.proofs.Shared.{same_part, following-same, dist_same, dist-apart}

module _ (p : Plant) (sound : Sound p) where
  ok : Valid p
  ok = sound_valid p sound

  -- the flags of the arcs in use from a root tell them
  pub flags_from : (r : ℕ) → flag (used_flags p r) ≡ used_from p r
  unfolding used_flags
  flags_from r = λ j a. tells a (below? a (2 * max_links)) j
    where
      tells : (a : ℕ) → (a < 2 * max_links) ⊎ (2 * max_links ≤ a) → flag (map (used_from p r) (range 0 (2 * max_links))) a ≡ used_from p r a
      tells a (inl h) = values-at (used_from p r) false (2 * max_links) a h
      tells a (inr h) =
          get_or-eq_default (map (used_from p r) (range 0 (2 * max_links))) false {n = a} (omega (arith, values_length (used_from p r) 0 (2 * max_links)))
          ∙ sym (not_true_false (used_from p r a) (λ e. omega (arith, used-below p r a (true_T (used_from p r a) e), sound.few_links)))

  module _ (tails heads : List ℕ) (ends : Ends p tails heads) where
    -- what holds of the plant's arcs and a test of labels holds of the arrays
    by_arrays : (flags : List Bool) (test : ℕ → Bool) → flag flags ≡ test → (P : (ℕ → ℕ) → (ℕ → ℕ) → (ℕ → Bool) → Type 0) → P (tail p) (head p) test → P (at tails) (at heads) (flag flags)
    by_arrays flags test e P h =
        subst (λ (t : ℕ → ℕ). P t (at heads) (flag flags)) (sym ends.tails_are)
        (subst (λ (t : ℕ → ℕ). P (tail p) t (flag flags)) (sym ends.heads_are) (subst (λ (o : ℕ → Bool). P (tail p) (head p) o) (sym e) h))

    -- flags of arcs of the plant keep the limits
    within_of : (flags : List Bool) (test : ℕ → Bool) → flag flags ≡ test → ((a : ℕ) → T (test a) → (tail p a < p.switches) × (head p a < p.switches)) → (r : ℕ) → r < p.switches
        → Within (net_of p r) tails heads flags
    within_of flags test e ins r r_in = record {
      few_switches = sound.few_switches;
      few_labels = omega (arith, sound.few_links);
      root_in = r_in;
      tail_in = by_arrays flags test e (λ tl hd u. (a : ℕ) → a < 2 * p.count → T (u a) → tl a < p.switches) (λ a h t. (ins a t).0);
      head_in = by_arrays flags test e (λ tl hd u. (a : ℕ) → a < 2 * p.count → T (u a) → hd a < p.switches) (λ a h t. (ins a t).1);
    }

    -- the part that is reached from a switch, by the arcs in use from there
    module _ (r : ℕ) (r_in : r < p.switches) where
      own-within : Within (net_of p r) tails heads (used_flags p r)
      own-within = within_of (used_flags p r) (used_from p r) (flags_from r) (λ a t. (tail_in p ok a (from_arc p r a t), head_in p ok a (from_arc p r a t))) r r_in

      own-strong : Strong p.switches (2 * p.count) (at tails) (at heads) (flag (used_flags p r)) r (reached_from p r)
      own-strong = by_arrays (used_flags p r) (used_from p r) (flags_from r) (λ tl hd u. Strong p.switches (2 * p.count) tl hd u r (reached_from p r)) (part-strong p ok r r_in)

      own-few : count (2 * p.count) (flag (used_flags p r)) ≤ max_rules
      unfolding arcs_used_from
      own-few = by_arrays (used_flags p r) (used_from p r) (flags_from r) (λ tl hd u. count (2 * p.count) u ≤ max_rules) (few_arcs p sound r r_in)

      -- where there are parts of a plan, they tell of the switches that are reached
      module _ {first after : List ℕ} {t : List (List ℕ)} (some : ∥ network.Parts (net_of p r) tails heads (used_flags p r) first after t ∥₁) where
        pub parts_of : network.Parts (net_of p r) tails heads (used_flags p r) first after t
        parts_of = record {
          within = own-within;
          few_arcs = own-few;
          part = reached_from p r;
          strong = own-strong;
          firsts = λ x h. ∥∥₁_elim some (ℕ_set _ _) (λ q. q.firsts x (same_part own-strong q.strong x h));
          afters = λ a l h. ∥∥₁_elim some (ℕ_set _ _) (λ q. q.afters a l h);
          cells = λ u v h i. ∥∥₁_elim some (ℕ_set _ _) (λ q. q.cells u v (same_part own-strong q.strong u h) (same_part own-strong q.strong v i));
          apart = λ v h out. ∥∥₁_elim some le_prop (λ q. q.apart v h (λ i. out (same_part q.strong own-strong v i)));
        }

    module _ (all : List Bool) (flags : Flags (2 * max_links) (used p) all) where
      all-is : flag all ≡ used p
      all-is = λ j a. flags.tells a j

      pub all-within : (r : ℕ) → r < p.switches → Within (net_of p r) tails heads all
      all-within = within_of all (used p) all-is (λ a t. (tail_in p ok a (used_arc p a t), head_in p ok a (used_arc p a t)))

      pub all-tails : (r : ℕ) → r < p.switches → (2 * p.count ≤ 2 * max_links) × TailsIn (2 * p.count) tails all
      all-tails r h = (omega (arith, sound.few_links), λ a l t. omega (arith, (all-within r h).tail_in a l t, sound.few_switches))

      module _ (first after : List ℕ) (chained : Chained (2 * p.count) (at tails) (flag all) first after) (t : List (List ℕ))
          (table : t ≡ distances_in (net_of p p.start) tails heads all) (r : ℕ) (listed : In r (roots p))
        where
          r_in : r < p.switches
          r_in = ((in_roots p ok sound.start_in r).0 listed).0

          abbrev own : List Bool
          own = used_flags p r

          strong : Strong p.switches (2 * p.count) (at tails) (at heads) (flag own) r (reached_from p r)
          strong = own-strong r r_in

          same : (a : ℕ) → T (reached_from p r (at tails a)) → flag all a ≡ flag own a
          same a h =
              flags.tells a ∙ used_in p ok sound.start_in r a listed (subst (λ (f : ℕ → ℕ). T (reached_from p r (f a))) ends.tails_are h)
              ∙ sym (ap (λ (f : ℕ → Bool). f a) (flags_from r))

          inside : (a : ℕ) → T (flag all a) → at tails a < p.switches
          inside =
              by_arrays all (used p) all-is (λ tl hd u. (a : ℕ) → T (u a) → tl a < p.switches) (λ a t. tail_in p ok a (used_arc p a t))

          told : (u v : ℕ) → u < p.switches → v < p.switches → cell t u v ≡ distance_in (net_of p r) tails heads all u v
          told u v h i = entry_in (all-within p.start sound.start_in) table u v h i

          pub net_parts : network.Parts (net_of p r) tails heads own first after t
          net_parts = record {
            within = own-within r r_in;
            few_arcs = own-few r r_in;
            part = reached_from p r;
            strong = strong;
            firsts = λ x h. chained.firsts x (omega (arith, strong.inside x h, sound.few_switches)) ∙ chains x 0 h;
            afters = λ a l h. chained.afters a l (subst (λ (b : Bool). T b) (sym (same a (strong.tails a l h))) h) ∙ chains (at tails a) (suc a) (strong.tails a l h);
            cells = λ u v h i. told u v (strong.inside u h) (strong.inside v i) ∙ dist_same p.switches (2 * p.count) (at tails) (at heads) (flag all) (flag own) r (reached_from p r) strong inside same u v h i;
            apart = λ v h out. omega (arith, told r v r_in h, dist-apart p.switches (2 * p.count) (at tails) (at heads) (flag all) (flag own) r (reached_from p r) strong inside same v h out);
          }
            where
              chains : (x k : ℕ) → T (reached_from p r x) → following (2 * p.count) (at tails) (flag all) x k ≡ following (2 * p.count) (at tails) (flag own) x k
              chains x k h = following-same p.switches (2 * p.count) (at tails) (at heads) (flag all) (flag own) r (reached_from p r) strong inside same x k h

    pub net_trail : (r : ℕ) → trail_in (net_of p r) tails heads (used_flags p r) ≡ trail_from p r
    net_trail r = by_arrays (used_flags p r) (used_from p r) (flags_from r) (λ tl hd u. trail p.switches (2 * p.count) tl hd u r ≡ trail_from p r) refl
