-- Demand 2 holds: the plan, packets and probes are document 01's, and the round trips of the listing and of the calls keep bytes and plants. Assumes nothing.
use mathlib.Core.Path.{◌≡◌, refl, sym, ap, ◌∙◌, subst}
use mathlib.Core.List.{List, [], ◌∷◌, ◌++◌, map, flatten}
use mathlib.Core.Logic.{◌↔◌}
use mathlib.Core.Bool.{Bool, false, not}
use Prim.Native.Nat.{ℕ, zero, suc, ◌≤◌, ◌<◌}
use borrow.Author.Tests.{le-ltb, eqb-true, eqb-false, eq-eqb, ne_eqb, not-true, not-false}
use lib.Dec.{T, eqb}
use native.Mathlib.Omega.{arith}
use lib.ListN.{length, get_or, take, drop}
use lib.Seq.{take_at}
use Rattle.lists.specs.Members.{In}
use Rattle.lists.proofs.Tests.{T_true, true_T, and_left, and_right, and_both, eq→eqb}
use Rattle.plant.specs.declared.Plant.{Plant}
use Rattle.plant.specs.Links.{first, live, is_out_of_service}
use Rattle.answers.specs.Answers.{given}
use Rattle.answers.specs.Checks.{check, answer, leaves}
use Rattle.answers.proofs.Checks.{goes_on, gives_so}
use Rattle.limits.specs.Sound.{Sound}
use Rattle.listing.specs.Listing.{encode, reading}
use Rattle.codec.specs.Field.{Bytes}
use Rattle.listing.specs.Writing.{buffer_short, writing, buffer_after}
use Rattle.listing.proofs.Longest.{longest_plant, longest, longest-attained}
use Rattle.listing.proofs.RoundTrip.{read_write, write_read, decode_sound, encode-bytes}
use Rattle.listing.proofs.WriteRoundTrip.{sound-exactly, written-given, sound-written, buffer-written, written_read}
use Rattle.walks.specs.Components.{root_of, roots}
use Rattle.walks.specs.Round.{round_from}
use Rattle.walks.specs.Arcs.{Arc}
use Rattle.walks.specs.Graph.{To}
use Rattle.walks.proofs.Live.{live_below, live-listed}
use Rattle.walks.proofs.Labels.{opposite_even, opposite_odd, tail_even, head_even, tail_odd, head_odd}
use Rattle.walks.proofs.Valid.{sound_valid}
use Rattle.walks.proofs.Tests.{bridge-is}
use Rattle.walks.proofs.ByLinks.{visited_by_links}
use Rattle.walks.proofs.Components.{used_arc, used_of, listed_in}
use Rattle.routes.proofs.Plants.{distance_fewest, by_rule, only_by_rule}
use Rattle.rings.specs.Rules.{up_by}
use Rattle.routes.specs.Plants.{trail_from}
use Rattle.plan.specs.Plan.{trails_of, trail_of, rounds_of, round_of}
use Rattle.plan.proofs.Trails.{trails-are}
use Rattle.planner.specs.Calls.{rewriting, rewritten, rereading, trailing, laid_out}
use Rattle.planner.proofs.Trailing.{lay_enough, laid_by, trail-given, left-given}
use Rattle.demands.specs.Demand2.{LabelsAre, StatesAre, ComponentOf, TrailIs, PlanIs, Demand2}
use Rattle.demands.proofs.Packets.{run_is, rules-are, injection-is}
use Rattle.demands.proofs.Components.{components_are}
use Rattle.demands.proofs.InUse.{visit_order, in_use}

rewrites : (s b : List ℕ) (p : Plant) → answer (reading s) ≡ given p → length s ≤ length b → answer (rewriting s b) ≡ given (length s)
unfolding rewriting buffer_short
rewrites s b p e h = goes_on (reading s) (λ _. check ((16, buffer_short s b) ∷ []) (length s)) p e ∙ rw (le-ltb (length b) (length s) h) refl

rereads : (p : Plant) (b : List ℕ) → Sound p → length (encode p) ≤ length b → answer (rereading p b) ≡ given p
unfolding rereading
rereads p b ok h = gives_so (writing p b) (λ _. p) (length (encode p)) (sound-written p b ok h)

-- what the writer leaves in front is bytes
first-bytes : (p : Plant) (b : List ℕ) (n : ℕ) → answer (writing p b) ≡ given n → Bytes (take n (buffer_after p b))
first-bytes p b n e =
    let front : take n (buffer_after p b) ≡ encode p = ap (take n) (buffer-written p b n e) ∙ take_at (encode p) (drop (length (encode p)) b) n (written-given p b n e).2 in
    subst Bytes (sym front) (encode-bytes p)

-- ---- labels and link states

live-is : (p : Plant) (l : ℕ) → T (live p l) ↔ ((l < p.count) × (is_out_of_service p l ≡ false))
live-is p l = (
  λ t. let h = live_below p l t in (h, not-true (is_out_of_service p l) (sym (live-listed p l h) ∙ T_true (live p l) t)),
  λ q. true_T (live p l) (live-listed p l q.0 ∙ ap not q.1),
)

labels-are : (p : Plant) (l : ℕ) → LabelsAre p l
labels-are p l = record {
  crosses = (tail_even p l, head_even p l);
  crosses_back = (tail_odd p l, head_odd p l);
  opposites = (opposite_even l, opposite_odd l);
  in_service = live-is p l;
}

get_d_past : (s : List ℕ) (l : ℕ) → length s ≤ l → get_or s l 0 ≡ 0
get_d_past [] l h = refl
get_d_past (b ∷ s) zero h = absurd (omega arith)
get_d_past (b ∷ s) (suc l) h = get_d_past s l (omega arith)

states-are : (states : List ℕ) → StatesAre states
unfolding up_by
states-are states = record {
  down = λ l h. (λ e. eqb-true (get_or states l 0) 0 (not-false (eqb (get_or states l 0) 0) e), λ e. ap not (eq-eqb (get_or states l 0) 0 e));
  up = λ l h. (
    λ e. let n : get_or states l 0 ≡ 0 → ⊥ = eqb-false (get_or states l 0) 0 (not-true (eqb (get_or states l 0) 0) e) in omega (arith, n),
    λ e. ap not (ne_eqb (get_or states l 0) 0 (λ z. omega arith)),
  );
  past = λ l h. ap not (eq-eqb (get_or states l 0) 0 (get_d_past states l h));
  by_link_is = λ a. refl;
  by_label_is = λ a. refl;
}

trail_is : (p : Plant) → Sound p → (r : ℕ) → In r (roots p) → TrailIs p r
trail_is p ok r i =
    let valid = sound_valid p ok in
    let r_in = listed_in p valid ok.start_in r i in
    record {
      over = λ a. used_of p valid ok.start_in r a i;
      distances = distance_fewest p valid r;
      by_rule = by_rule p valid r r_in;
      only = only_by_rule p valid r r_in;
    }

-- the component of a switch
module _ (p : Plant) (ok : Sound p) (x : ℕ) (h : x < p.switches) where
  abbrev same : ℕ → Bool
  same l = eqb (root_of p (first p l)) (root_of p x)

  joined : (l : ℕ) → T (live p l) → (root_of p x ≡ root_of p (first p l)) ↔ To p (Arc p) x (first p l)
  joined l t = (components_are p ok).joined x (first p l) h ((sound_valid p ok).first_in_is l t)

  component_of_is : ComponentOf p x
  component_of_is = record {
    own_trail = refl;
    own_round = refl;
    own_link = λ l. (
      λ t. let live_l = and_left (live p l) (same l) t in
          (live_l, (joined l live_l).0 (sym (eqb-true (root_of p (first p l)) (root_of p x) (T_true (same l) (and_right (live p l) (same l) t))))),
      λ r. and_both (live p l) (same l) r.0 (eq→eqb (sym ((joined l r.0).1 r.1))),
    );
  }

in_rows : (p : Plant) → (trail_of p ≡ flatten (map (trail_from p) (roots p))) × (round_of p ≡ flatten (map (round_from p) (roots p)))
unfolding trails_of rounds_of
in_rows p = (refl, refl)

plan-is : (p : Plant) → Sound p → PlanIs p
plan-is p ok =
    let valid = sound_valid p ok in
    record {
      components = components_are p ok;
      component_of_is = component_of_is p ok;
      bridges = λ l h. bridge-is p valid l h;
      visit = λ r deep i h. visited_by_links p valid r deep (listed_in p valid ok.start_in r i) h;
      visit_order = visit_order p ok;
      in_use = in_use p ok;
      in_service = used_arc p;
      each_trail = trail_is p ok;
      trails = trails-are p ok;
      one_after_another = in_rows p;
    }

pub demand_2 : Demand2
unfolding rewritten trailing laid_out
demand_2 = record {
  most_hops = refl;
  read_write = λ s p r. read_write s p r.bytes r.read;
  write_read = λ p ok. record { bytes = encode-bytes p; read = write_read p ok };
  rewrite = λ s b p q h. let r = rewrites s b p q.read h in (r, ap (leaves (λ n. s ++ drop n b) b) r);
  reread = λ p b ok h. (rereads p b ok h, buffer-written p b (length (encode p)) (sound-written p b ok h));
  written = λ p b n e.
      let w = written-given p b n e in
      (w.2, omega (arith, w.1, w.2), buffer-written p b n e ∙ ap (λ (k : ℕ). encode p ++ drop k b) w.2);
  accepts = λ p b places tags. (
    λ r. let w = written-given p b r.0 r.1 in ((sound-exactly p (record { places = places; tags = tags })).0 w.0, w.1),
    λ h. (length (encode p), sound-written p b h.0 h.1),
  );
  written_read = λ p b n places tags e.
      record { bytes = first-bytes p b n e; read = written_read p b n (record { places = places; tags = tags }) e };
  longest = longest;
  as_long = (longest_plant, longest-attained.0, record { bytes = encode-bytes longest_plant; read = longest-attained.1 });
  sound = λ s p r. decode_sound s p r.bytes r.read;
  plan = λ s p r. plan-is p (decode_sound s p r.bytes r.read);
  laid = λ s b p e h.
      let r = lay_enough (trail_of p) b h (length (trail_of p)) refl in
      (sym (r ∙ trail-given trail_of s b p e), sym (laid_by (trail_of p) b _ r ∙ left-given trail_of s b p e));
  labels = labels-are;
  states = states-are;
  run = run_is;
  rules = rules-are;
  injection = λ s p r. injection-is p (decode_sound s p r.bytes r.read);
}
