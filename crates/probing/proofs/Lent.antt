-- Lent trails that are the plant's, the part of them that is the component's of a switch, and what the code asks for it. Assumes a sound plant, and of a component one of its
-- switches.
use mathlib.Core.Path.{◌≡◌, refl, sym, ap, ◌∙◌, subst}
use mathlib.Core.Bool.{Bool, false}
use mathlib.Core.List.{List, [], ◌∷◌, ◌++◌}
use Prim.Native.Nat.{ℕ, zero, suc, ◌+◌, ◌*◌, ◌≤◌, ◌<◌}
use native.Mathlib.Omega.{arith}
use lib.ListN.{length, get_or, take, drop, take-append-drop}
use Rattle.lists.proofs.Tests.{true_T}
use Rattle.plant.specs.declared.Plant.{Plant}
use Rattle.limits.specs.Limits.{max_links}
use Rattle.limits.specs.Sound.{Sound}
use Rattle.walks.specs.Components.{root_of, roots, component_of, links_with, used}
use Rattle.walks.specs.Round.{round_from}
use Rattle.walks.proofs.Components.{component-root}
use Rattle.walks.proofs.Valid.{sound_valid}
use Rattle.routes.specs.Plants.{trail_from}
use Rattle.plan.specs.Plan.{trail_of, trail_with, trail_begin, round_of, round_with, round_begin_of}
use Rattle.plan.proofs.Plan.{used_arc}
use Rattle.plan.proofs.Trails as trails
use Rattle.plan.proofs.Rounds as rounds
use Rattle.planning.specs.declared.Component.{Component}
use Rattle.planning.specs.Components.{component_at, component_with}
use Rattle.arcs.specs.Flags.{Flags}
use Rattle.order.specs.Labels.{OverArcs}
use Rattle.packet.specs.Asked.{CanRun}
use Rattle.std.specs.Prelude.{Ok}
use Rattle.answers.specs.Answers.{given}
use Rattle.answers.specs.Checks.{answer}
use Rattle.answers.specs.Results.{Judges}
use Rattle.answers.proofs.Results.{none_judged}
use Rattle.search.specs.declared.Search.{Search}
use Rattle.search.specs.declared.Said.{Said}
use Rattle.search.specs.declared.Said.TheVariants as said
use Rattle.search.specs.Search.{says}
use Rattle.search.specs.Answers.{SaysIn}
use Rattle.search.proofs.Sound.{says_in}
use Rattle.planning.specs.Planning.{planning_at}
use Rattle.planning.proofs.Plans.{at-given}
use Rattle.judging.specs.Conditions.{hops_differ, search_unsound, lent_checks, round_checks}
use Rattle.judging.proofs.Lent.{states-enough, trail-same, hops-begin}
use Rattle.judging.proofs.Searching.{good_here}
use Rattle.probing.proofs.Injection.{root_among, trail-used, links-few}

-- a part of the front of a list
part-front : (w rest : List ℕ) (b h : ℕ) → b + h ≤ length w → take h (drop b (w ++ rest)) ≡ take h (drop b w)
part-front [] rest zero zero i = refl
part-front [] rest zero (suc h) i = absurd (omega arith)
part-front [] rest (suc b) h i = absurd (omega arith)
part-front (a ∷ w) rest zero zero i = refl
part-front (a ∷ w) rest zero (suc h) i = ap (λ (l : List ℕ). a ∷ l) (part-front w rest zero h (omega arith))
part-front (a ∷ w) rest (suc b) h i = part-front w rest b h (omega arith)

-- so it is of a list that begins with w
begins-part : (w lent : List ℕ) → hops_differ w lent ≡ false → (b h : ℕ) → b + h ≤ length w → take h (drop b lent) ≡ take h (drop b w)
begins-part w lent e b h i =
    ap (λ (l : List ℕ). take h (drop b l)) (sym (take-append-drop (length w) lent) ∙ ap (λ (l : List ℕ). l ++ drop (length w) lent) (hops-begin w lent e))
    ∙ part-front w (drop (length w) lent) b h i

-- by the arcs in use, with enough state bytes, a packet can run
pub can_run : (p : Plant) (us : List Bool) (states : List ℕ) → Flags (2 * max_links) (used p) us → p.count ≤ length states → CanRun p us states
can_run p us states f enough = record { arcs = λ a t. used_arc p a (true_T (used p a) (sym (f.tells a) ∙ t)); bytes = enough }

module _ (p : Plant) (ok : Sound p) where
  -- ---- the component of a switch

  module _ (x : ℕ) (x_in : x < p.switches) where
    -- its root, by its number
    root_is : get_or (roots p) (component_of p x) 0 ≡ root_of p x
    root_is = component-root p (sound_valid p ok) ok.start_in x x_in

    pub hops-is : (component_with p x).hops ≡ length (trail_with p x)
    unfolding component_at
    hops-is = ap (λ (r : ℕ). length (trail_from p r)) root_is

    pub begin_is : (component_with p x).begin ≡ trail_begin p (component_of p x)
    unfolding component_at
    begin_is = refl

    pub round_hops_is : (component_with p x).round_hops ≡ length (round_with p x)
    unfolding component_at
    round_hops_is = ap (λ (r : ℕ). length (round_from p r)) root_is

    pub round_begin-is : (component_with p x).round_begin ≡ round_begin_of p (component_of p x)
    unfolding component_at
    round_begin-is = refl

    -- its trail stands in whatever begins with the trails of all, and its round trail in what begins with the round trails
    pub trail-stands : (w : List ℕ) → hops_differ (trail_of p) w ≡ false → take (length (trail_with p x)) (drop (trail_begin p (component_of p x)) w) ≡ trail_with p x
    trail-stands w e = begins-part (trail_of p) w e (trail_begin p (component_of p x)) (length (trail_with p x)) (trails.stretch_in p ok x x_in) ∙ trails.stretch p ok x x_in

    pub round-stands : (v : List ℕ) → hops_differ (round_of p) v ≡ false → take (length (round_with p x)) (drop (round_begin_of p (component_of p x)) v) ≡ round_with p x
    round-stands v e = begins-part (round_of p) v e (round_begin_of p (component_of p x)) (length (round_with p x)) (rounds.stretch_in p ok x x_in) ∙ rounds.stretch p ok x x_in

    pub trail-part : (w own : List ℕ) (c : Component) → w ≡ trail_of p → c ≡ component_with p x → own ≡ take c.hops (drop c.begin w) → own ≡ trail_with p x
    trail-part w own c e f g = g ∙ rw (e, f, hops-is, begin_is) (trails.stretch p ok x x_in)

    pub round-part : (v own : List ℕ) (c : Component) → hops_differ (round_of p) v ≡ false → c ≡ component_with p x → own ≡ take c.round_hops (drop c.round_begin v)
        → own ≡ round_with p x
    round-part v own c e f g = g ∙ rw (f, round_hops_is, round_begin-is) (round-stands v e)

    pub own-arcs : (own : List ℕ) → own ≡ trail_with p x → OverArcs p own
    own-arcs own e = subst (OverArcs p) (sym e) (λ a h. used_arc p a (trail-used p ok x x_in a h))

    pub round-arcs : (own : List ℕ) → own ≡ round_with p x → OverArcs p own
    round-arcs own e = subst (OverArcs p) (sym e) (λ a h. (((rounds.round-from p ok (root_of p x) (root_among p ok x x_in)).each a).0 h).1)

    -- ---- what a sound search over its links says

    pub says-few : (q : Search) → search_unsound (links_with p x) q ≡ false → SaysIn max_links (says q)
    says-few q e = go (says q) (says_in (links_with p x) q (good_here (links_with p x) q e))
      where
        go : (d : Said) → SaysIn (links_with p x) d → SaysIn max_links d
        go said.Open g = tt
        go said.AllUp g = tt
        go (said.Down k) g = (g.0, omega (arith, g.1, links-few p ok x x_in))

-- ---- a plan

-- a plan at a switch has that switch
pub planned_in : (s : List ℕ) (x : ℕ) (p : Plant) → given p ≡ answer (planning_at s x) → x < p.switches
planned_in s x p e = (at-given s x p (sym e)).1

-- ---- what refusals 12 and 13 let pass

module _ (p : Plant) (w states : List ℕ) (u : Unit) where
  module _ (j : Judges (lent_checks p w states) (Ok u)) where
    pub lent_same : w ≡ trail_of p
    lent_same = trail-same p w (none_judged (lent_checks p w states) (Ok u) j u refl).0

    pub lent_enough : p.count ≤ length states
    lent_enough = states-enough p.count states (none_judged (lent_checks p w states) (Ok u) j u refl).1.0

  module _ (j : Judges (round_checks p w states) (Ok u)) where
    pub round-begins : hops_differ (round_of p) w ≡ false
    round-begins = (none_judged (round_checks p w states) (Ok u) j u refl).0

    pub round-enough : 2 * p.count ≤ length states
    round-enough = states-enough (2 * p.count) states (none_judged (round_checks p w states) (Ok u) j u refl).1.0
