-- What demand 3 says of a list of calls to a search, and so of what `perform` answers. Assumes a sound plant and one of its switches.
use mathlib.Core.Path.{◌≡◌, sym, subst, ◌∙◌}
use mathlib.Core.Logic.{◌⊎◌, inl, inr, ◌↔◌}
use mathlib.Core.Bool.{true}
use mathlib.Core.List.{List, []}
use Prim.Native.Nat.{ℕ, ◌+◌, ◌≤◌, ◌<◌}
use native.Mathlib.Omega.{arith}
use borrow.Author.Tests.{eq-eqb, ne_eqb}
use lib.ListN.{length}
use Rattle.lists.proofs.Tests.{eq?, not_both, not_false_true}
use Rattle.plant.specs.declared.Plant.{Plant}
use Rattle.limits.specs.Sound.{Sound}
use Rattle.answers.specs.Answers.{Answer, given, refused}
use Rattle.answers.specs.Checks.{answer}
use Rattle.answers.proofs.Checks.{gives_so, given-given}
use Rattle.walks.specs.Components.{links_with}
use Rattle.plan.specs.Plan.{trail_with}
use Rattle.rings.specs.Rules.{up_by}
use Rattle.rings.specs.Injection.{order_of}
use Rattle.rings.proofs.FirstDown.{first_down, first_one, first-most, first_some, first-none}
use Rattle.allowance.specs.Allowance.{allowance}
use Rattle.allowance.proofs.Ceiling.{allowance-enough, allowance-least}
use Rattle.search.specs.declared.Progress.{Progress}
use Rattle.search.specs.Search.{ended, next, give}
use Rattle.search.specs.Calls.{Call, perform, begun}
use Rattle.search.specs.Limit.{limit}
use Rattle.search.proofs.Sound.{answers-given}
use Rattle.search.proofs.Finds.{Tells, tells_by, Finds, kept_new, packets_sent, finds}
use Rattle.search.proofs.Probes.{sent-thrice, probes-counted}
use Rattle.planning.specs.Planning.{planning_at}
use Rattle.planning.proofs.Plans.{at-given}
use Rattle.probing.specs.Calls.{probe_end, performed_in, performing}
use Rattle.probing.specs.Searches.{MostProbes, NoneBroken, actual_outcome, ComesHome, AllTrue, OneOfThree, Says, Searches}
use Rattle.probing.specs.Answers.{Performs}
use Rattle.probing.proofs.Injection.{order-links, order-length, links-few, probe-tells}

-- ---- the most probes

most-probes : (e : ℕ) → MostProbes e (limit e)
unfolding limit
most-probes e = record {
  none = λ q. rw (eq-eqb e 0 q);
  some = λ h. (allowance e, record { enough = allowance-enough e; least = allowance-least e }, rw (ne_eqb e 0 (λ q. omega arith)));
}

-- ---- the search

module _ (p : Plant) (ok : Sound p) (x : ℕ) (x_in : x < p.switches) where
  abbrev order : List ℕ
  order = order_of p (trail_with p x) x

  long : length order ≡ links_with p x
  long = order-length p ok x x_in

  module _ (states : List ℕ) where
    -- the place of the first broken link
    abbrev place : ℕ
    place = first_down (up_by states) order

    -- the packet rule brings probe m home exactly if it comes after the m-th link
    tells : Tells (links_with p x) place (ComesHome p x states)
    unfolding actual_outcome
    tells =
        tells_by (links_with p x) place (first_one (up_by states) order) (omega (arith, long, first-most (up_by states) order)) (λ m. (probe_end p x states m).ended)
        (probe-tells p ok x x_in (up_by states))

    none : (place ≡ links_with p x + 1) ↔ NoneBroken p x states
    none =
        let b = first-none (up_by states) order in
        let links = order-links p ok x x_in in (
          λ e l t d. not_both (up_by states l) (b.0 (omega (arith, long)) l ((links l).1 t)) d,
          λ f. omega (arith, long, b.1 (λ l h. not_false_true (up_by states l) (f l ((links l).0 h)))),
        )

    some : (NoneBroken p x states → ⊥) → place ≤ links_with p x
    some f = go (eq? place (links_with p x + 1))
      where
        go : (place ≡ links_with p x + 1) ⊎ (place ≡ links_with p x + 1 → ⊥) → place ≤ links_with p x
        go (inl e) = absurd (f (none.0 e))
        go (inr n) = omega (arith, n, tells.to_none)

    found : (cs : List Call) → Finds (links_with p x) place (ComesHome p x states) (limit (links_with p x)) (begun (links_with p x)) cs (perform (begun (links_with p x)) cs)
    found = finds (links_with p x) (links-few p ok x x_in) place (ComesHome p x states) tells

    says : (cs : List Call) → AllTrue p x states cs → OneOfThree p x states cs → ended (perform (begun (links_with p x)) cs).state ≡ true
        → Says p x states (perform (begun (links_with p x)) cs).state
    says cs t h q =
        let r = found cs in
        record {
          all_up = (λ e. none.0 (r.up_right t e), λ f. r.all_up t h q (none.1 f));
          first_broken = λ f. (place, r.first_down_is t h q (some f), first_some (up_by states) order (omega (arith, long, some f)));
        }

  pub searches : (cs : List Call) → Searches p x cs (perform (begun (links_with p x)) cs)
  unfolding give begun
  searches cs =
      let e = links_with p x in
      let state = (perform (begun e) cs).state in
      let r = found [] cs in
      record {
        probes_are = probes-counted e (links-few p ok x x_in) cs;
        packets_are = omega (arith, packets_sent e (links-few p ok x x_in) (limit e) cs (begun e) (kept_new e));
        limit_is = most-probes e;
        few = r.few;
        enough = r.enough;
        packets_few = r.packets_few;
        thrice = sent-thrice e (links-few p ok x x_in) cs;
        goes_on = r.goes_on;
        accepts = λ q o. (next state o, answers-given state (next state o) r.stays_sound.0 q);
        says = λ states. says states cs;
        up_right = λ states t q. (none states).0 ((found states cs).up_right t q);
      }

-- ---- the call

-- what it answers for a listing that is read as such a plant, and at a refusal
module _ (s : List ℕ) (x : ℕ) (cs : List Call) where
  pub performs : (p : Plant) → answer (planning_at s x) ≡ given p → Sound p → (a : Answer Progress) → a ≡ answer (performing s x cs) → Performs s x cs a
  unfolding performing performed_in
  performs p g ok a f k r h e =
      let q = given-given _ r (sym (gives_so (planning_at s x) (performed_in x cs) p g) ∙ sym f ∙ e) in
      subst (λ (u : Plant). Searches u x cs r) (given-given p k (sym g ∙ h)) (subst (Searches p x cs) q (searches p ok x (at-given s x p g).1 cs))

  pub performs-none : (a : Answer Progress) (k : ℕ) → a ≡ refused k → Performs s x cs a
  performs-none a k f p r h e = let z : ◌≡◌ {A = ℕ} 0 1 = cc in absurd (omega arith)
