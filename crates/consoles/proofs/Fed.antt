-- The search of a console is that to which the calls that feed it lead: after its last start that was not refused, and the outcomes since then that were not, whatever the
-- other consoles do between. Assumes nothing.
use mathlib.Core.Path.{◌≡◌, refl, sym, ap, ◌∙◌, subst}
use mathlib.Core.Bool.{Bool, true, false}
use mathlib.Core.List.{List, [], ◌∷◌, ◌++◌}
use Prim.Native.Nat.{ℕ, ◌≤◌, ◌<◌}
use lib.Dec.{eqb}
use borrow.Author.Tests.{eqb-true, eqb-false, leb-false}
use Rattle.std.specs.Prelude.{Option}
use Rattle.lists.specs.Tests.{choose}
use Rattle.plant.specs.declared.Plant.{Plant}
use Rattle.answers.specs.Answers.{Answer, given, refused}
use Rattle.answers.specs.Checks.{trying, answer}
use Rattle.answers.proofs.Checks.{came_from, refuse-given, was_given, given-exactly, result-given}
use Rattle.listing.specs.Listing.{reading}
use Rattle.walks.specs.Components.{links_with}
use Rattle.planning.specs.Planning.{planning_at}
use Rattle.planning.proofs.Plans.{given-at}
use Rattle.search.specs.declared.Search.{Search}
use Rattle.search.specs.declared.Outcome.{Outcome}
use Rattle.search.specs.declared.Progress.{Progress}
use Rattle.search.specs.Search.{new_search, next, give}
use Rattle.search.specs.Calls.{Call, gives, counted, step, perform, begun}
use Rattle.search.proofs.Sound.{answers-given}
use Rattle.judging.proofs.Searching.{sound-here}
use Rattle.desk.specs.declared.Held.{Held}
use Rattle.desk.specs.declared.Console.{Console}
use Rattle.desk.specs.declared.Desk.{Desk}
use Rattle.desk.specs.Console.{set_out_of_range, switch_checks, console_with, search_from, held_checks, held_after, replacing, starting, telling}
use Rattle.desk.specs.Desk.{console_of}
use Rattle.consoles.specs.Calls.{console_out_of_range, sizing, Request, new_set, start, outcome, switch_of, asking, calling}
use Rattle.consoles.specs.Lists.{DeskCall, answer_to, after, after_all, Fed, unknown, since, feed_with, feed_if, fed_by}
use Rattle.consoles.proofs.Isolation.{own_by, others-after}

-- ---- a call that is not refused

-- its listing has a plant, and the console did what it was asked for
pub asked_in : (k : ℕ) (s : List ℕ) (r : Request) (c a : Console) → answer (calling k s r c) ≡ given a
    → (p : Plant) × (answer (reading s) ≡ given p) × (answer (asking p.switches (links_with p (switch_of r c)) r c) ≡ given a)
unfolding calling sizing console_out_of_range
asked_in k s r c a e =
    let x = switch_of r c in
    let z = came_from (sizing k s x) (λ y. asking y.0 y.1 r c) a e in
    let w = was_given (reading s) (λ p. (p.switches, links_with p x)) z.0 (refuse-given 19 (console_out_of_range k) _ z.0 z.1).1 in
    (w.0, w.1, ap (λ (y : ℕ × ℕ). answer (asking y.0 y.1 r c)) w.2 ∙ z.2)

module _ (s e : ℕ) (c a : Console) where
  set_search : (set : ℕ) → answer (replacing s set c) ≡ given a → a.search ≡ c.search
  unfolding replacing
  set_search set g = sym (ap (λ (x : Console). x.search) (result-given (replacing s set c) a g))

  start_search : (x : ℕ) → answer (starting s e x c) ≡ given a → (x < s) × (a.search ≡ search_from x (new_search e))
  unfolding starting
  start_search x g =
      let r = (given-exactly ((20, set_out_of_range s c.set) ∷ switch_checks s c.set x) (console_with c.set (search_from x (new_search e))) a).0 g in
      (leb-false s x r.0.1.0, sym (ap (λ (y : Console). y.search) r.1))

  -- an outcome moves the search as its own call does
  told_search : (o : Outcome) (x : ℕ) (q : Search) → c.search ≡ search_from x q → answer (telling s e o c) ≡ given a → (answer (give q o) ≡ given (next q o)) × (a.search ≡ search_from x (next q o))
  unfolding telling give
  told_search o x q f g =
      let t : trying ((20, set_out_of_range s c.set) ∷ held_checks s e c.set (search_from x q)) (given (console_with c.set (held_after o (search_from x q)))) ≡ given a
      = ap (λ (h : Option Held). trying ((20, set_out_of_range s c.set) ∷ held_checks s e c.set h) (given (console_with c.set (held_after o h)))) (sym f) ∙ g in
      let r = (given-exactly ((20, set_out_of_range s c.set) ∷ held_checks s e c.set (search_from x q)) (console_with c.set (held_after o (search_from x q))) a).0 t in
      (answers-given q (next q o) (sound-here e q r.0.1.1.1.0).0 r.0.1.1.1.1.0, sym (ap (λ (y : Console). y.search) r.1))

-- ---- the outcomes, one after the other

perform_more : (p : Progress) (cs ds : List Call) → perform p (cs ++ ds) ≡ perform (perform p cs) ds
perform_more p [] ds = refl
perform_more p (c ∷ cs) ds = perform_more (step p c) cs ds

one_more : (p : Progress) (cs : List Call) (o : Outcome) (q : Search) → answer (give (perform p cs).state o) ≡ given q → (perform p (cs ++ gives o ∷ [])).state ≡ q
one_more p cs o q e =
    ap (λ (r : Progress). r.state) (perform_more p cs (gives o ∷ []))
    ∙ ap (λ (a : Answer Search). (counted (perform p cs) o a).state) e

-- ---- the console's search, by what fed it

abbrev pub FedBy : Console → Fed → Type 0
FedBy c unknown = Unit
FedBy c (since s x os) = (p : Plant) × (answer (planning_at s x) ≡ given p) × (c.search ≡ search_from x (perform (begun (links_with p x)) os).state)

module _ (k : ℕ) (s : List ℕ) (c a : Console) where
  feed_keeps : (r : Request) → answer (calling k s r c) ≡ given a → (u : Fed) → FedBy c u → FedBy a (feed_with s r u)
  unfolding begun
  feed_keeps (new_set set) e unknown f = tt
  feed_keeps (new_set set) e (since t x os) f = let p = asked_in k s (new_set set) c a e in (f.0, f.1, set_search p.0.switches (links_with p.0 0) c a set p.2 ∙ f.2)
  feed_keeps (start x) e u f =
      let p = asked_in k s (start x) c a e in
      let g = start_search p.0.switches (links_with p.0 x) c a x p.2 in
      (p.0, given-at s x p.0 p.1 g.0, g.1)
  feed_keeps (outcome o) e unknown f = tt
  feed_keeps (outcome o) e (since t x os) f =
      let p = asked_in k s (outcome o) c a e in
      let b = begun (links_with f.0 x) in
      let g = told_search p.0.switches (links_with p.0 (switch_of (outcome o) c)) c a o x (perform b os).state f.2 p.2 in
      (f.0, f.1, g.1 ∙ ap (search_from x) (sym (one_more b os o (next (perform b os).state o) g.0)))

-- ---- a list of calls

module _ (k : ℕ) (h : k ≤ 3) where
  -- of the console itself, by what is answered
  own-fed : (d : Desk) (q : DeskCall) (u : Fed) → FedBy (console_of d q.console) u → (a : Answer Console) → answer_to d q ≡ a
      → FedBy (console_of (after d q) q.console) (feed_if a q.listing q.request u)
  own-fed d q u f (given c) e =
      subst (λ (x : Console). FedBy x (feed_with q.listing q.request u)) (sym (own_by d q (given c) e)) (feed_keeps q.console q.listing (console_of d q.console) c q.request e u f)
  own-fed d q u f (refused n) e = subst (λ (x : Console). FedBy x u) (sym (own_by d q (refused n) e)) f

  pub fed_keeps : (d : Desk) (cs : List DeskCall) (u : Fed) → FedBy (console_of d k) u → FedBy (console_of (after_all d cs) k) (fed_by k d cs u)
  fed_keeps d [] u f = f
  fed_keeps d (q ∷ qs) u f = fed_keeps (after d q) qs _ (go (eqb q.console k) refl)
    where
      go : (b : Bool) → eqb q.console k ≡ b → FedBy (console_of (after d q) k) (choose b (feed_if (answer_to d q) q.listing q.request u) u)
      go true e =
          let i : q.console ≡ k = eqb-true q.console k e in
          subst (λ (j : ℕ). FedBy (console_of (after d q) j) (feed_if (answer_to d q) q.listing q.request u)) i
          (own-fed d q u (subst (λ (j : ℕ). FedBy (console_of d j) u) (sym i) f) (answer_to d q) refl)
      go false e = subst (λ (x : Console). FedBy x u) (sym (others-after d q k h (eqb-false q.console k e))) f
