-- Isolation: a call's answer, and its console's set and search afterwards, go by that console's set and search before it and by the call; the other three consoles stay. So
-- a list of calls is, for one console, the list of its own calls on its own set and search. Assumes nothing.
use mathlib.Core.Path.{◌≡◌, refl, sym, ap, ap₂, ◌∙◌, subst}
use mathlib.Core.Bool.{Bool, true, false}
use mathlib.Core.List.{List, [], ◌∷◌}
use Prim.Native.Nat.{ℕ, ◌≤◌}
use lib.Dec.{eqb, ltb}
use borrow.Author.Tests.{eqb-true, eqb-false, ltb-false, le-ltb}
use Rattle.lists.specs.Tests.{choose}
use Rattle.plant.specs.declared.Plant.{Plant}
use Rattle.answers.specs.Answers.{Answer, given, refused}
use Rattle.answers.specs.Checks.{answer, leaves}
use Rattle.answers.proofs.Checks.{came_from, refuse-given, goes_on, gives_so}
use Rattle.listing.specs.Listing.{reading}
use Rattle.walks.specs.Components.{links_with}
use Rattle.desk.specs.declared.Console.{Console}
use Rattle.desk.specs.declared.Desk.{Desk}
use Rattle.desk.specs.Desk.{console_of, desk_after}
use Rattle.desk.proofs.Consoles.{put_there, put_beside}
use Rattle.consoles.specs.Calls.{console_out_of_range, sizing, Request, switch_of, asking, calling, served}
use Rattle.consoles.specs.Lists.{DeskCall, answer_to, after, after_all, calls_of, answers_of}

-- ---- one call

-- what is answered goes by the console
abbrev pub answer_of : DeskCall → Console → Answer Console
answer_of q c = answer (calling q.console q.listing q.request c)

-- and the console afterwards
abbrev pub next_of : DeskCall → Console → Console
next_of q c = leaves (λ r. r) c (answer_of q c)

-- a call that is not refused is of one of the four
pub among_four : (k : ℕ) (s : List ℕ) (r : Request) (c a : Console) → answer (calling k s r c) ≡ given a → k ≤ 3
unfolding calling sizing console_out_of_range
among_four k s r c a e =
    let z = came_from (sizing k s (switch_of r c)) (λ y. asking y.0 y.1 r c) a e in
    ltb-false 3 k (refuse-given 19 (ltb 3 k) _ z.0 z.1).0

-- with a listing that has a plant, it goes by that plant's switches and by the links in service of the component of its switch
pub asks_so : (k : ℕ) (s : List ℕ) (p : Plant) → k ≤ 3 → answer (reading s) ≡ given p → (r : Request) (c : Console)
    → answer (calling k s r c) ≡ answer (asking p.switches (links_with p (switch_of r c)) r c)
unfolding calling sizing console_out_of_range
asks_so k s p h e r c =
    let x = switch_of r c in
    goes_on (sizing k s x) (λ y. asking y.0 y.1 r c) (p.switches, links_with p x)
    (rw (le-ltb 3 k h) (gives_so (reading s) (λ p. (p.switches, links_with p x)) p e))

module _ (d : Desk) (q : DeskCall) where
  -- by what is answered
  pub own_by : (a : Answer Console) → answer_to d q ≡ a → console_of (after d q) q.console ≡ leaves (λ r. r) (console_of d q.console) a
  unfolding served
  own_by (given r) e =
      ap (λ (a : Answer Console). console_of (desk_after d q.console a) q.console) e
      ∙ put_there d r q.console
  own_by (refused n) e = ap (λ (a : Answer Console). console_of (desk_after d q.console a) q.console) e

  pub own-after : console_of (after d q) q.console ≡ next_of q (console_of d q.console)
  own-after = own_by (answer_to d q) refl

  others_by : (j : ℕ) → j ≤ 3 → (q.console ≡ j → ⊥) → (a : Answer Console) → answer_to d q ≡ a → console_of (after d q) j ≡ console_of d j
  unfolding served
  others_by j h n (given r) e =
      ap (λ (a : Answer Console). console_of (desk_after d q.console a) j) e
      ∙ put_beside d r q.console (among_four q.console q.listing q.request (console_of d q.console) r e) j h n
  others_by j h n (refused m) e = ap (λ (a : Answer Console). console_of (desk_after d q.console a) j) e

  pub others-after : (j : ℕ) → j ≤ 3 → (q.console ≡ j → ⊥) → console_of (after d q) j ≡ console_of d j
  others-after j h n = others_by j h n (answer_to d q) refl

-- ---- a list of calls

-- the calls of one console on its own set and search
abbrev answers_alone : Console → List DeskCall → List (Answer Console)
answers_alone c [] = []
answers_alone c (q ∷ qs) = answer_of q c ∷ answers_alone (next_of q c) qs

abbrev alone : Console → List DeskCall → Console
alone c [] = c
alone c (q ∷ qs) = alone (next_of q c) qs

module _ (k : ℕ) (h : k ≤ 3) where
  pub answers-alone : (d : Desk) (cs : List DeskCall) → answers_of k d cs ≡ answers_alone (console_of d k) (calls_of k cs)
  answers-alone d [] = refl
  answers-alone d (q ∷ qs) = go (eqb q.console k) refl (answers-alone (after d q) qs)
    where
      go : (b : Bool) → eqb q.console k ≡ b → answers_of k (after d q) qs ≡ answers_alone (console_of (after d q) k) (calls_of k qs)
          → choose b (answer_to d q ∷ answers_of k (after d q) qs) (answers_of k (after d q) qs) ≡ answers_alone (console_of d k) (choose b (q ∷ calls_of k qs) (calls_of k qs))
      go true e rec =
          let i : q.console ≡ k = eqb-true q.console k e in
          ap₂ {C = List (Answer Console)} (λ a r. a ∷ r) (ap (λ (j : ℕ). answer_of q (console_of d j)) i)
          (rec ∙ ap (λ (c : Console). answers_alone c (calls_of k qs)) (subst (λ (j : ℕ). console_of (after d q) j ≡ next_of q (console_of d j)) i (own-after d q)))
      go false e rec = rec ∙ ap (λ (c : Console). answers_alone c (calls_of k qs)) (others-after d q k h (eqb-false q.console k e))

  pub after-alone : (d : Desk) (cs : List DeskCall) → console_of (after_all d cs) k ≡ alone (console_of d k) (calls_of k cs)
  after-alone d [] = refl
  after-alone d (q ∷ qs) = after-alone (after d q) qs ∙ go (eqb q.console k) refl
    where
      go : (b : Bool) → eqb q.console k ≡ b → alone (console_of (after d q) k) (calls_of k qs) ≡ alone (console_of d k) (choose b (q ∷ calls_of k qs) (calls_of k qs))
      go true e = ap (λ (c : Console). alone c (calls_of k qs)) (subst (λ (j : ℕ). console_of (after d q) j ≡ next_of q (console_of d j)) (eqb-true q.console k e) (own-after d q))
      go false e = ap (λ (c : Console). alone c (calls_of k qs)) (others-after d q k h (eqb-false q.console k e))

  -- two desks that agree on console k, and two lists that have the same calls of it
  module _ (d e : Desk) (cs ds : List DeskCall) (i : console_of d k ≡ console_of e k) (j : calls_of k cs ≡ calls_of k ds) where
    pub same-answers : answers_of k d cs ≡ answers_of k e ds
    same-answers = answers-alone d cs ∙ ap₂ {C = List (Answer Console)} answers_alone i j ∙ sym (answers-alone e ds)

    pub same_after : console_of (after_all d cs) k ≡ console_of (after_all e ds) k
    same_after = after-alone d cs ∙ ap₂ {C = Console} alone i j ∙ sym (after-alone e ds)
