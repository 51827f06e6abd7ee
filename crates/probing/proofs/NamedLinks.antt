-- The order of links has each link of the component of a switch once, and a link that is named is one of these. Assumes a sound plant and one of its switches.
use mathlib.Core.Path.{◌≡◌, sym, ◌∙◌, subst}
use mathlib.Core.Logic.{◌↔◌}
use mathlib.Core.List.{List, [], ◌∷◌}
use Prim.Native.Nat.{ℕ, ◌-◌, ◌<◌}
use native.Mathlib.Omega.{arith}
use lib.Dec.{T}
use lib.ListN.{length, take}
use Rattle.lists.specs.Members.{In, Distinct}
use Rattle.lists.proofs.Members.{get_d_in}
use Rattle.plant.specs.declared.Plant.{Plant}
use Rattle.answers.specs.Answers.{given}
use Rattle.answers.specs.Checks.{answer}
use Rattle.limits.specs.Sound.{Sound}
use Rattle.answers.proofs.Checks.{given-exactly, given-given, came_from}
use Rattle.walks.specs.Components.{link_with, links_with}
use Rattle.plan.specs.Plan.{trail_with}
use Rattle.rings.specs.Order.{nth}
use Rattle.rings.specs.Injection.{order_of}
use Rattle.rings.proofs.Injection.{order_once}
use Rattle.order.specs.declared.Order.{Order}
use Rattle.order.specs.Order.{listed}
use Rattle.order.proofs.Gathering.{listed-links}
use Rattle.search.specs.declared.Search.{Search}
use Rattle.search.specs.declared.Said.{Said}
use Rattle.search.specs.declared.Said.TheVariants.{Open, AllUp, Down}
use Rattle.search.specs.Search.{says}
use Rattle.search.specs.Answers.{SaysIn}
use Rattle.search.proofs.Sound.{says_in}
use Rattle.judging.specs.Conditions.{trail_differs, search_unsound}
use Rattle.listing.specs.Listing.{reading}
use Rattle.planning.specs.Planning.{planning_at}
use Rattle.planning.proofs.Plans.{at-given}
use Rattle.probing.specs.Calls.{order_in, Name, link, none, unknown, named_in, name_in, naming}
use Rattle.probing.proofs.Injection.{order-links, order-length}
use Rattle.judging.proofs.Searching.{good_here}

-- each link of the component of x once, and no other
pub record EachOnce (p : Plant) (x : ℕ) (o : Order) : Type 0 where
  pub counted : o.count ≡ links_with p x
  pub once : Distinct (take o.count o.links)
  pub every : (l : ℕ) → In l (take o.count o.links) ↔ T (link_with p x l)

-- what is named is of the component of x
abbrev pub Within : Plant → ℕ → Name → Type 0
Within p x (link l) = T (link_with p x l)
Within p x none = Unit
Within p x unknown = Unit

module _ (p : Plant) (ok : Sound p) (x : ℕ) (x_in : x < p.switches) where
  pub order_each : (w : List ℕ) (o : Order) → answer (order_in x w p) ≡ given o → EachOnce p x o
  unfolding order_in listed
  order_each w o e = subst (EachOnce p x) ((given-exactly ((12, trail_differs p w) ∷ []) (listed ls) o).0 e).1 each
    where
      ls : List ℕ
      ls = order_of p (trail_with p x) x

      each : EachOnce p x (listed ls)
      each = record {
        counted = order-length p ok x x_in;
        once = subst Distinct (sym (listed-links ls)) (order_once p (trail_with p x) x);
        every = λ l. subst (λ (v : List ℕ). In l v ↔ T (link_with p x l)) (sym (listed-links ls)) (order-links p ok x x_in l);
      }

  -- a link that is named is one of the component
  pub named_within : (w : List ℕ) (q : Search) (n : Name) → answer (name_in x w q p) ≡ given n → Within p x n
  unfolding name_in
  named_within w q n e =
      let r = (given-exactly ((12, trail_differs p w) ∷ (14, search_unsound (links_with p x) q) ∷ []) (named_in ls (says q)) n).0 e in
      subst (Within p x) r.1 (go (says q) (says_in (links_with p x) q (good_here (links_with p x) q r.0.1.0)))
    where
      ls : List ℕ
      ls = order_of p (trail_with p x) x

      go : (d : Said) → SaysIn (links_with p x) d → Within p x (named_in ls d)
      go Open g = tt
      go AllUp g = tt
      go (Down k) g =
          let inside : k - 1 < length ls = omega (arith, g, order-length p ok x x_in) in
          (order-links p ok x x_in (nth ls k)).0 (get_d_in ls (k - 1) inside)

-- so of a listing that is read as the plant
pub naming-within : (s : List ℕ) (p : Plant) → answer (reading s) ≡ given p → Sound p → (x : ℕ) (w : List ℕ) (q : Search) (l : ℕ) → answer (naming s x w q) ≡ given (link l)
    → T (link_with p x l)
unfolding naming
naming-within s p g ok x w q l e =
    let r = came_from (planning_at s x) (name_in x w q) (link l) e in
    let at = at-given s x r.0 r.1 in
    let same : r.0 ≡ p = given-given r.0 p (sym at.0 ∙ g) in
    named_within p ok x (rw same at at.1) w q (link l) (rw same at r.2)
