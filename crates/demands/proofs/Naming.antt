-- A search that has ended with Down, under demand 3's two premises, is at the first broken link, and the call that names a link answers it. Assumes a listing that is read as a
-- plant, and one of its switches.
use mathlib.Core.Path.{◌≡◌, refl, sym, ap, ◌∙◌, subst}
use mathlib.Core.List.{List}
use Prim.Native.Nat.{ℕ, ◌≤◌, ◌<◌}
use native.Mathlib.Omega.{arith}
use borrow.Author.Tests.{lt-ltb, le-leb}
use lib.ListN.{get_or}
use Rattle.plant.specs.declared.Plant.{Plant}
use Rattle.answers.specs.Answers.{given}
use Rattle.answers.specs.Checks.{answer}
use Rattle.answers.proofs.Checks.{goes_on}
use Rattle.codec.specs.Field.{Bytes}
use Rattle.limits.specs.Limits.{max_links}
use Rattle.limits.specs.Sound.{Sound}
use Rattle.listing.specs.Listing.{reading}
use Rattle.listing.proofs.RoundTrip.{decode_sound}
use Rattle.walks.specs.Components.{links_with}
use Rattle.plan.specs.Plan.{trail_of}
use Rattle.rings.specs.Rules.{up_by}
use Rattle.rings.specs.Order.{nth}
use Rattle.rings.specs.FirstDown.{FirstDown}
use Rattle.judging.specs.Conditions.{search_unsound}
use Rattle.judging.proofs.Lent.{trail-own}
use Rattle.search.specs.declared.Search.{Search}
use Rattle.search.specs.declared.Search.TheVariants.{Down}
use Rattle.search.specs.Search.{ended}
use Rattle.search.specs.Values.{Values, IsDown}
use Rattle.search.proofs.Values.{is_down}
use Rattle.search.specs.Calls.{Call, perform, begun}
use Rattle.planning.specs.Planning.{planning_at}
use Rattle.planning.proofs.Plans.{given-at}
use Rattle.probing.specs.Calls.{link, name_in, naming}
use Rattle.probing.specs.Searches.{NoneBroken, AllTrue, OneOfThree}
use Rattle.probing.proofs.Injection.{order-length, links-few}
use Rattle.probing.proofs.Searching.{searches}
use Rattle.demands.specs.Names.{order_at}

module _ (s : List ℕ) (b : Bytes s) (p : Plant) (g : answer (reading s) ≡ given p) (x : ℕ) (x_in : x < p.switches) where
  ok : Sound p
  ok = decode_sound s p b g

  -- a place in the order is named
  named : (k : ℕ) → 1 ≤ k → k ≤ links_with p x → answer (naming s x (trail_of p) (Down k)) ≡ given (link (nth (order_at p x) k))
  unfolding naming name_in search_unsound
  named k h l =
      goes_on (planning_at s x) (name_in x (trail_of p) (Down k)) p (given-at s x p g x_in)
      ∙ rw (trail-own p, lt-ltb 0 k h, le-leb k max_links (omega (arith, links-few p ok x x_in)), le-leb k (links_with p x) l) refl

  pub names : (cs : List Call) (states : List ℕ) → AllTrue p x states cs → OneOfThree p x states cs → (k : ℕ) → IsDown k (perform (begun (links_with p x)) cs).state
      → (answer (naming s x (trail_of p) (perform (begun (links_with p x)) cs).state) ≡ given (link (nth (order_at p x) k)))
      × FirstDown (up_by states) (order_at p x) k
  names cs states t o k d =
      let q = (perform (begun (links_with p x)) cs).state in
      let e : q ≡ Down k = is_down q k d in
      let says = (searches p ok x x_in cs).says states t o (ap ended e) in
      let not-up : NoneBroken p x states → ⊥ = λ n. let z : ◌≡◌ {A = ℕ} 3 2 = ap (λ (v : Values). v.0) (sym d ∙ says.all_up.1 n) in omega (arith, z) in
      let r = says.first_broken not-up in
      let same : r.0 ≡ k = ap (λ (v : Values). get_or v.1 0 0) (sym r.1 ∙ d) in
      let f = subst (FirstDown (up_by states) (order_at p x)) same r.2 in (
        ap (λ (u : Search). answer (naming s x (trail_of p) u)) e ∙ named k f.from_one (omega (arith, f.to_last, order-length p ok x x_in)),
        f,
      )
