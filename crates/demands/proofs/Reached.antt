-- What demand 3 says of an ended search is not empty. If every accepted outcome is the one of the packet rule, so that no packet vanishes, both premises hold; and whatever
-- the states of the links, there is such a list of calls that ends the search. Assumes a sound plant and one of its switches.
use mathlib.Core.Path.{◌≡◌, refl, sym, subst}
use mathlib.Core.Bool.{true}
use mathlib.Core.List.{List, [], ◌∷◌}
use Prim.Native.Nat.{ℕ, ◌<◌}
use native.Mathlib.Omega.{arith}
use Rattle.lists.specs.Members.{Each}
use Rattle.plant.specs.declared.Plant.{Plant}
use Rattle.limits.specs.Sound.{Sound}
use Rattle.walks.specs.Components.{links_with}
use Rattle.search.specs.declared.Outcome.{Outcome}
use Rattle.search.specs.declared.Outcome.TheVariants.{Returned, Lost}
use Rattle.search.specs.Search.{ended}
use Rattle.search.specs.Values.{IsReturned}
use Rattle.search.specs.Calls.{Call, perform, begun, Sending, sent}
use Rattle.search.proofs.Witness.{Quiet, all_true, one_returns, ends-new}
use Rattle.probing.specs.Calls.{probe_end}
use Rattle.probing.specs.Searches.{sent_over, actual_outcome, AllTrue, OneOfThree, Says}
use Rattle.probing.proofs.Injection.{links-few}
use Rattle.probing.proofs.Searching.{searches}
use Rattle.demands.specs.Demand3.{ByRule}
use Rattle.demands.proofs.GotTo.{two_way}

each_so : {A : Type 0} (P Q : A → Type 0) → ((x : A) → P x → Q x) → (l : List A) → Each P l → Each Q l
each_so P Q f [] h = tt
each_so P Q f (x ∷ l) h = (f x h.0, each_so P Q f l h.1)

-- outcomes that are returned alike are the same
alike : (o u : Outcome) → (IsReturned o → IsReturned u) → (IsReturned u → IsReturned o) → o ≡ u
alike Returned Returned f g = refl
alike Returned Lost f g = absurd (omega (arith, f refl))
alike Lost Returned f g = absurd (omega (arith, g refl))
alike Lost Lost f g = refl

module _ (p : Plant) (x : ℕ) (states : List ℕ) where
  rule_quiet : (s : Sending) → ByRule p x states s → Quiet (actual_outcome p x states) s
  unfolding actual_outcome
  rule_quiet (sent m o) h =
      let t = (two_way (probe_end p x states m)).returned in
      alike o (actual_outcome p x states m) (λ i. t.1 (h.0 i)) (λ i. h.1 (t.0 i))

  quiet_rule : (s : Sending) → Quiet (actual_outcome p x states) s → ByRule p x states s
  unfolding actual_outcome
  quiet_rule (sent m o) h =
      let t = (two_way (probe_end p x states m)).returned in
      (λ i. t.0 (subst IsReturned h i), λ e. subst IsReturned (sym h) (t.1 e))

module _ (p : Plant) (ok : Sound p) (x : ℕ) (x_in : x < p.switches) (states : List ℕ) where
  quiet : (cs : List Call) → Each (Quiet (actual_outcome p x states)) (sent_over p x cs) → AllTrue p x states cs × OneOfThree p x states cs
  quiet cs h = (all_true (actual_outcome p x states) (sent_over p x cs) h, one_returns (actual_outcome p x states) (sent_over p x cs) h)

  pub by_rule : (cs : List Call) → Each (ByRule p x states) (sent_over p x cs) → AllTrue p x states cs × OneOfThree p x states cs
  by_rule cs h = quiet cs (each_so (ByRule p x states) (Quiet (actual_outcome p x states)) (rule_quiet p x states) (sent_over p x cs) h)

  pub says_by_rule : (cs : List Call) → Each (ByRule p x states) (sent_over p x cs) → ended (perform (begun (links_with p x)) cs).state ≡ true
      → Says p x states (perform (begun (links_with p x)) cs).state
  says_by_rule cs h e = let r = by_rule cs h in (searches p ok x x_in cs).says states r.0 r.1 e

  pub reached_by_rule : (cs : List Call) × Each (ByRule p x states) (sent_over p x cs) × (ended (perform (begun (links_with p x)) cs).state ≡ true)
  reached_by_rule =
      let r = ends-new (actual_outcome p x states) (links_with p x) (links-few p ok x x_in) in
      (r.0, each_so (Quiet (actual_outcome p x states)) (ByRule p x states) (quiet_rule p x states) (sent_over p x r.0) r.1, r.2)

  pub reached : (cs : List Call) × AllTrue p x states cs × OneOfThree p x states cs × (ended (perform (begun (links_with p x)) cs).state ≡ true)
  reached = let r = reached_by_rule in let h = by_rule r.0 r.1 in (r.0, h.0, h.1, r.2)
