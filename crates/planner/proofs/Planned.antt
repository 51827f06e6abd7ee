-- What a call on a listing answers, by the plant that is read. Assumes nothing.
use mathlib.Core.Path.{◌≡◌, sym, ap, ◌∙◌}
use mathlib.Core.List.{List}
use Prim.Native.Nat.{ℕ}
use Rattle.std.specs.Prelude.{Result, IsErrAnd}
use Rattle.plant.specs.declared.Plant.{Plant}
use Rattle.answers.specs.declared.Refusal.{Refusal}
use Rattle.answers.specs.Answers.{given, refused, number_of, ◌>>=◌}
use Rattle.answers.specs.Checks.{answer, ◌giving◌}
use Rattle.answers.specs.Results.{answer_of}
use Rattle.answers.proofs.Checks.{gives_so, refuses_so, trying_then}
use Rattle.answers.proofs.Results.{exit}
use Rattle.listing.specs.Listing.{reading}
use Rattle.planning.specs.Components.{components_of}
use Rattle.plan.specs.Plan.{table_of}
use Rattle.senders.specs.Senders.{by_switch}
use Rattle.planner.specs.Calls.{bridge_flags, bridging, parting, tabling, counting}

-- a call that gives g of the plant of the listing s
module _ {B : Type 0} (s : List ℕ) (g : Plant → B) where
  pub plan_giving : (p : Plant) → given p ≡ answer (reading s) → (b : B) → b ≡ g p → given b ≡ answer (reading s giving g)
  plan_giving p e b d = ap given d ∙ sym (gives_so (reading s) g p (sym e))

  pub plan_refusing : (k : Refusal) → refused (number_of k) ≡ answer (reading s) → (u : Result B Refusal) → IsErrAnd u (λ e. e ≡ k) → answer_of u ≡ answer (reading s giving g)
  plan_refusing k e u d = exit (λ b. b) u k d ∙ sym (refuses_so (reading s) g (number_of k) (sym e))

-- what a call on a listing comes to, by what the listing comes to
giving_is : {B : Type 0} (s : List ℕ) (g : Plant → B) → answer (reading s giving g) ≡ (answer (reading s) >>= λ p. given (g p))
giving_is s g = sym (trying_then (reading s).checks (given (reading s).result) (λ p. given (g p)))

pub bridging_is : (s : List ℕ) → answer (bridging s) ≡ (answer (reading s) >>= λ p. given (bridge_flags p))
unfolding bridging
bridging_is s = giving_is s bridge_flags

pub parting_is : (s : List ℕ) → answer (parting s) ≡ (answer (reading s) >>= λ p. given (components_of p))
unfolding parting
parting_is s = giving_is s components_of

pub counting_is : (s : List ℕ) → answer (counting s) ≡ (answer (reading s) >>= λ p. given (by_switch (table_of p)))
unfolding tabling counting
counting_is s = giving_is s (λ p. by_switch (table_of p))
