-- The labels that two slices give one after the other: what is left of them. Assumes nothing.
use mathlib.Core.Path.{◌≡◌, refl, sym, ap, ◌∙◌}
use mathlib.Core.Bool.{Bool, true, false}
use mathlib.Core.List.{List, [], ◌∷◌, ◌++◌}
use Prim.Native.Nat.{ℕ}
use native.Mathlib.Omega.{arith}
use denote.Ref.{Bor}
use lib.ListN.{length}
use Rattle.std.proofs.Common.{Iter, Option, Some, None}
use Rattle.std.specs.declared.iter.Chain.{Chain}
use Rattle.std.specs.Iterator.Adapters.{chain_steps}
use Rattle.std.specs.Option.{MatchOption, unwrap_or}
use Rattle.std.specs.Bool.{MatchBool}
use Rattle.std.proofs.lemmas.Option.{none-some}
use Rattle.std.proofs.iter.Yields.{fronts}

-- what two lists have left, where the first has ended or not
abbrev left_of : Bool → List ℕ → List ℕ → List ℕ
left_of true v w = w
left_of false v w = v ++ w

abbrev pub left : Chain (Iter ℕ) (Iter ℕ) → List ℕ
left s = left_of s.a_done s.a.rest.now s.b.rest.now

nothing : (l : List ℕ) → length l ≡ 0 → l ≡ []
nothing [] e = refl
nothing (x ∷ l) e = absurd (omega (arith, e))

-- the next label
module _ (s t : Chain (Iter ℕ) (Iter ℕ)) (on : s.b_done ≡ false) where
  pub left_on : (r : Option (Bor ℕ)) → chain_steps fronts fronts s r t → t.b_done ≡ false
  left_on r h = h.0 ∙ on

  -- the second answers
  abbrev Second : Option (Bor ℕ) → Type 0
  Second r = MatchBool s.b_done (r ≡ None) (fronts s.b r t.b) × (t.a_done ≡ true)

  -- or the first does, until it ends
  abbrev First : Option (Bor ℕ) → Type 0
  First r = (o : Option (Bor ℕ)) × fronts s.a o t.a × MatchOption o (Second r) (λ x. (r ≡ Some x) × (t.b ≡ s.b) × (t.a_done ≡ false))

  second_some : (x : Bor ℕ) → Second (Some x) → s.b.rest.now ≡ x.now ∷ left t
  second_some x h = rw h.1 (rw on at h.0)

  second_none : Second None → s.b.rest.now ≡ []
  second_none h = let q = rw on at h.0 in nothing s.b.rest.now q.0

  first_some : (x : Bor ℕ) (h : First (Some x)) → s.a.rest.now ++ s.b.rest.now ≡ x.now ∷ left t
  first_some x (None, q, h) = let e = nothing s.a.rest.now q.0 in rw e (second_some x h)
  first_some x (Some y, q, h) =
      let e : x ≡ y = ap (λ (o : Option (Bor ℕ)). unwrap_or o x) h.0 in
      rw (q, sym e, h.2, h.1) refl

  first_none : (h : First None) → s.a.rest.now ++ s.b.rest.now ≡ []
  first_none (None, q, h) = let e = nothing s.a.rest.now q.0 in rw e (second_none h)
  first_none (Some y, q, h) = absurd (none-some y h.0)

  pub left_some : (x : Bor ℕ) → chain_steps fronts fronts s (Some x) t → left s ≡ x.now ∷ left t
  left_some x h = go s.a_done h.1
    where
      go : (b : Bool) → MatchBool b (Second (Some x)) (First (Some x)) → left_of b s.a.rest.now s.b.rest.now ≡ x.now ∷ left t
      go true h = second_some x h
      go false h = first_some x h

  pub left_none : chain_steps fronts fronts s None t → left s ≡ []
  left_none h = go s.a_done h.1
    where
      go : (b : Bool) → MatchBool b (Second None) (First None) → left_of b s.a.rest.now s.b.rest.now ≡ []
      go true h = second_none h
      go false h = first_none h
