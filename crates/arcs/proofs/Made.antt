-- An array that a closure makes place by place: where each call leaves the closure as it was and gives what a function says of the place, that stands there. Assumes nothing.
use mathlib.Core.Path.{◌≡◌, sym, ap, ◌∙◌, subst}
use mathlib.Core.Logic.{◌⊎◌, inl, inr, ⊎_elim}
use mathlib.Core.List.{List}
use Prim.Native.Nat.{ℕ, zero, suc, ◌+◌, ◌≤◌, ◌<◌}
use native.Mathlib.Omega.{arith}
use lib.ListN.{get_or, get_or-eq_default}
use denote.Param.Members.{Mut, Called}
use Rattle.std.specs.Array.{IsFromFnResult, IsFromFnResultFrom}
use Rattle.lists.proofs.Tests.{eq?, below?}

module _ {F B : Type 0} (g : Mut F (ℕ × Unit {0}) B) (h : ℕ → B) (f : F) (calls : (x : ℕ) (y : B) (q : F) → Called g f (x, tt) y q → (q ≡ f) × (y ≡ h x)) (ys : List B) where
  made_from : (i n : ℕ) → IsFromFnResultFrom g f ys i n → (k : ℕ) (d : B) → i ≤ k → k < i + n → get_or ys k d ≡ h k
  made_from i zero m k d l u = absurd (omega arith)
  made_from i (suc n) (q, y, is, call, rest) k d l u =
      let c = calls i y q call in
      ⊎_elim (λ e. ap (λ (j : ℕ). get_or ys j d) e ∙ is.1 d ∙ c.1 ∙ ap h (sym e))
      (λ e. made_from (i + 1) n (subst (λ (p : F). IsFromFnResultFrom g p ys (i + 1) n) c.0 rest) k d (omega (arith, e)) (omega arith)) (eq? k i)

  pub made : (n : ℕ) → IsFromFnResult g f ys n → (k : ℕ) (d : B) → k < n → get_or ys k d ≡ h k
  made n m k d l = made_from 0 n m.each k d (omega arith) (omega arith)

  -- the function has the value z from n on
  pub made_all : (n : ℕ) → IsFromFnResult g f ys n → (z : B) → ((k : ℕ) → n ≤ k → h k ≡ z) → (k : ℕ) → get_or ys k z ≡ h k
  made_all n m z past k = go (below? k n)
    where
      go : (k < n) ⊎ (n ≤ k) → get_or ys k z ≡ h k
      go (inl l) = made n m k z l
      go (inr l) = get_or-eq_default ys z {n = k} (omega (arith, m.long)) ∙ sym (past k l)
