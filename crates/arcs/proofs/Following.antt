-- What follows along a chain: from label a on, the lowest label of a flagged arc that leaves x, or the number of labels if there is none. The chains of the parts of a
-- plan tell it.
use mathlib.Core.Path.{◌≡◌, sym, ap, ◌∙◌, subst}
use mathlib.Core.Logic.{⊎_elim}
use mathlib.Core.Bool.{Bool}
use mathlib.Core.List.{List}
use Prim.Native.Nat.{ℕ, suc, ◌≤◌, ◌<◌}
use native.Mathlib.Omega.{arith}
use lib.Dec.{T, eqb, eqb→eq}
use Rattle.lists.specs.Arrays.{flag, at}
use Rattle.lists.proofs.Least.{First}
use Rattle.lists.proofs.Tests.{below?, eq→eqb, and_left, and_right, and_both}
use Rattle.arcs.specs.declared.Net.{Net}
use Rattle.arcs.specs.Chains.{leaving, following}
use Rattle.arcs.specs.Parts.{Parts}
use Rattle.arcs.proofs.Chain.{following-is}

module _ (n : ℕ) (tl : ℕ → ℕ) (ok : ℕ → Bool) (x : ℕ) where
  pub record Follows (a r : ℕ) : Type 0 where
    pub top : r ≤ n
    pub bottom : a ≤ r
    pub flagged : r < n → T (ok r)
    pub leaves : r < n → tl r ≡ x
    pub lowest : (b : ℕ) → a ≤ b → b < n → T (ok b) → tl b ≡ x → r ≤ b

  follows : (a r : ℕ) → a ≤ n → r ≡ following n tl ok x a → Follows a r
  follows a r h e = subst (Follows a) (sym e) (record {
    top = f.top;
    bottom = f.bottom;
    flagged = λ i. and_left (ok k) (eqb (tl k) x) (f.passes i);
    leaves = λ i. eqb→eq (tl k) x (and_right (ok k) (eqb (tl k) x) (f.passes i));
    lowest = λ b i j t q. ⊎_elim (λ l. absurd (f.others b i l (and_both (ok b) (eqb (tl b) x) t (eq→eqb q)))) (λ l. l) (below? b k);
  })
    where
      k : ℕ
      k = following n tl ok x a

      f : First a n (leaving n tl ok x) k
      f = following-is n tl ok x a h

module _ {net : Net} {tails heads : List ℕ} {used : List Bool} {first after : List ℕ} {t : List (List ℕ)} (p : Parts net tails heads used first after t) where
  pub follows_first : (x : ℕ) → T (p.part x) → Follows net.labels (at tails) (flag used) x 0 (at first x)
  follows_first x h = follows net.labels (at tails) (flag used) x 0 (at first x) (omega arith) (p.firsts x h)

  pub follows_after : (x a : ℕ) → a < net.labels → T (flag used a) → at tails a ≡ x → Follows net.labels (at tails) (flag used) x (suc a) (at after a)
  follows_after x a h l e =
      follows net.labels (at tails) (flag used) x (suc a) (at after a) h (p.afters a h l ∙ ap (λ (y : ℕ). following net.labels (at tails) (flag used) y (suc a)) e)
