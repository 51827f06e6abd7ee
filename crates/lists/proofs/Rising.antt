-- The members of a range that pass a test, by rising number. Assumes nothing.
use mathlib.Core.Path.{sym, subst}
use mathlib.Core.Logic.{◌⊎◌, inl, inr}
use mathlib.Core.Bool.{Bool}
use mathlib.Core.List.{List, ◌∷◌}
use Prim.Native.Nat.{ℕ, zero, suc, ◌<◌}
use native.Mathlib.Omega.{arith}
use lib.Dec.{T}
use lib.ListN.{length, get_or}
use Rattle.lists.specs.Numbers.{range, keep}
use Rattle.lists.proofs.Tests.{T-or}
use Rattle.lists.proofs.Members.{get_d_in}
use Rattle.lists.proofs.Numbers.{range_in, keep_yes, keep_no, keep_in}

-- the earlier member is the lower one
abbrev Rises : List ℕ → Type 0
Rises l = (i j : ℕ) → i < j → j < length l → get_or l i 0 < get_or l j 0

-- one lower than all members before them
rises_more : (k : ℕ) (l : List ℕ) → ((i : ℕ) → i < length l → k < get_or l i 0) → Rises l → Rises (k ∷ l)
rises_more k l low r i zero h m = absurd (omega arith)
rises_more k l low r zero (suc j) h m = low j (omega arith)
rises_more k l low r (suc i) (suc j) h m = r i j (omega arith) (omega arith)

pub keep-rises : (t : ℕ → Bool) (k n : ℕ) → (i j : ℕ) → i < j → j < length (keep t (range k n)) → get_or (keep t (range k n)) i 0 < get_or (keep t (range k n)) j 0
keep-rises t k zero = λ i j h l. absurd (omega arith)
keep-rises t k (suc n) = go (T-or (t k)) (keep-rises t (suc k) n)
  where
    low : (i : ℕ) → i < length (keep t (range (suc k) n)) → k < get_or (keep t (range (suc k) n)) i 0
    low i h =
        let x = get_or (keep t (range (suc k) n)) i 0 in
        omega (arith, range_in x (suc k) n (keep_in t x (range (suc k) n) (get_d_in (keep t (range (suc k) n)) i h)).0)

    go : T (t k) ⊎ (T (t k) → ⊥) → Rises (keep t (range (suc k) n)) → Rises (keep t (k ∷ range (suc k) n))
    go (inl y) r = subst Rises (sym (keep_yes t k (range (suc k) n) y)) (rises_more k (keep t (range (suc k) n)) low r)
    go (inr z) r = subst Rises (sym (keep_no t k (range (suc k) n) z)) r
