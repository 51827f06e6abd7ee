-- Parts of lists: the first members, the part between two places, and members of parts. Assumes nothing.
use mathlib.Core.Path.{◌≡◌, sym, ap, ◌∙◌}
use mathlib.Core.Logic.{◌⊎◌, inl, inr, ◌↔◌}
use mathlib.Core.Bool.{Bool, true}
use mathlib.Core.List.{List, [], ◌∷◌, ◌++◌}
use Prim.Native.Nat.{ℕ, zero, suc, ◌-◌, ◌≤◌, ◌<◌}
use native.Mathlib.Omega.{arith}
use lib.ListN.{length, get_or, take, drop}
use lib.Seq.{length-take-le, get_or-take, take-nil}
use Rattle.lists.specs.Members.{In, all}
use Rattle.lists.proofs.Members.{in_append, in_append_left, in_append_right, in_get_d, get_d_in, all-at, at_all}

-- all of the first m pass exactly if each of them does
pub all_take : (p : ℕ → Bool) (xs : List ℕ) (m : ℕ) → m ≤ length xs → (all p (take m xs) ≡ true) ↔ ((i : ℕ) → i < m → p (get_or xs i 0) ≡ true)
all_take p xs m h = (
  λ e i j. ap p (sym (get_or-take m xs i 0 j)) ∙ all-at p (take m xs) e (get_or (take m xs) i 0) (get_d_in (take m xs) i (omega (arith, length-take-le m xs h))),
  λ f. at_all p (take m xs) (λ x k. at f x (in_get_d (take m xs) x k)),
)
  where
    at : ((i : ℕ) → i < m → p (get_or xs i 0) ≡ true) → (x : ℕ) → (i : ℕ) × (i < length (take m xs)) × (get_or (take m xs) i 0 ≡ x) → p x ≡ true
    at f x r =
        let k : r.0 < m = omega (arith, r.1, length-take-le m xs h) in
        ap p (sym r.2 ∙ get_or-take m xs r.0 0 k) ∙ f r.0 k

pub take-append : (n : ℕ) (x y : List ℕ) → take n (x ++ y) ≡ take n x ++ take (n - length x) y
take-append n [] y = let e : n - 0 ≡ n = omega arith in rw (e, take-nil {A = ℕ} n)
take-append zero (a ∷ x) y = let e : 0 - suc (length x) ≡ 0 = omega arith in rw e
take-append (suc n) (a ∷ x) y = let e : suc n - suc (length x) ≡ n - length x = omega arith in rw e (ap (λ (l : List ℕ). a ∷ l) (take-append n x y))

-- the part between two places, by the front and by what follows
pub drop-take : (k m : ℕ) (s : List ℕ) → drop k (take m s) ≡ take (m - k) (drop k s)
drop-take zero m s = let e : m - 0 ≡ m = omega arith in rw e
drop-take (suc k) zero s = let e : 0 - suc k ≡ 0 = omega arith in rw e
drop-take (suc k) (suc m) [] = sym (take-nil (suc m - suc k))
drop-take (suc k) (suc m) (b ∷ s) = let e : suc m - suc k ≡ m - k = omega arith in rw e (drop-take k m s)

-- two lists have the same members either way round
pub in_swap : (a : ℕ) (x y : List ℕ) → In a (x ++ y) → In a (y ++ x)
in_swap a x y h = go (in_append a x y h)
  where
    go : In a x ⊎ In a y → In a (y ++ x)
    go (inl i) = in_append_right a y x i
    go (inr i) = in_append_left a y x i
