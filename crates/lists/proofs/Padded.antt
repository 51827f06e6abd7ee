-- A list in an array of n places, with z past its members: its length, one member more, and a member by its place. Assumes nothing.
use mathlib.Core.Path.{◌≡◌, refl}
use mathlib.Core.List.{List, [], ◌∷◌, ◌++◌, append_assoc}
use Prim.Native.Nat.{ℕ, zero, suc, ◌+◌, ◌-◌, ◌<◌}
use native.Mathlib.Omega.{arith}
use lib.ListN.{length, get_or, set, replicate, length-append, length-replicate}
use lib.Seq.{set_at}
use Rattle.lists.specs.Padded.{padded}
use Rattle.lists.proofs.Members.{get_d_same}

module _ {A : Type 0} (n : ℕ) (z : A) where
  pub padded-length : (xs : List A) → length (padded n z xs) ≡ length xs + (n - length xs)
  padded-length xs = omega (arith, length-append xs (replicate (n - length xs) z), length-replicate (n - length xs) z)

  -- one member more is put in the first place past them
  pub padded_put : (xs : List A) (x : A) → length xs < n → set (padded n z xs) (length xs) x ≡ padded n z (xs ++ (x ∷ []))
  padded_put xs x h =
      let k : n - length xs ≡ suc (n - (length xs + 1)) = omega arith in
      rw (k, set_at xs z (replicate (n - (length xs + 1)) z) x (length xs) refl, length-append xs (x ∷ []), append_assoc xs (x ∷ []))

  -- a place past the members reads as it does in the list
  pub padded-at : (xs : List A) (i : ℕ) → get_or (padded n z xs) i z ≡ get_or xs i z
  padded-at xs i = go xs i (n - length xs)
    where
      go : (ys : List A) (j k : ℕ) → get_or (ys ++ replicate k z) j z ≡ get_or ys j z
      go [] j k = get_d_same k j z
      go (y ∷ ys) zero k = refl
      go (y ∷ ys) (suc j) k = go ys j k
