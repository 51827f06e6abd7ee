-- Sets of switches as numbers: a set below 2 ^ x has no bit x, a set has nothing at or above s exactly if it is 0 once the bits below s are shifted out, and it is 2 ^ s at
-- least exactly if it has a bit at or above s. Assumes nothing.
use mathlib.Core.Path.{◌≡◌, refl, sym, ap, ◌∙◌, subst}
use mathlib.Core.Logic.{◌⊎◌, inl, inr, ◌↔◌}
use mathlib.Core.Bool.{true, false, not}
use Prim.Native.Nat.{ℕ, zero, suc, ◌/◌, ◌^◌, ◌≤◌, ◌<◌}
use native.Mathlib.Nat.{lt_of_not-le, div-eq_of_lt, div-eq_of_lt-le, le-div_iff_mul-le, pow-zero, pow-suc}
use native.Mathlib.Omega.{arith}
use lib.Dec.{eqb, leb}
use lib.Ieee.{size}
use lib.Ieee.Digits.{size-lt, size_reaches}
use lib.Pow.{pow_pos, pow_mono}
use borrow.Author.Tests.{leb-true, leb-false, lt-leb, eq-eqb, ne_eqb}
use Rattle.lists.proofs.Tests.{bool?, not_both}
use Rattle.desk.specs.Console.{has, set_out_of_range}

pub small_has : (set x : ℕ) → set < 2 ^ x → false ≡ has set x
small_has set x h = rw (div-eq_of_lt h)

-- the quotient by 2 ^ s
has_quotient : (set s : ℕ) → 2 ^ s ≤ set → 1 ≤ set / 2 ^ s
has_quotient set s h = (le-div_iff_mul-le (pow_pos s)).1 (omega (arith, h))

no_quotient : (set s : ℕ) → set / 2 ^ s ≡ 0 → 2 ^ s ≤ set → ⊥
no_quotient set s z h = omega (arith, has_quotient set s h)

pub shifted_out : (set s : ℕ) → not (eqb (set / 2 ^ s) 0) ≡ set_out_of_range s set
unfolding set_out_of_range
shifted_out set s = go (bool? (leb (2 ^ s) set))
  where
    go : (leb (2 ^ s) set ≡ true) ⊎ (leb (2 ^ s) set ≡ false) → not (eqb (set / 2 ^ s) 0) ≡ leb (2 ^ s) set
    go (inl t) = ap not (ne_eqb (set / 2 ^ s) 0 (λ z. no_quotient set s z (leb-true (2 ^ s) set t))) ∙ sym t
    go (inr f) = ap not (eq-eqb (set / 2 ^ s) 0 (div-eq_of_lt (leb-false (2 ^ s) set f))) ∙ sym f

pub none_above : (set s : ℕ) → set < 2 ^ s → false ≡ set_out_of_range s set
unfolding set_out_of_range
none_above set s h = sym (lt-leb (2 ^ s) set h)

-- ---- refusal 20 is a bit at or above s

top_bit : (set k : ℕ) → 2 ^ k ≤ set → set < 2 ^ suc k → has set k ≡ true
top_bit set k l h = rw (div-eq_of_lt-le {k = 1} (2 ^ k) {m = set} (omega (arith, l)) (omega (arith, h, pow-suc 2 k)))

-- the set has n binary digits
bit_found : (s set n : ℕ) → size set ≡ n → 2 ^ s ≤ set → (x : ℕ) × (s ≤ x) × (has set x ≡ true)
bit_found s set zero e l = absurd (omega (arith, l, pow_pos s, pow-zero 2, subst (λ (i : ℕ). set < 2 ^ i) e (size-lt set)))
bit_found s set (suc k) e l =
    let h : set < 2 ^ suc k = subst (λ (i : ℕ). set < 2 ^ i) e (size-lt set) in
    let above : s < suc k = lt_of_not-le (λ m. omega (arith, l, h, pow_mono m)) in
    (k, omega (arith, above), top_bit set k (size_reaches set k (omega (arith, e))) h)

pub beyond_is : (s set : ℕ) → (set_out_of_range s set ≡ true) ↔ ((x : ℕ) × (s ≤ x) × (has set x ≡ true))
unfolding set_out_of_range
beyond_is s set = (λ t. bit_found s set (size set) refl (leb-true (2 ^ s) set t), λ b. back b (bool? (leb (2 ^ s) set)))
  where
    back : (x : ℕ) × (s ≤ x) × (has set x ≡ true) → (leb (2 ^ s) set ≡ true) ⊎ (leb (2 ^ s) set ≡ false) → leb (2 ^ s) set ≡ true
    back b (inl t) = t
    back b (inr f) = absurd (not_both (has set b.0) b.2 (sym (small_has set b.0 (omega (arith, leb-false (2 ^ s) set f, pow_mono b.1)))))
