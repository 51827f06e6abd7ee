-- What the conditions of refusals 5 to 8 say, in the words of document 01; 1 to 4 are those of a part. Assumes nothing.
use mathlib.Core.Path.{◌≡◌, refl, ap}
use mathlib.Core.Logic.{◌⊎◌, inl, inr, ◌↔◌}
use mathlib.Core.Bool.{Bool, true, false, not, ◌&&◌}
use mathlib.Core.List.{List, [], ◌∷◌}
use Prim.Native.Nat.{ℕ, suc, ◌≤◌}
use native.Mathlib.Omega.{arith}
use borrow.Author.Tests.{ltb-false, le-ltb, not-true, eqb-true, eq-eqb}
use lib.Dec.{ltb}
use lib.ListN.{length}
use Rattle.lists.proofs.Tests.{true_exactly, and_comm}
use Rattle.plant.specs.declared.Link.{Link}
use Rattle.listing.specs.Listing.{value_out_of_range, end_out_of_range, self_link, bytes_remain}
use Rattle.listing.proofs.SoundLaws.{InRange, in_range, range_in}

-- 5: a header value is outside its range, or the start is not below S
pub value_out_of_range_lem : (switches count start : ℕ) → (value_out_of_range switches count start ≡ true) ↔ (InRange switches count start → ⊥)
value_out_of_range_lem a b c = true_exactly (value_out_of_range a b c) (in_range a b c, range_in a b c)

-- 6: a link's end is not below S
pub end_out_of_range_lem : (switches : ℕ) (l : Link) → (end_out_of_range switches l ≡ true) ↔ ((switches ≤ l.first) ⊎ (switches ≤ l.second))
unfolding end_out_of_range
end_out_of_range_lem switches l = (λ e. out (ltb l.first switches) refl e, back)
  where
    out : (a : Bool) → ltb l.first switches ≡ a → not (a && ltb l.second switches) ≡ true → (switches ≤ l.first) ⊎ (switches ≤ l.second)
    out true e h = inr (ltb-false l.second switches (not-true (ltb l.second switches) h))
    out false e h = inl (ltb-false l.first switches e)

    back : (switches ≤ l.first) ⊎ (switches ≤ l.second) → not (ltb l.first switches && ltb l.second switches) ≡ true
    back (inl h) = rw (le-ltb l.first switches h) refl
    back (inr h) = rw (le-ltb l.second switches h, and_comm (ltb l.first switches) false) refl

-- 7: a link joins a switch to itself
pub self_link_lem : (l : Link) → (self_link l ≡ true) ↔ (l.first ≡ l.second)
unfolding self_link
self_link_lem l = (eqb-true l.first l.second, eq-eqb l.first l.second)

pub no_byte_remains : (s : List ℕ) → (bytes_remain s ≡ false) ↔ (s ≡ [])
unfolding bytes_remain
no_byte_remains [] = (λ e. refl, λ e. refl)
no_byte_remains (b ∷ s) = (λ e. absurd (omega (arith, ltb-false 0 (suc (length s)) e)), λ e. absurd (omega (arith, ap length e)))

-- 8: bytes remain after the last record
pub bytes_remain_lem : (s : List ℕ) → (bytes_remain s ≡ true) ↔ (s ≡ [] → ⊥)
bytes_remain_lem s = true_exactly (bytes_remain s) (no_byte_remains s)
