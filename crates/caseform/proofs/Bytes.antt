-- Two lists that hold the same eight bytes are of the same number. Assumes nothing.
use Rattle.std.proofs.Common.{◌≡◌, ap₂, ap, ℕ, ◌+◌, ◌<◌, ◌≤◌, zero, suc, List, get_or, arith}
use Rattle.std.specs.Int.{byte_worth, from_le_bytes, sum_through, w64}

sum_same : (f g : ℕ → ℕ) (n : ℕ) → ((k : ℕ) → k ≤ n → f k ≡ g k) → sum_through f n ≡ sum_through g n
sum_same f g zero same = same 0 (omega arith)
sum_same f g (suc n) same = ap₂ (λ x y. x + y) (sum_same f g n (λ k h. same k (omega arith))) (same (suc n) (omega arith))

pub same_number : (xs ys : List ℕ) → ((k d : ℕ) → k < 8 → get_or xs k d ≡ get_or ys k 0) → from_le_bytes w64 xs ≡ from_le_bytes w64 ys
same_number xs ys same = sum_same _ _ 7 (λ k h. ap (byte_worth k) (same k 0 (omega arith)))
