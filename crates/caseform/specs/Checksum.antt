-- The checksum of a list of numbers, and what a lent buffer holds before the call. Assumes nothing.
use Rattle.std.specs.Prelude.{◌≡◌, List, ℕ, ◌+◌, ◌*◌, ◌%◌, ◌<◌, length, slice_index_or}
use Rattle.std.specs.List.{FoldsTo}

-- the checksum with one number more
abbrev pub one_more : ℕ → ℕ → ℕ
one_more h v = (31 * h + v + 1) % 65521

-- r is the checksum of what h is the checksum of, and then the numbers that these xs stand for: v for x where `stands x v`
abbrev pub ChecksumOf : {A : Type 0} → (A → ℕ → Type 0) → ℕ → List A → ℕ → Type 0
ChecksumOf stands = FoldsTo (λ h x r. (v : ℕ) × stands x v × (r ≡ one_more h v))

-- what place i of a lent buffer holds before the call
abbrev pub held_before : ℕ → ℕ
held_before i = (7 * (i % 251) + 3) % 251

-- at each place i is an x with `holds i x`
abbrev pub FilledBy : {A : Type 0} → (ℕ → A → Type 0) → List A → Type 0
FilledBy {A} holds xs = (i : ℕ) (d : A) → i < length xs → holds i (slice_index_or xs i d)
