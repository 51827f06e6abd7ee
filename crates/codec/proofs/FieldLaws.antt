-- Laws of fields, over the width: what was written is read, and what was read is written. Assumes nothing.
use mathlib.Core.Path.{◌≡◌, refl, ap, ap₂, ◌∙◌}
use mathlib.Core.List.{List, [], ◌∷◌}
use Prim.Native.Nat.{ℕ, zero, suc, ◌+◌, ◌-◌, ◌*◌, ◌/◌, ◌%◌, ◌^◌, ◌≤◌, ◌<◌}
use native.Mathlib.Nat.{pow-suc, pow-le-pow_right}
use native.Mathlib.Omega.{arith}
use lib.ListN.{length, get_or, take, drop}
use lib.Seq.{take-nil}
use Rattle.codec.specs.Field.{number, bytes_of, Bytes}

-- a slice of bytes holds bytes
pub bytes_known : (s : List ℕ) → ((i : ℕ) → get_or s i 0 < 2 ^ 8) → Bytes s
bytes_known [] f = tt
bytes_known (b ∷ s) f = (f 0, bytes_known s (λ i. f (suc i)))

-- ---- one byte more

pub one_more : (w b n : ℕ) → b < 2 ^ 8 → n < (2 ^ 8) ^ w → b + n * 256 < (2 ^ 8) ^ suc w
one_more w b n h k = let e : (2 ^ 8) ^ suc w ≡ (2 ^ 8) ^ w * 2 ^ 8 = pow-suc (2 ^ 8) w in omega arith

one_less : (w v : ℕ) → v < (2 ^ 8) ^ suc w → v / 256 < (2 ^ 8) ^ w
one_less w v h = let e : (2 ^ 8) ^ suc w ≡ (2 ^ 8) ^ w * 2 ^ 8 = pow-suc (2 ^ 8) w in omega arith

-- ---- the round trip of a field of w bytes

pub length-bytes_of : (w v : ℕ) → length (bytes_of w v) ≡ w
length-bytes_of zero v = refl
length-bytes_of (suc w) v = ap suc (length-bytes_of w (v / 256))

pub bytes_of-bytes : (w v : ℕ) → Bytes (bytes_of w v)
bytes_of-bytes zero v = tt
bytes_of-bytes (suc w) v = (omega arith, bytes_of-bytes w (v / 256))

-- what was written is read
pub number-bytes_of : (w v : ℕ) → v < (2 ^ 8) ^ w → number (bytes_of w v) ≡ v
number-bytes_of zero v h = omega arith
number-bytes_of (suc w) v h = omega (arith, number-bytes_of w (v / 256) (one_less w v h))

-- what was read is written
pub bytes_of-number : (bs : List ℕ) → Bytes bs → bytes_of (length bs) (number bs) ≡ bs
bytes_of-number [] h = refl
bytes_of-number (b ∷ bs) h =
    let low : (b + number bs * 256) % 256 ≡ b = omega (arith, h.0) in
    let high : (b + number bs * 256) / 256 ≡ number bs = omega (arith, h.0) in
    ap₂ (λ (x : ℕ) (xs : List ℕ). x ∷ xs) low (ap (bytes_of (length bs)) high ∙ bytes_of-number bs h.1)

pub number_fits : (bs : List ℕ) → Bytes bs → number bs < (2 ^ 8) ^ length bs
number_fits [] h = omega arith
number_fits (b ∷ bs) h = one_more (length bs) b (number bs) h.0 (number_fits bs h.1)

-- ---- reading from the high byte down

-- its low byte, which past the end of the bytes counts as 0, and the others
number-next : (w j : ℕ) (s : List ℕ) → number (take (suc w) (drop j s)) ≡ get_or s j 0 + number (take w (drop (suc j) s)) * 256
number-next w zero [] = rw (take-nil {A = ℕ} w) refl
number-next w (suc j) [] = rw (take-nil {A = ℕ} w) refl
number-next w zero (b ∷ s) = refl
number-next w (suc j) (b ∷ s) = number-next w j s

module _ (s : List ℕ) (at width : ℕ) where
  -- n is the number in the bytes of the field from its byte i on
  pub record From (i n : ℕ) : Type 0 where
    pub is : n ≡ number (take (width - i) (drop (at + i) s))
    pub fits : n < (2 ^ 8) ^ (width - i)

  -- one byte further down
  pub from_next : (i n b : ℕ) → 0 < i → i ≤ width → b ≡ get_or s (at + (i - 1)) 0 → b < 2 ^ 8 → From i n → From (i - 1) (n * 256 + b)
  from_next i n b h w e small f =
      let k : width - (i - 1) ≡ suc (width - i) = omega arith in
      let j : suc (at + (i - 1)) ≡ at + i = omega arith in
      let m : n * 256 + b ≡ b + n * 256 = omega arith in
      record {
        is = rw (k, number-next (width - i) (at + (i - 1)) s, j, m, e, f.is);
        fits = rw (k, m) (one_more (width - i) b n small f.fits);
      }

  -- before the last of at most four bytes there is room for one more in 32 bits
  pub from_room : (i n : ℕ) → width ≤ 4 → 0 < i → From i n → n < 2 ^ 24
  from_room i n few h f =
      let m : (2 ^ 8) ^ (width - i) ≤ (2 ^ 8) ^ 3 = pow-le-pow_right (omega arith) {i = width - i} {j = 3} (omega arith) in
      omega (arith, f.fits)
