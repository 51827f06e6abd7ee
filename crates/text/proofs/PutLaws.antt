-- The loop that lays pieces such as numbers: what is laid before a turn, and what the turn lays, is what is laid after it. Assumes nothing.
use mathlib.Core.Path.{◌≡◌, refl, sym, ap, ◌∙◌}
use mathlib.Core.List.{List, [], ◌∷◌, ◌++◌, append-nil, append_assoc}
use Prim.Native.Nat.{ℕ, zero, suc, ◌+◌, ◌≤◌, ◌<◌}
use native.Mathlib.Numerals.{add-one}
use native.Mathlib.Omega.{arith}
use lib.ListN.{length, get_or, take, length-append}
use lib.Seq.{take-suc}
use Rattle.text.specs.Lines.{newline, each, spaced_all, line}
use Rattle.text.specs.Laid.{Room, Laid}
use Rattle.text.proofs.LaidLaws.{laid_same, laid_then}

-- ---- pieces, one by one

module _ {A : Type 0} (f : A → List ℕ) where
  -- the pieces of two lists, one after the other
  each_append : (xs ys : List A) → each f (xs ++ ys) ≡ each f xs ++ each f ys
  each_append [] ys = refl
  each_append (x ∷ xs) ys = ap (λ (l : List ℕ). f x ++ l) (each_append xs ys) ∙ sym (append_assoc (f x) (each f xs) (each f ys))

  each_take : (xs : List A) (i : ℕ) (d : A) → i < length xs → each f (take (i + 1) xs) ≡ each f (take i xs) ++ f (get_or xs i d)
  each_take xs i d h =
      ap (λ (k : ℕ). each f (take k xs)) (add-one i)
      ∙ ap (each f) (take-suc xs i d h)
      ∙ each_append (take i xs) (get_or xs i d ∷ [])
      ∙ ap (λ (l : List ℕ). each f (take i xs) ++ l) (append-nil (f (get_or xs i d)))

  -- the pieces of the first members take no more than those of more of them
  each-front : (xs : List A) (i n : ℕ) → i ≤ n → length (each f (take i xs)) ≤ length (each f (take n xs))
  each-front xs zero n h = omega arith
  each-front [] (suc i) n h = omega arith
  each-front (x ∷ xs) (suc i) zero h = absurd (omega arith)
  each-front (x ∷ xs) (suc i) (suc n) h = omega (arith, length-append (f x) (each f (take i xs)), length-append (f x) (each f (take n xs)), each-front xs i n (omega arith))

-- after i turns of a loop that lays the pieces of the first n members of xs from place `at` of b on
pub record Turns {A : Type 0} (f : A → List ℕ) (b : List ℕ) (at : ℕ) (xs : List A) (n : ℕ) (c : List ℕ) (next i : ℕ) : Type 0 where
  pub count : i ≤ n
  pub laid : Laid b at (each f (take i xs)) c next

module _ {A : Type 0} {f : A → List ℕ} {b : List ℕ} {at : ℕ} {xs : List A} {n : ℕ} {c : List ℕ} {next i : ℕ} (t : Turns f b at xs n c next i) where
  pub turns-all : n ≤ i → Laid b at (each f (take n xs)) c next
  turns-all h = let e : i ≡ n = omega (arith, t.count) in rw e at t.laid

  module _ (d : A) (few : n ≤ length xs) (h : i < n) where
    -- there is room for the next piece
    pub turns-room : Room b at (each f (take n xs)) → Room c next (f (get_or xs i d))
    turns-room room =
        omega (
          arith,
          t.laid.place,
          laid_same t.laid,
          each-front f xs (i + 1) n (omega arith),
          ap length (each_take f xs i d (omega arith)),
          length-append (each f (take i xs)) (f (get_or xs i d)),
        )

    pub turns_next : {c' : List ℕ} {next' : ℕ} → Laid c next (f (get_or xs i d)) c' next' → Turns f b at xs n c' next' (i + 1)
    turns_next l = record { count = omega arith; laid = rw (each_take f xs i d (omega arith)) (laid_then t.laid l) }

-- ---- a line

pub line-laid : {b : List ℕ} {at : ℕ} (word ns : List ℕ) {c d e : List ℕ} {i j k : ℕ} → Laid b at word c i → Laid c i (spaced_all ns) d j → Laid d j (newline ∷ []) e k → Laid b at (line word ns) e k
unfolding line
line-laid word ns l m n = laid_then l (laid_then m n)

-- the bytes of its parts
pub line-size : (word ns : List ℕ) → length (line word ns) ≡ length word + length (spaced_all ns) + 1
unfolding line
line-size word ns = omega (arith, length-append word (spaced_all ns ++ (newline ∷ [])), length-append (spaced_all ns) (newline ∷ []))

-- where there is room for a line, there is room for its parts
module _ (b : List ℕ) (at : ℕ) (word ns : List ℕ) (room : Room b at (line word ns)) where
  pub line_word : Room b at word
  line_word = omega (arith, line-size word ns)

  module _ {c : List ℕ} {i : ℕ} (l : Laid b at word c i) where
    pub line-numbers : Room c i (spaced_all ns)
    line-numbers = omega (arith, line-size word ns, l.place, laid_same l)

    pub line_end : {d : List ℕ} {j : ℕ} → Laid c i (spaced_all ns) d j → Room d j (newline ∷ [])
    line_end m = omega (arith, line-size word ns, l.place, laid_same l, m.place, laid_same m)
