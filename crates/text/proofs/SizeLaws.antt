-- The most bytes of a line, by the digits of its numbers. Assumes nothing.
use mathlib.Core.List.{List, [], ◌∷◌, flatten}
use Prim.Native.Nat.{ℕ, ◌+◌, ◌*◌, ◌^◌, ◌≤◌, ◌<◌}
use native.Mathlib.Omega.{arith}
use mir.Syntax.{w16}
use mir.Val.{Fits}
use lib.ListN.{length, length-append}
use Rattle.lists.specs.Members.{Each}
use Rattle.text.specs.Lines.{plant_word, trail_word, each, spaced, line, summary_line, trail_line, trail_lines}
use Rattle.text.specs.Sizes.{digits_short, digits16, line_most, summary_most, trails_most}
use Rattle.text.proofs.DecimalLaws.{decimal-most}
use Rattle.text.proofs.PutLaws.{line-size}

-- each of these numbers has at most so many digits
abbrev pub Below : ℕ → List ℕ → Type 0
Below digits ns = Each (λ n. n < 10 ^ digits) ns

-- pieces of at most w bytes each
pub each-most : {A : Type 0} (f : A → List ℕ) (w : ℕ) (xs : List A) → Each (λ x. length (f x) ≤ w) xs → length (each f xs) ≤ length xs * w
each-most f w [] h = omega arith
each-most f w (x ∷ xs) h = omega (arith, length-append (f x) (each f xs), h.0, each-most f w xs h.1)

module _ (digits : ℕ) (some : 1 ≤ digits) where
  spaced-each : (ns : List ℕ) → Below digits ns → Each (λ n. length (spaced n) ≤ 1 + digits) ns
  spaced-each [] h = tt
  spaced-each (n ∷ ns) h = (omega (arith, decimal-most n digits some h.0), spaced-each ns h.1)

  pub line-most : (word ns : List ℕ) → Below digits ns → length (line word ns) ≤ line_most (length word) (length ns) digits
  line-most word ns h = omega (arith, line-size word ns, each-most spaced (1 + digits) ns (spaced-each ns h))

-- numbers of 16 bits
pub summary_most_lem : (a b c d e : ℕ) → Fits w16 a → Fits w16 b → Fits w16 c → Fits w16 d → Fits w16 e → length (summary_line a b c d e) ≤ summary_most
summary_most_lem a b c d e f g h i j =
    line-most digits16 (omega arith) plant_word (a ∷ b ∷ c ∷ d ∷ e ∷ []) (omega (arith, f), (omega (arith, g), (omega (arith, h), (omega (arith, i), (omega (arith, j), tt)))))

-- labels below 1000
pub trails-most : (ws : List (List ℕ)) → Each (Below digits_short) ws → length (trail_lines ws) ≤ trails_most (length ws) (length (flatten ws))
unfolding flatten
trails-most [] h = omega arith
trails-most (w ∷ ws) h =
    omega (
      arith,
      length-append (trail_line w) (trail_lines ws),
      length-append w (flatten ws),
      line-most digits_short (omega arith) trail_word w h.0,
      trails-most ws h.1,
    )
