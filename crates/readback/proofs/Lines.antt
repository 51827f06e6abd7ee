-- Tests tried one after the other, at numbers, at members and at a front, and the lines of a page and their numbers. Assumes nothing.
use mathlib.Core.Path.{◌≡◌, refl, sym, ap}
use mathlib.Core.Logic.{◌⊎◌, inl, inr}
use mathlib.Core.Bool.{Bool, true}
use mathlib.Core.List.{List, [], ◌∷◌}
use Prim.Native.Nat.{ℕ, zero, suc, ◌+◌, ◌-◌, ◌*◌, ◌≤◌, ◌<◌}
use native.Mathlib.Omega.{arith}
use borrow.Author.Tests.{eq-eqb, eqb-true}
use lib.Dec.{eqb}
use lib.ListN.{length, take, drop}
use Rattle.lists.specs.Arrays.{at}
use Rattle.lists.specs.Numbers.{every}
use Rattle.std.specs.List.{list_all, range_with_len, starts_with}
use Rattle.std.specs.Cmp.Lexicographic.{pointwise}
use Rattle.columns.specs.Fields.{left_in}
use Rattle.sheet.specs.Page.{total_word}
use Rattle.lists.proofs.Numbers.{every-at}
use Rattle.lists.proofs.Stepwise.{every_true}
use Rattle.lists.proofs.Tests.{eq?, same_test, and_true, T_true, true_T}
use Rattle.sheet.specs.Columns.{switch_columns, line_columns, switch_end, rules_end, links_end}
use Rattle.sheet.specs.Form.{lines_in, line_at, of_total}
use Rattle.sheet.proofs.Form.{Plain}
use Rattle.readback.specs.Held.{Line, Held}

-- ---- a test tried at each of n numbers, or at each member

module _ (f : ℕ → Bool) where
  each_passes : (a n : ℕ) → list_all f (range_with_len a n) ≡ true → (k : ℕ) → a ≤ k → k < a + n → f k ≡ true
  each_passes a zero e k h i = absurd (omega arith)
  each_passes a (suc n) e k h i = go (eq? k a) (each_passes (a + 1) n (and_true (f a) _ e).1 k)
    where
      go : (k ≡ a) ⊎ (k ≡ a → ⊥) → (a + 1 ≤ k → k < a + 1 + n → f k ≡ true) → f k ≡ true
      go (inl q) rec = rw q (and_true (f a) _ e).0
      go (inr q) rec = rec (omega (arith, q)) (omega arith)

  all_pass : (a n : ℕ) → ((k : ℕ) → a ≤ k → k < a + n → f k ≡ true) → list_all f (range_with_len a n) ≡ true
  all_pass a zero h = refl
  all_pass a (suc n) h = rw (h a (omega arith) (omega arith)) (all_pass (a + 1) n (λ k i j. h k (omega arith) (omega arith)))

  pub tried_all : (n : ℕ) → list_all f (range_with_len 0 n) ≡ every n f
  tried_all n =
      same_test (list_all f (range_with_len 0 n)) (every n f) (λ e. every_true n f (λ k h. each_passes 0 n e k (omega arith) (omega arith)))
      (λ e. all_pass 0 n (λ k _ h. T_true (f k) (every-at n f (true_T (every n f) e) k (omega arith))))

pub eqb-swap : (a b : ℕ) → eqb a b ≡ eqb b a
eqb-swap a b = same_test (eqb a b) (eqb b a) (λ e. eq-eqb b a (sym (eqb-true a b e))) (λ e. eq-eqb a b (sym (eqb-true b a e)))

-- ---- a front that is tried for

agrees : (ys xs : List ℕ) → length ys ≤ length xs → pointwise eqb ys (take (length ys) xs) ≡ true → (i : ℕ) → i < length ys → eqb (at xs i) (at ys i) ≡ true
agrees [] xs h e i l = absurd (omega arith)
agrees (y ∷ ys) [] h e i l = absurd (omega arith)
agrees (y ∷ ys) (x ∷ xs) h e zero l = eq-eqb x y (sym (eqb-true y x (and_true (eqb y x) _ e).0))
agrees (y ∷ ys) (x ∷ xs) h e (suc i) l = agrees ys xs (omega arith) (and_true (eqb y x) _ e).1 i (omega arith)

agree : (ys xs : List ℕ) → length ys ≤ length xs → ((i : ℕ) → i < length ys → eqb (at xs i) (at ys i) ≡ true) → pointwise eqb ys (take (length ys) xs) ≡ true
agree [] xs h g = refl
agree (y ∷ ys) [] h g = absurd (omega arith)
agree (y ∷ ys) (x ∷ xs) h g = rw (eq-eqb y x (sym (eqb-true x y (g 0 (omega arith))))) (agree ys xs (omega arith) (λ i l. g (suc i) (omega arith)))

-- ---- a line of a page

-- the bytes of a line, as a part of the page
pub line-part : (b : List ℕ) (x : ℕ) → take (line_columns * x + line_columns - line_columns * x) (drop (line_columns * x) b) ≡ line_at b x
line-part b x = let e : line_columns * x + line_columns - line_columns * x ≡ line_columns = omega arith in ap (λ (n : ℕ). take n (drop (line_columns * x) b)) e

-- ---- its first field

pub total_tested : (line : List ℕ) → Line line → starts_with eqb line (left_in switch_columns total_word) ≡ of_total line
unfolding of_total
total_tested line h =
    let field = left_in switch_columns total_word in
    same_test (starts_with eqb line field) (of_total line) (λ e. every_true switch_columns _ (agrees field line (omega arith) e))
    (λ e. agree field line (omega arith) (λ i l. T_true _ (every-at switch_columns _ (true_T _ e) i l)))

-- ---- the numbers of plain lines

module _ (b : List ℕ) (plain : (x : ℕ) → x < lines_in b → Plain (line_at b x)) (x : ℕ) (h : x < lines_in b) where
  pub held-rules : Held b switch_end rules_end x
  held-rules = record { within = omega arith; rises = omega arith; number = (plain x h).rules }

  pub held-links : Held b rules_end links_end x
  held-links = record { within = omega arith; rises = omega arith; number = (plain x h).links }
