-- The consoles of a desk: the one that is put in its place is found there, and the other three are as they were. Assumes nothing.
use mathlib.Core.Path.{◌≡◌, refl, ap}
use mathlib.Core.List.{List, [], ◌∷◌, map}
use Prim.Native.Nat.{ℕ, zero, suc, min, ◌≤◌}
use lib.Dec.{eqb}
use lib.ListN.{length, get_or}
use native.Mathlib.Omega.{arith}
use Rattle.std.specs.Prelude.{slice_set}
use Rattle.lists.specs.Tests.{choose}
use Rattle.desk.specs.declared.Console.{Console}
use Rattle.desk.specs.declared.Desk.{Desk}
use Rattle.desk.specs.Console.{idle}
use Rattle.desk.specs.Desk.{fresh_desk, console_of, with_console}

-- what is so of each of the four
four : (P : ℕ → Type 0) → P 0 → P 1 → P 2 → P 3 → (k : ℕ) → k ≤ 3 → P k
four P a b c d zero h = a
four P a b c d (suc zero) h = b
four P a b c d (suc (suc zero)) h = c
four P a b c d (suc (suc (suc zero))) h = d
four P a b c d (suc (suc (suc (suc n)))) h = absurd (omega (arith, h))

-- and of any four consoles
four_consoles : (P : List Console → Type 0) → ((a b c d : Console) → P (a ∷ b ∷ c ∷ d ∷ [])) → (l : List Console) → length l ≡ 4 → P l
four_consoles P h [] e = absurd (omega (arith, e))
four_consoles P h (a ∷ []) e = absurd (omega (arith, e))
four_consoles P h (a ∷ b ∷ []) e = absurd (omega (arith, e))
four_consoles P h (a ∷ b ∷ c ∷ []) e = absurd (omega (arith, e))
four_consoles P h (a ∷ b ∷ c ∷ d ∷ []) e = h a b c d
four_consoles P h (a ∷ b ∷ c ∷ d ∷ f ∷ l) e = absurd (omega (arith, e))

-- the consoles with the one at place i put in its place
abbrev put : List Console → Console → ℕ → List Console
put l c i = map (λ j. choose (eqb j i) c (get_or l (min j 3) idle)) (0 ∷ 1 ∷ 2 ∷ 3 ∷ [])

-- setting place i of four makes just these
pub put_set : (c : Console) (i : ℕ) → i ≤ 3 → (l : List Console) → length l ≡ 4 → slice_set l i c ≡ put l c i
put_set c =
    four (λ i. (l : List Console) → length l ≡ 4 → slice_set l i c ≡ put l c i)
    (four_consoles (λ l. slice_set l 0 c ≡ put l c 0) (λ x y z w. refl))
    (four_consoles (λ l. slice_set l 1 c ≡ put l c 1) (λ x y z w. refl))
    (four_consoles (λ l. slice_set l 2 c ≡ put l c 2) (λ x y z w. refl))
    (four_consoles (λ l. slice_set l 3 c ≡ put l c 3) (λ x y z w. refl))

-- so the desk whose place is set, as the code sets it, is the one with that console
pub put_is : (l : List Console) (k : ℕ) (c : Console) → length l ≡ 4 → record { consoles = slice_set l (min k 3) c } ≡ with_console (record { consoles = l }) k c
unfolding with_console console_of
put_is l k c e = ap (λ (x : List Console). record { consoles = x }) (put_set c (min k 3) (omega arith) l e)

put_found : (l : List Console) (c : Console) (i : ℕ) → i ≤ 3 → get_or (put l c i) i idle ≡ c
put_found l c = four (λ i. get_or (put l c i) i idle ≡ c) refl refl refl refl

pub put_there : (d : Desk) (c : Console) (k : ℕ) → console_of (with_console d k c) k ≡ c
unfolding with_console console_of
put_there d c k = put_found d.consoles c (min k 3) (omega arith)

pub put_beside : (d : Desk) (c : Console) (k : ℕ) → k ≤ 3 → (j : ℕ) → j ≤ 3 → (k ≡ j → ⊥) → console_of (with_console d k c) j ≡ console_of d j
unfolding console_of with_console
put_beside d c =
    four (λ k. (j : ℕ) → j ≤ 3 → (k ≡ j → ⊥) → console_of (with_console d k c) j ≡ console_of d j)
    (four (λ j. (0 ≡ j → ⊥) → console_of (with_console d 0 c) j ≡ console_of d j) (λ n. absurd (n refl)) (λ n. refl) (λ n. refl) (λ n. refl))
    (four (λ j. (1 ≡ j → ⊥) → console_of (with_console d 1 c) j ≡ console_of d j) (λ n. refl) (λ n. absurd (n refl)) (λ n. refl) (λ n. refl))
    (four (λ j. (2 ≡ j → ⊥) → console_of (with_console d 2 c) j ≡ console_of d j) (λ n. refl) (λ n. refl) (λ n. absurd (n refl)) (λ n. refl))
    (four (λ j. (3 ≡ j → ⊥) → console_of (with_console d 3 c) j ≡ console_of d j) (λ n. refl) (λ n. refl) (λ n. refl) (λ n. absurd (n refl)))

pub fresh-idle : (k : ℕ) → k ≤ 3 → console_of fresh_desk k ≡ idle
unfolding console_of fresh_desk
fresh-idle = four (λ k. console_of fresh_desk k ≡ idle) refl refl refl refl
