-- An array that is filled place by place by a function, and has one value past the place reached. Assumes nothing.
use mathlib.Core.Path.{◌≡◌, refl, sym, ◌∙◌, subst}
use mathlib.Core.Logic.{◌⊎◌, inl, inr}
use mathlib.Core.List.{List}
use Prim.Native.Nat.{ℕ, ◌+◌, ◌*◌, ◌≤◌, ◌<◌}
use native.Mathlib.Omega.{arith}
use lib.ListN.{length, get_or, set, replicate, length-set, length-replicate}
use lib.Seq.{get_or-set_same, get_or-set_other}
use Rattle.lists.proofs.Tests.{below?}
use Rattle.lists.proofs.Stepwise.{upto}
use Rattle.lists.proofs.Members.{get_d_same}

module _ {A : Type 0} (z : A) (n : ℕ) (f : ℕ → A) where
  -- the places below i hold the values of f, and those from i on hold z
  pub record Laid (i : ℕ) (l : List A) : Type 0 where
    pub places : length l ≡ n
    pub tells : (j : ℕ) → j < i → get_or l j z ≡ f j
    pub clear : (j : ℕ) → i ≤ j → get_or l j z ≡ z

  pub laid_none : Laid 0 (replicate n z)
  laid_none = record { places = length-replicate n z; tells = λ j h. absurd (omega arith); clear = λ j h. get_d_same n j z }

  module _ (i : ℕ) (l : List A) (d : Laid i l) where
    -- the next place is right, and the others are as they were
    laid_next : (m : List A) → length m ≡ n → ((j : ℕ) → (j ≡ i → ⊥) → get_or m j z ≡ get_or l j z) → get_or m i z ≡ f i → Laid (i + 1) m
    laid_next m long same right = record {
      places = long;
      tells = upto {P = λ j. get_or m j z ≡ f j} (λ j h. same j (λ e. omega arith) ∙ d.tells j h) right;
      clear = λ j h. same j (λ e. omega arith) ∙ d.clear j (omega arith);
    }

    pub laid_put : (a : A) → i < n → a ≡ f i → Laid (i + 1) (set l i a)
    laid_put a h e =
        laid_next (set l i a) (length-set l i a ∙ d.places) (λ j q. get_or-set_other l i j a z q) (get_or-set_same l i a z (omega (arith, d.places)) ∙ e)

    -- a place where f has the value z is right as it is
    pub laid_pass : f i ≡ z → Laid (i + 1) l
    laid_pass e = laid_next l d.places (λ j q. refl) (d.clear i (omega arith) ∙ sym e)

    -- f has the value z from i on
    pub laid_all : ((j : ℕ) → i ≤ j → f j ≡ z) → (j : ℕ) → get_or l j z ≡ f j
    laid_all g j = go (below? j i)
      where
        go : (j < i) ⊎ (i ≤ j) → get_or l j z ≡ f j
        go (inl h) = d.tells j h
        go (inr h) = d.clear j h ∙ sym (g j h)

  -- ---- two places a turn
  module _ (k : ℕ) (l : List A) (d : Laid (2 * k) l) where
    next : 2 * k + 1 + 1 ≡ 2 * (k + 1)
    next = omega arith

    pub laid_put_two : (a b : A) → 2 * k + 1 < n → a ≡ f (2 * k) → b ≡ f (2 * k + 1) → Laid (2 * (k + 1)) (set (set l (2 * k) a) (2 * k + 1) b)
    laid_put_two a b h e e' =
        subst (λ (i : ℕ). Laid i (set (set l (2 * k) a) (2 * k + 1) b)) next (laid_put (2 * k + 1) (set l (2 * k) a) (laid_put (2 * k) l d a (omega arith) e) b h e')

    pub laid_pass_two : f (2 * k) ≡ z → f (2 * k + 1) ≡ z → Laid (2 * (k + 1)) l
    laid_pass_two e e' = subst (λ (i : ℕ). Laid i l) next (laid_pass (2 * k + 1) l (laid_pass (2 * k) l d e) e')
