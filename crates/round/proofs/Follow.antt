-- Labels that are told hop by hop: one more, none left, and those of a list in which each follows from the one before. Assumes nothing.
use mathlib.Core.Path.{◌≡◌, refl, sym, ap, ◌∙◌, subst}
use mathlib.Core.Logic.{inl, inr}
use mathlib.Core.List.{List, [], ◌∷◌}
use Prim.Native.Nat.{ℕ, zero, suc, ◌+◌, ◌-◌, ◌*◌, ◌≤◌, ◌<◌}
use native.Mathlib.Omega.{arith}
use lib.ListN.{length}
use Rattle.lists.specs.Arrays.{at}
use Rattle.lists.specs.Members.{In}
use Rattle.limits.specs.Limits.{max_links}
use Rattle.walks.specs.Walk.{Walk}
use Rattle.round.specs.declared.Round.{Round}
use Rattle.round.specs.Round.{follow, labels_of, Labels}

module _ (next : ℕ → ℕ) where
  pub follow_one : (a n i : ℕ) → i < n → follow next a (n - i) ≡ a ∷ follow next (next a) (n - (i + 1))
  follow_one a n i h = let e : n - i ≡ suc (n - (i + 1)) = omega arith in ap (follow next a) e

  pub follow-none : (a n i : ℕ) → n ≤ i → follow next a (n - i) ≡ []
  follow-none a n i h = let e : n - i ≡ 0 = omega arith in ap (follow next a) e

  pub follow-length : (n a : ℕ) → length (follow next a n) ≡ n
  follow-length zero a = refl
  follow-length (suc n) a = ap suc (follow-length n (next a))

  -- a list in which each label is the one after the label before
  pub follow-walk : (w : List ℕ) (a z : ℕ) → Walk (λ b. b) next w a z → follow next a (length w) ≡ w
  follow-walk [] a z p = refl
  follow-walk (b ∷ w) a z p = ap (λ (k : ℕ). follow next k (suc (length w))) (sym p.0) ∙ ap (λ (v : List ℕ). b ∷ v) (follow-walk w (next b) z p.1)

-- ---- what is left of a round trail after i hops, where a is the next one

abbrev pub rest : Round → ℕ → ℕ → List ℕ
rest x i a = follow (at x.next) a (x.hops - i)

pub record Left (x : Round) (i a : ℕ) : Type 0 where
  pub in_all : i ≤ x.hops
  pub labels : (b : ℕ) → In b (rest x i a) → b < 2 * max_links

module _ (x : Round) where
  none : x.hops - 0 ≡ x.hops
  none = omega arith

  pub left-all : labels_of x ≡ rest x 0 x.begin
  unfolding labels_of
  left-all = sym (ap (follow (at x.next) x.begin) none)

  pub left-length : length (labels_of x) ≡ x.hops
  unfolding labels_of
  left-length = follow-length (at x.next) x.hops x.begin

  pub left-begin : Labels x → Left x 0 x.begin
  unfolding labels_of
  left-begin h = record { in_all = omega arith; labels = λ b j. h b (subst (λ (n : ℕ). In b (follow (at x.next) x.begin n)) none j) }

  module _ (i a : ℕ) (l : Left x i a) (h : i < x.hops) where
    pub left_is : rest x i a ≡ a ∷ rest x (i + 1) (at x.next a)
    left_is = follow_one (at x.next) a x.hops i h

    pub left_label : a < 2 * max_links
    left_label = l.labels a (subst (λ (w : List ℕ). In a w) (sym left_is) (inl refl))

    pub left-next : Left x (i + 1) (at x.next a)
    left-next = record { in_all = omega arith; labels = λ b j. l.labels b (subst (λ (w : List ℕ). In b w) (sym left_is) (inr j)) }
