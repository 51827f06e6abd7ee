-- Laws of the links at a switch: at most as many as there are, none at a number that is no switch; and each is at two switches, so that over all switches there are twice as
-- many. Assumes nothing.
use mathlib.Core.Path.{◌≡◌, refl, sym, ap, ◌∙◌}
use mathlib.Core.Logic.{◌⊎◌, inl, inr, ⊎_elim}
use mathlib.Core.Bool.{true, false, ◌||◌}
use Prim.Native.Nat.{ℕ, zero, suc, ◌+◌, ◌*◌, ◌≤◌, ◌<◌}
use native.Mathlib.Omega.{arith}
use borrow.Author.Tests.{eq-eqb, ne_eqb}
use lib.Dec.{eqb, eqb→eq}
use Rattle.lists.specs.Count.{bit, count}
use Rattle.lists.specs.Sum.{sum}
use Rattle.lists.proofs.Count.{count_le, count_none}
use Rattle.lists.proofs.Sum.{sum_same, sum_plus, sum-none, sum_one}
use Rattle.lists.proofs.Tests.{bool?, eq?, and_left, and_right, or_cases}
use Rattle.plant.specs.declared.Plant.{Plant}
use Rattle.plant.specs.Links.{first, second, live}
use Rattle.limits.specs.Sound.{Sound}
use Rattle.walks.specs.Graph.{live_links, is_at, links_at}

-- a link with two different ends is at each of them
pub at-ends : (a b x : ℕ) → (a ≡ b → ⊥) → bit (eqb a x || eqb b x) ≡ bit (eqb a x) + bit (eqb b x)
at-ends a b x n = go (eq? a x) (eq? b x)
  where
    go : (a ≡ x) ⊎ (a ≡ x → ⊥) → (b ≡ x) ⊎ (b ≡ x → ⊥) → bit (eqb a x || eqb b x) ≡ bit (eqb a x) + bit (eqb b x)
    go (inl e) (inl f) = absurd (n (e ∙ sym f))
    go (inl e) (inr f) = rw (eq-eqb a x e, ne_eqb b x f) refl
    go (inr e) (inl f) = rw (ne_eqb a x e, eq-eqb b x f) refl
    go (inr e) (inr f) = rw (ne_eqb a x e, ne_eqb b x f) refl

module _ (p : Plant) where
  pub links-most : (x : ℕ) → links_at p x ≤ live_links p
  unfolding links_at live_links
  links-most x = count_le p.count (is_at p x) (live p) (λ l h t. and_left (live p l) (eqb (first p l) x || eqb (second p l) x) t)

  module _ (ok : Sound p) where
    -- an end of a link is a switch
    pub links-none : (x : ℕ) → p.switches ≤ x → links_at p x ≡ 0
    unfolding links_at
    links-none x h =
        count_none p.count (is_at p x)
        (λ l i t. ⊎_elim (λ u. omega (arith, eqb→eq (first p l) x u, ok.first_in_is l i)) (λ u. omega (arith, eqb→eq (second p l) x u, ok.second_in l i)) (or_cases (eqb (first p l) x) (eqb (second p l) x) (and_right (live p l) (eqb (first p l) x || eqb (second p l) x) t)))

    -- over all switches a link in service is counted twice
    one_link : (l : ℕ) → l < p.count → sum p.switches (λ x. bit (is_at p x l)) ≡ 2 * bit (live p l)
    one_link l h = go (bool? (live p l))
      where
        go : (live p l ≡ true) ⊎ (live p l ≡ false) → sum p.switches (λ x. bit (is_at p x l)) ≡ 2 * bit (live p l)
        go (inl e) =
            sum_same p.switches (λ x. bit (is_at p x l)) (λ x. bit (eqb (first p l) x) + bit (eqb (second p l) x)) (λ x i. rw e (at-ends (first p l) (second p l) x (ok.apart l h)))
            ∙ sum_plus p.switches (λ x. bit (eqb (first p l) x)) (λ x. bit (eqb (second p l) x))
            ∙ omega (arith, sum_one (first p l) p.switches (ok.first_in_is l h), sum_one (second p l) p.switches (ok.second_in l h), ap bit e)
        go (inr e) = sum-none p.switches (λ x. bit (is_at p x l)) (λ x i. rw e refl) ∙ omega (arith, ap bit e)

    links_upto : (n : ℕ) → n ≤ p.count → sum p.switches (λ x. count n (is_at p x)) ≡ 2 * count n (live p)
    unfolding count
    links_upto zero h = sum-none p.switches (λ x. 0) (λ x i. refl)
    links_upto (suc n) h =
        sum_plus p.switches (λ x. bit (is_at p x n)) (λ x. count n (is_at p x)) ∙ omega (arith, one_link n (omega arith), links_upto n (omega arith))

    pub links_twice : sum p.switches (links_at p) ≡ 2 * live_links p
    unfolding links_at live_links
    links_twice = links_upto p.count (omega arith)
