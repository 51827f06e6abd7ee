-- Chains that are made from the highest label on: what they hold when the labels from a on are tried. Assumes nothing.
use mathlib.Core.Path.{◌≡◌, refl, sym, ap, ◌∙◌, subst}
use mathlib.Core.Logic.{◌⊎◌, inl, inr}
use mathlib.Core.Bool.{Bool, true, false}
use mathlib.Core.List.{List}
use Prim.Native.Nat.{ℕ, suc, ◌+◌, ◌-◌, ◌*◌, ◌≤◌, ◌<◌}
use native.Mathlib.Omega.{arith}
use lib.Dec.{T}
use lib.ListN.{length, set, replicate, length-set, length-replicate, get_or-replicate}
use borrow.Author.Tests.{eq-eqb, ne_eqb}
use Rattle.lists.specs.Arrays.{at}
use Rattle.lists.specs.Tests.{choose}
use Rattle.lists.specs.Least.{least_from}
use Rattle.lists.proofs.Least.{First, firsts}
use Rattle.lists.proofs.Stepwise.{first_step}
use Rattle.lists.proofs.Tests.{eq?, false_T}
use Rattle.limits.specs.Limits.{max_switches, max_links}
use Rattle.arcs.specs.Chains.{leaving, following, Chained}
use Rattle.arcs.proofs.Tables.{set_cases}

module _ (n : ℕ) (tl : ℕ → ℕ) (ok : ℕ → Bool) where
  pub following_end : (x : ℕ) → following n tl ok x n ≡ n
  unfolding following least_from
  following_end x = let e : n - n ≡ 0 = omega arith in rw e

  -- the first from a on: a itself, or the first of those after it
  pub following-step : (x a : ℕ) → a < n → following n tl ok x a ≡ choose (leaving n tl ok x a) a (following n tl ok x (suc a))
  unfolding following
  following-step x a h = let e : n - a ≡ suc (n - suc a) = omega arith in rw e (first_step (n - suc a) a (leaving n tl ok x))

  -- the first from a on: none before it leaves x, and below n it does itself
  pub following-is : (x a : ℕ) → a ≤ n → First a n (leaving n tl ok x) (following n tl ok x a)
  unfolding following
  following-is x a h = let e : a + (n - a) ≡ n = omega arith in rw e at (firsts (n - a) a (leaving n tl ok x))

  -- the labels from a on are in their chains
  pub record ChainedFrom (a : ℕ) (first after : List ℕ) : Type 0 where
    pub first_places : length first ≡ max_switches
    pub after_places : length after ≡ 2 * max_links
    pub firsts : (x : ℕ) → x < max_switches → at first x ≡ following n tl ok x a
    pub afters : (b : ℕ) → a ≤ b → b < n → T (ok b) → at after b ≡ following n tl ok (tl b) (suc b)

  pub chain_none : ChainedFrom n (replicate max_switches n) (replicate (2 * max_links) n)
  chain_none = record {
    first_places = length-replicate max_switches n;
    after_places = length-replicate (2 * max_links) n;
    firsts = λ x h. get_or-replicate max_switches x n 0 h ∙ sym (following_end x);
    afters = λ b h i t. absurd (omega arith);
  }

  pub chain_all : {first after : List ℕ} → ChainedFrom 0 first after → Chained n tl ok first after
  chain_all c = record { firsts = c.firsts; afters = λ b h t. c.afters b (omega arith) h t }

  -- one label more
  module _ (a : ℕ) (some : 0 < a) (below : a ≤ n) {first after : List ℕ} (c : ChainedFrom a first after) where
    abbrev b : ℕ
    b = a - 1

    next : suc b ≡ a
    next = omega arith

    step : (x : ℕ) → following n tl ok x b ≡ choose (leaving n tl ok x b) b (following n tl ok x a)
    step x = following-step x b (omega arith) ∙ ap (λ (k : ℕ). choose (leaving n tl ok x b) b (following n tl ok x k)) next

    -- what is known of label b, and of those from a on
    all : (P : ℕ → Type 0) → P b → ((k : ℕ) → a ≤ k → P k) → (k : ℕ) → b ≤ k → P k
    all P h f k l = go (eq? k b)
      where
        go : (k ≡ b) ⊎ (k ≡ b → ⊥) → P k
        go (inl e) = subst P (sym e) h
        go (inr e) = f k (omega (arith, e))

    -- it is not flagged
    pub chain_pass : ok b ≡ false → ChainedFrom b first after
    chain_pass e = record {
      first_places = c.first_places;
      after_places = c.after_places;
      firsts = λ x h. c.firsts x h ∙ sym (step x ∙ rw e);
      afters = all (λ k. k < n → T (ok k) → at after k ≡ following n tl ok (tl k) (suc k)) (λ _ t. absurd (false_T _ e t)) c.afters;
    }

    -- it is flagged, and comes before those of its tail
    pub chain_put : ok b ≡ true → tl b < max_switches → a ≤ 2 * max_links → ChainedFrom b (set first (tl b) b) (set after b (at first (tl b)))
    chain_put e h i = record {
      first_places = length-set first (tl b) b ∙ c.first_places;
      after_places = length-set after b (at first (tl b)) ∙ c.after_places;
      firsts = set_cases first (tl b) b 0 (omega (arith, c.first_places)) (λ x y. x < max_switches → y ≡ following n tl ok x b)
          (λ _. sym (step (tl b) ∙ rw (e, eq-eqb (tl b) (tl b) refl))) (λ x f l. c.firsts x l ∙ sym (step x ∙ rw (e, ne_eqb (tl b) x (λ q. f (sym q)))));
      afters = set_cases after b (at first (tl b)) 0 (omega (arith, c.after_places)) (λ k y. b ≤ k → k < n → T (ok k) → y ≡ following n tl ok (tl k) (suc k))
          (λ _ _ _. c.firsts (tl b) h ∙ ap (following n tl ok (tl b)) (sym next)) (λ k f l. c.afters k (omega (arith, f)));
    }
