-- Theorem C: closed walks that together cross every link use at least as many different arcs as there are links and bridges. Assumes a valid plant.
use mathlib.Core.Path.{◌≡◌, sym, ap, ◌∙◌, subst}
use mathlib.Core.Logic.{◌⊎◌, inl, inr, ⊎_elim}
use mathlib.Core.Bool.{Bool}
use mathlib.Core.List.{List, [], ◌∷◌, flatten, append-nil}
use Prim.Native.Nat.{ℕ, ◌+◌, ◌*◌, ◌/◌, ◌≤◌}
use native.Mathlib.Omega.{arith}
use lib.Dec.{T}
use Rattle.lists.proofs.Tests.{eq?, T-or, or_cases}
use Rattle.lists.specs.Members.{In, memb}
use Rattle.lists.proofs.Members.{memb→in, in→memb, in?, in_append, in_append_left, in_append_right}
use Rattle.lists.specs.Count.{bit, count}
use Rattle.lists.proofs.Count.{bit_true, bit_false, bit_le_one, pairs, counts_le}
use Rattle.plant.specs.declared.Plant.{Plant}
use Rattle.plant.specs.Links.{live}
use Rattle.walks.specs.Walk.{here, step}
use Rattle.walks.proofs.Walk.{trans, through}
use Rattle.walks.specs.Arcs.{opposite, tail, head, Avoid, Valid}
use Rattle.walks.specs.Graph.{Crosses, To, ClosedWalk, ClosedWalks, bridge, live_links, bridges}
use Rattle.walks.proofs.Labels.{crossed-is, even_half, odd_half, opposite_even, opposite_odd, same-link}
use Rattle.walks.proofs.Tests.{bridge-live, bridge_arc}

module _ (p : Plant) (ok : Valid p) where
  -- ---- a closed walk that crosses a bridge crosses it both ways

  module _ (w : List ℕ) (c : ClosedWalk p w) where
    -- up to the first time that it comes to a's tail, a walk that never crosses the link of a the other way does not cross it at all
    cut : (a : ℕ) {y : ℕ} → (In (opposite a) w → ⊥) → To p (λ b. In b w) y (tail p a) → To p (Avoid p (a / 2)) y (tail p a)
    cut a n (here e) = here e
    cut a {y} n (step b i e r) = go (cut a n r) (eq? (b / 2) (a / 2))
      where
        same : (b ≡ a) ⊎ (b ≡ opposite a) → To p (Avoid p (a / 2)) y (tail p a)
        same (inl q) = here (sym e ∙ ap (tail p) q)
        same (inr q) = absurd (n (subst (λ (k : ℕ). In k w) q i))

        go : To p (Avoid p (a / 2)) (head p b) (tail p a) → (b / 2 ≡ a / 2) ⊎ (b / 2 ≡ a / 2 → ⊥) → To p (Avoid p (a / 2)) y (tail p a)
        go rest (inl q) = same (same-link b a q)
        go rest (inr q) = step b (c.arcs_alone b i, q) e rest

    -- from the head of an arc the walk goes on to its tail
    round : (a : ℕ) → In a w → To p (λ b. In b w) (head p a) (tail p a)
    round a i = let t = through {ok = λ b. In b w} w c.from c.from a c.walk (λ b j. j) i in trans t.1 t.0

    pub both_ways : (a : ℕ) → T (bridge p (a / 2)) → In a w → In (opposite a) w
    both_ways a t i = ⊎_elim (λ j. j) (λ n. absurd (bridge_arc p ok a (c.arcs_alone a i) t (cut a n (round a i)))) (in? (opposite a) w)

  -- ---- theorem C

  -- whatever arcs are crossed: if they are arcs of every link, and both of a bridge, then there are so many
  module _ (crossed : ℕ → Bool) (every-link : (l : ℕ) → T (live p l) → T (crossed (2 * l)) ⊎ T (crossed (2 * l + 1)))
      (both : (a : ℕ) → T (bridge p (a / 2)) → T (crossed a) → T (crossed (opposite a)))
    where
      pair : (l : ℕ) → bit (live p l) + bit (bridge p l) ≤ bit (crossed (2 * l)) + bit (crossed (2 * l + 1))
      pair l = go (T-or (live p l)) (T-or (bridge p l))
        where
          two : T (bridge p l) → T (crossed (2 * l)) ⊎ T (crossed (2 * l + 1)) → (bit (crossed (2 * l)) ≡ 1) × (bit (crossed (2 * l + 1)) ≡ 1)
          two t (inl i) = (bit_true (crossed (2 * l)) i, bit_true (crossed (2 * l + 1)) (rw opposite_even at (both (2 * l) (rw even_half t) i)))
          two t (inr i) = (bit_true (crossed (2 * l)) (rw opposite_odd at (both (2 * l + 1) (rw odd_half t) i)), bit_true (crossed (2 * l + 1)) i)

          one : T (crossed (2 * l)) ⊎ T (crossed (2 * l + 1)) → 1 ≤ bit (crossed (2 * l)) + bit (crossed (2 * l + 1))
          one (inl i) = omega (arith, bit_true (crossed (2 * l)) i)
          one (inr i) = omega (arith, bit_true (crossed (2 * l + 1)) i)

          go : T (live p l) ⊎ (T (live p l) → ⊥) → T (bridge p l) ⊎ (T (bridge p l) → ⊥) → bit (live p l) + bit (bridge p l) ≤ bit (crossed (2 * l)) + bit (crossed (2 * l + 1))
          go (inl h) (inl t) = let e = two t (every-link l h) in omega (arith, bit_le_one (live p l), bit_le_one (bridge p l))
          go (inl h) (inr n) = omega (arith, bit_le_one (live p l), bit_false (bridge p l) n, one (every-link l h))
          go (inr n) k = omega (arith, bit_false (live p l) n, bit_false (bridge p l) (λ t. n (bridge-live p l t)))

      pub at_least : live_links p + bridges p ≤ count (2 * p.count) crossed
      unfolding live_links bridges
      at_least = omega (arith, pairs p.count crossed, counts_le p.count (live p) (bridge p) (λ l. crossed (2 * l)) (λ l. crossed (2 * l + 1)) (λ l h. pair l))

  -- so it is with closed walks that together cross every link: each crosses a bridge both ways or not at all
  both_together : (ws : List (List ℕ)) → ClosedWalks p ws → (a : ℕ) → T (bridge p (a / 2)) → In a (flatten ws) → In (opposite a) (flatten ws)
  unfolding flatten
  both_together [] c a t i = i
  both_together (w ∷ ws) c a t i =
      ⊎_elim (λ j. in_append_left (opposite a) w (flatten ws) (both_ways w c.0 a t j)) (λ j. in_append_right (opposite a) w (flatten ws) (both_together ws c.1 a t j))
      (in_append a w (flatten ws) i)

  -- theorem C
  pub fewest_together : (ws : List (List ℕ)) → ClosedWalks p ws → ((l : ℕ) → T (live p l) → Crosses l (flatten ws))
      → live_links p + bridges p ≤ count (2 * p.count) (λ a. memb a (flatten ws))
  fewest_together ws c whole =
      at_least (λ a. memb a (flatten ws)) (λ l t. or_cases (memb (2 * l) (flatten ws)) (memb (2 * l + 1) (flatten ws)) ((crossed-is l (flatten ws)).1 (whole l t)))
      (λ a t i. in→memb (opposite a) (flatten ws) (both_together ws c a t (memb→in a (flatten ws) i)))

  -- for one closed walk
  pub fewest : (w : List ℕ) → ClosedWalk p w → ((l : ℕ) → T (live p l) → Crosses l w) → live_links p + bridges p ≤ count (2 * p.count) (λ a. memb a w)
  unfolding flatten
  fewest w c whole =
      subst (λ (v : List ℕ). live_links p + bridges p ≤ count (2 * p.count) (λ a. memb a v)) (append-nil w)
      (fewest_together (w ∷ []) (c, tt) (λ l t. subst (Crosses l) (sym (append-nil w)) (whole l t)))
