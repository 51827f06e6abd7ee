-- Arcs in use of several parts together, and of one of these parts alone: where the arcs that leave a switch of the part are the same, so are the chains there and the distances
-- within it, and no walk leads out of it. Assumes that the part is strongly connected over its arcs.
use mathlib.Core.Path.{◌≡◌, refl, sym, ap, subst}
use mathlib.Core.Logic.{◌⊎◌, inl, inr, ⊎_elim}
use mathlib.Core.Bool.{Bool, true, false, ◌&&◌}
use mathlib.Core.List.{List, [], ◌∷◌}
use Prim.Native.Nat.{ℕ, ◌-◌, ◌≤◌, ◌<◌}
use native.Mathlib.Omega.{arith}
use borrow.Author.Tests.{ne_eqb}
use lib.Dec.{T}
use Rattle.lists.specs.Members.{In}
use Rattle.lists.specs.Least.{least_from}
use Rattle.lists.proofs.Tests.{eq?}
use Rattle.lists.proofs.Count.{count-all}
use Rattle.walks.specs.Walk.{Walk}
use Rattle.walks.proofs.Walk.{keeps}
use Rattle.routes.specs.Distance.{dist}
use Rattle.routes.specs.Meaning.{InUse, Strong}
use Rattle.routes.proofs.Fewest.{dist-fewest}
use Rattle.routes.proofs.Trails.{dist_lt}
use Rattle.arcs.specs.Chains.{leaving, following}

-- the part that arcs in use join from a root is theirs alone
pub same_part : {S n : ℕ} {tl hd : ℕ → ℕ} {own : ℕ → Bool} {r : ℕ} {part other : ℕ → Bool} → Strong S n tl hd own r part → Strong S n tl hd own r other → (x : ℕ) → T (part x) → T (other x)
same_part {r = r} {other = other} one two x h = keeps (λ y. T (other y)) (λ a k t. two.heads a k.0 k.1) two.starts (one.joined r x one.starts h)

-- S switches, the labels below n, their tails and heads; `all` are in use, and `own` of these from the root r, whose part has the switches `part`
module _ (S n : ℕ) (tl hd : ℕ → ℕ) (all own : ℕ → Bool) (r : ℕ) (part : ℕ → Bool) (strong : Strong S n tl hd own r part)
    (inside : (a : ℕ) → T (all a) → tl a < S) (same : (a : ℕ) → T (part (tl a)) → all a ≡ own a)
  where
    -- ---- chains

    leaving-same : (x : ℕ) → T (part x) → (a : ℕ) → leaving n tl all x a ≡ leaving n tl own x a
    leaving-same x h a = go (eq? (tl a) x)
      where
        none : (b c : Bool) → b && false ≡ c && false
        none true true = refl
        none true false = refl
        none false true = refl
        none false false = refl

        go : (tl a ≡ x) ⊎ (tl a ≡ x → ⊥) → leaving n tl all x a ≡ leaving n tl own x a
        go (inl e) = rw (same a (subst (λ (y : ℕ). T (part y)) (sym e) h)) refl
        go (inr d) = rw (ne_eqb (tl a) x d) (none (all a) (own a))

    pub following-same : (x k : ℕ) → T (part x) → following n tl all x k ≡ following n tl own x k
    unfolding following
    following-same x k h = ap (least_from (n - k) k) (λ j a. leaving-same x h a j)

    -- ---- distances

    own_arc : (a x : ℕ) → T (part x) → tl a ≡ x → InUse n all a → InUse n own a
    own_arc a x h e q = (q.0, subst (λ (t : Bool). T t) (same a (subst (λ (y : ℕ). T (part y)) (sym e) h)) q.1)

    -- a walk from a switch of the part goes over its own arcs
    own-arcs : (w : List ℕ) (u v : ℕ) → T (part u) → Walk tl hd w u v → ((a : ℕ) → In a w → InUse n all a) → (a : ℕ) → In a w → InUse n own a
    own-arcs [] u v h k uses a z = absurd z
    own-arcs (b ∷ w) u v h k uses a i =
        let q = own_arc b u h k.0 (uses b (inl refl)) in
        let rest = own-arcs w (hd b) v (strong.heads b q.0 q.1) k.1 (λ c l. uses c (inr l)) a in
        ⊎_elim (λ e. subst (InUse n own) (sym e) q) rest i

    all_arc : (a : ℕ) → InUse n own a → InUse n all a
    all_arc a q = (q.0, subst (λ (t : Bool). T t) (sym (same a (strong.tails a q.0 q.1))) q.1)

    pub dist_same : (u v : ℕ) → T (part u) → T (part v) → dist S n tl hd all u v ≡ dist S n tl hd own u v
    dist_same u v h i =
        let u_in = strong.inside u h in
        let v_in = strong.inside v i in
        let f = dist-fewest S n tl hd all (λ a j t. inside a t) u v u_in v_in in
        let g = dist-fewest S n tl hd own (λ a j t. strong.inside (tl a) (strong.tails a j t)) u v u_in v_in in
        let near : dist S n tl hd own u v < S = omega (arith, dist_lt S n tl hd own r part strong u v h i, count-all S part) in
        let w = g.attained near in
        let less : dist S n tl hd all u v ≤ dist S n tl hd own u v =
        omega (arith, f.shortest w.0 (record { is_walk = w.1.is_walk; in_use = λ a j. all_arc a (w.1.in_use a j) }), w.2) in
        let z = f.attained (omega (arith, less, near)) in
        omega (arith, less, g.shortest z.0 (record { is_walk = z.1.is_walk; in_use = own-arcs z.0 u v h z.1.is_walk z.1.in_use }), z.2)

    -- no walk leads out of the part
    pub dist-apart : (v : ℕ) → v < S → (T (part v) → ⊥) → dist S n tl hd all r v ≡ S
    dist-apart v h out =
        (dist-fewest S n tl hd all (λ a j t. inside a t) r v (strong.inside r strong.starts) h).none
        (λ q. out (keeps (λ x. T (part x)) (λ a k t. strong.heads a k.0 (subst (λ (b : Bool). T b) (same a t) k.1)) strong.starts q))
