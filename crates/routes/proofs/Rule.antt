-- Document 01's rule for the trail has one result: whatever is by it is equal to whatever else is. The trail of the definitions is by it, with
-- the distance of the definitions, and so nothing else is. Assumes of a distance, for the first, that it is 0 from a switch to itself; for the
-- second that the arcs in use join switches of a part of the plant, and that each switch of it leads to each other over them.
use mathlib.Core.Path.{◌≡◌, refl, sym, ap, ◌∙◌, subst}
use mathlib.Core.Logic.{◌⊎◌, inl, inr, ⊎_elim, ◌↔◌}
use mathlib.Core.Bool.{Bool, true, not}
use mathlib.Core.List.{List, [], ◌∷◌, ◌++◌}
use Prim.Native.Nat.{ℕ, zero, suc, ◌≤◌, ◌<◌}
use native.Mathlib.Omega.{arith}
use lib.Dec.{T, T_not, not_T, eqb, eqb→eq}
use Rattle.lists.specs.Members.{In}
use Rattle.lists.specs.Count.{count}
use Rattle.lists.proofs.Tests.{eq?, eq→eqb, and_left, and_right, and_both, or_left, or_right, or_cases}
use Rattle.lists.proofs.Members.{in_append, in_append_left, in_append_right}
use Rattle.lists.proofs.Count.{count_le, count-all}
use Rattle.routes.specs.Distance.{dist, route, hop}
use Rattle.routes.specs.Trail.{unmarked, mark, marks, uncrossed, nearest, legs, trail}
use Rattle.routes.specs.Meaning.{InUse, Strong}
use Rattle.routes.specs.Rule as rule
use Rattle.routes.specs.Rule.{Lessens, Hops, there, Uncrossed, Legs, leg, home, ByRule}
use Rattle.routes.proofs.Levels.{le?}
use Rattle.routes.proofs.Distances.{dist_self, dist_zero, hop_lowest, route_hop, route_none}
use Rattle.routes.proofs.Marks.{remaining, marks_less}
use Rattle.routes.proofs.Nearest.{Nearest, Finished, nearest?}
use Rattle.routes.proofs.Legs.{one-leg, last-leg, none_left}
use Rattle.routes.proofs.Trails.{dist_lt}

-- ---- the rule has one result

module _ (n : ℕ) (tl hd : ℕ → ℕ) (ok : ℕ → Bool) (d : ℕ → ℕ → ℕ) (self : (v : ℕ) → d v v ≡ 0) where
  abbrev Way : ℕ → ℕ → List ℕ → Type 0
  Way v u w = Hops n tl hd ok d v u w

  abbrev From : ℕ → List ℕ → ℕ → List ℕ → Type 0
  From start crossed u w = Legs n tl hd ok d start crossed u w

  -- where it has come to, no arc lessens the distance
  no_hop : {u v a : ℕ} → u ≡ v → Lessens n tl hd ok d u v a → ⊥
  no_hop {u} {v} e l = omega (arith, l.nearer, ap (λ (x : ℕ). d x v) e, self v)

  one_way : {v u : ℕ} {w w' : List ℕ} → Way v u w → Way v u w' → w ≡ w'
  one_way (there e) (there e') = refl
  one_way (there e) (rule.hop l f h) = absurd (no_hop e l)
  one_way (rule.hop l f h) (there e) = absurd (no_hop e l)
  one_way {v} (rule.hop {a = a} {w = w} l f h) (rule.hop {a = b} {w = w'} l' f' h') =
      let e : b ≡ a = omega (arith, f b l', f' a l) in
      ap (λ (x : List ℕ). a ∷ x) (one_way h (subst (λ (x : ℕ). Way v (hd x) w') e h')) ∙ ap (λ (x : ℕ). x ∷ w') (sym e)

  one-nearest : {crossed : List ℕ} {u a b : ℕ} → rule.Nearest n tl hd ok d crossed u a → rule.Nearest n tl hd ok d crossed u b → b ≡ a
  one-nearest {crossed} {u} {a} {b} p q =
      let same : d u (tl b) ≡ d u (tl a) = omega (arith, p.closest b q.uncrossed, q.closest a p.uncrossed) in
      omega (arith, p.lowest b q.uncrossed same, q.lowest a p.uncrossed (sym same))

  pub one-trail : {start u : ℕ} {crossed w w' : List ℕ} → From start crossed u w → From start crossed u w' → w ≡ w'
  one-trail (home f h) (home f' h') = one_way h h'
  one-trail (home f h) (leg p h' r) = absurd (f _ p.uncrossed)
  one-trail (leg p h r) (home f h') = absurd (f _ p.uncrossed)
  one-trail {start} {u} {crossed} (leg {way = way} {rest = rest} {a = a} p h r) (leg {way = way'} {rest = rest'} {a = b} p' h' r') =
      let e : b ≡ a = one-nearest p p' in
      let f : way ≡ way' = one_way h (subst (λ (x : ℕ). Way (tl x) u way') e h') in
      let s = subst (λ (x : ℕ). From start (x ∷ (way' ++ crossed)) (hd x) rest') e r' in
      let g : rest ≡ rest' = one-trail r (subst (λ (x : List ℕ). From start (a ∷ (x ++ crossed)) (hd a) rest') (sym f) s) in
      ap (λ (x : List ℕ). way ++ (a ∷ x)) g ∙ ap (λ (x : List ℕ). x ++ (a ∷ rest')) f ∙ ap (λ (x : ℕ). way' ++ (x ∷ rest')) (sym e)

-- ---- the arcs crossed, as a test and as a list

-- m tells the members of the list
abbrev Tells : (ℕ → Bool) → List ℕ → Type 0
Tells m crossed = (b : ℕ) → T (m b) ↔ In b crossed

mark-tells : (m : ℕ → Bool) (l : List ℕ) (a : ℕ) → Tells m l → Tells (mark a m) (a ∷ l)
mark-tells m l a f b = (
  λ t. ⊎_elim (λ e. inl (eqb→eq b a e)) (λ u. inr ((f b).0 u)) (or_cases (eqb b a) (m b) t),
  ⊎_elim (λ e. or_left (eqb b a) (m b) (eq→eqb e)) (λ i. or_right (eqb b a) (m b) ((f b).1 i)),
)

marks_tell : (w : List ℕ) (m : ℕ → Bool) (l : List ℕ) → Tells m l → Tells (marks w m) (w ++ l)
marks_tell [] m l f b = f b
marks_tell (a ∷ w) m l f b = let r = marks_tell w (mark a m) (a ∷ l) (mark-tells m l a f) b in (λ t. to (in_append b w (a ∷ l) (r.0 t)), λ i. r.1 (from i))
  where
    to : In b w ⊎ ((b ≡ a) ⊎ In b l) → (b ≡ a) ⊎ In b (w ++ l)
    to (inl i) = inr (in_append_left b w l i)
    to (inr (inl e)) = inl e
    to (inr (inr i)) = inr (in_append_right b w l i)

    from : (b ≡ a) ⊎ In b (w ++ l) → In b (w ++ (a ∷ l))
    from (inl e) = in_append_right b w (a ∷ l) (inl e)
    from (inr i) = ⊎_elim (λ j. in_append_left b w (a ∷ l) j) (λ j. in_append_right b w (a ∷ l) (inr j)) (in_append b w l i)

-- ---- the trail of the definitions is by the rule

module _ (S n : ℕ) (tl hd : ℕ → ℕ) (ok : ℕ → Bool) where
  abbrev D : ℕ → ℕ → ℕ
  D u v = dist S n tl hd ok u v

  abbrev Goes : ℕ → ℕ → List ℕ → Type 0
  Goes v u w = Hops n tl hd ok D v u w

  -- the way to a switch that is reached
  way-goes : (k u v : ℕ) → D u v ≡ k → k < S → Goes v u (route S n tl hd ok u v)
  way-goes zero u v e h = let q = dist_zero S n tl hd ok u v h e in subst (Goes v u) (sym (route_none S n tl hd ok u v q)) (there q)
  way-goes (suc k) u v e h =
      let a = hop S n tl hd ok u v in
      let r = route_hop S n tl hd ok u v a (omega arith) (λ q. omega (arith, ap (λ (x : ℕ). D x v) q, dist_self S n tl hd ok v)) refl in
      let less : Lessens n tl hd ok D u v a = record { in_use = (r.0.is_arc, r.0.in_use); leaves = r.0.leaves; nearer = omega (arith, r.0.nearer) } in
      subst (Goes v u) (sym r.1)
      (rule.hop less (λ b q. hop_lowest S n tl hd ok u v b q.in_use.1 q.leaves q.nearer) (way-goes k (hd a) v (omega (arith, r.0.nearer)) (omega arith)))

  module _ (m : ℕ → Bool) (crossed : List ℕ) (tells : Tells m crossed) where
    left : (b : ℕ) → b < n → T (uncrossed ok m b) → Uncrossed n tl hd ok D crossed b
    left b h t = ((h, and_left (ok b) (not (m b)) t), λ i. T_not (m b) (and_right (ok b) (not (m b)) t) ((tells b).1 i))

    left_test : (b : ℕ) → Uncrossed n tl hd ok D crossed b → T (uncrossed ok m b)
    left_test b q = and_both (ok b) (not (m b)) q.0.1 (not_T (m b) (λ t. q.1 ((tells b).0 t)))

    nearest_so : (u a : ℕ) → Nearest S n tl hd ok m u a → rule.Nearest n tl hd ok D crossed u a
    nearest_so u a p = record {
      uncrossed = left a p.is_arc p.is_left;
      closest = λ b q. p.closest b q.0.0 (left_test b q);
      lowest = λ b q e. ⊎_elim (λ l. l) (λ l. absurd (p.lowest b l (left_test b q) e)) (le? a b);
    }

  module _ (start : ℕ) (part : ℕ → Bool) (st : Strong S n tl hd ok start part) where
    way_in : (u v : ℕ) → T (part u) → T (part v) → Goes v u (route S n tl hd ok u v)
    way_in u v h i = way-goes (D u v) u v refl (omega (arith, dist_lt S n tl hd ok start part st u v h i, count-all S part))

    legs_go : (f : ℕ) (m : ℕ → Bool) (crossed : List ℕ) (u : ℕ) → Tells m crossed → T (part u) → remaining ok n m ≤ f
        → Legs n tl hd ok D start crossed u (legs S n tl hd ok start f m u)
    legs_go zero m crossed u tells h i =
        let g = none_left S n tl hd ok start m i in
        subst (Legs n tl hd ok D start crossed u) (sym (last-leg S n tl hd ok start zero m u g)) (home (λ a q. g a q.0.0 (left_test m crossed tells a q)) (way_in u start h st.starts))
    legs_go (suc f) m crossed u tells h i = go (nearest? S n tl hd ok m u) (legs_go f)
      where
        a : ℕ
        a = nearest S n tl hd ok m u

        w : List ℕ
        w = route S n tl hd ok u (tl a)

        go : Nearest S n tl hd ok m u a ⊎ Finished S n tl hd ok m
            → ((m' : ℕ → Bool) (c : List ℕ) (v : ℕ) → Tells m' c → T (part v) → remaining ok n m' ≤ f → Legs n tl hd ok D start c v (legs S n tl hd ok start f m' v))
            → Legs n tl hd ok D start crossed u (legs S n tl hd ok start (suc f) m u)
        go (inl p) rec =
            let used = and_left (ok a) (not (m a)) p.is_left in
            let tell = mark-tells (marks w m) (w ++ crossed) a (marks_tell w m crossed tells) in
            let few = marks_less ok n w m a p.is_arc p.is_left in
            let r = rec (mark a (marks w m)) (a ∷ (w ++ crossed)) (hd a) tell (st.heads a p.is_arc used) (omega (arith, few)) in
            subst (Legs n tl hd ok D start crossed u) (sym (one-leg S n tl hd ok start f m u a p))
            (leg (nearest_so m crossed tells u a p) (way_in u (tl a) h (st.tails a p.is_arc used)) r)
        go (inr g) rec =
            subst (Legs n tl hd ok D start crossed u) (sym (last-leg S n tl hd ok start (suc f) m u g)) (home (λ b q. g b q.0.0 (left_test m crossed tells b q)) (way_in u start h st.starts))

    -- the trail is by the rule
    pub trail_by_rule : ByRule n tl hd ok D start (trail S n tl hd ok start)
    unfolding trail
    trail_by_rule =
        legs_go (count n ok) unmarked [] start (λ b. (λ t. t, λ i. i)) st.starts (count_le n (uncrossed ok unmarked) ok (λ a h t. and_left (ok a) true t))

    -- and no other list is
    pub trail-only : (w : List ℕ) → ByRule n tl hd ok D start w → w ≡ trail S n tl hd ok start
    trail-only w r = one-trail n tl hd ok D (dist_self S n tl hd ok) r trail_by_rule
