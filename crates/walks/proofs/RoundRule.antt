-- Document 02's rule for the round trail has one result: whatever is by it is equal to whatever else is. The round trail of the definitions is by it, and so nothing else is.
-- Assumes a valid plant, and for the round trail a root that is a switch of it.
use mathlib.Core.Path.{◌≡◌, refl, sym, ap, ap₂, ◌∙◌, subst}
use mathlib.Core.Logic.{◌⊎◌, inl, inr, ⊎_elim}
use mathlib.Core.List.{List, [], ◌∷◌, ◌++◌, append_assoc, nil≢cons, cons≢nil, head-eq_of_cons-eq, tail-eq_of_cons-eq}
use Prim.Native.Nat.{ℕ, zero, suc, ◌+◌, ◌*◌, ◌/◌, ◌≤◌, ◌<◌}
use native.Mathlib.Omega.{arith}
use lib.Dec.{T}
use Rattle.lists.proofs.Tests.{T-or}
use Rattle.lists.specs.Members.{In}
use Rattle.lists.specs.Numbers.{range, keep}
use Rattle.lists.proofs.Numbers.{keep_yes, keep_no}
use Rattle.plant.specs.declared.Plant.{Plant}
use Rattle.plant.specs.Links.{live}
use Rattle.walks.specs.Visit.{St}
use Rattle.walks.specs.Arcs.{opposite, labels, tail, head, Arc, Valid}
use Rattle.walks.specs.Graph.{Crosses, arcs, visited_from}
use Rattle.walks.specs.Round.{round_from}
use Rattle.walks.specs.RoundRule.{Leaves, RoundAt, finished, passed, entered, met, ByRoundRule}
use Rattle.walks.proofs.Live.{live_below}
use Rattle.walks.proofs.Labels.{even_or_odd, opposite_half, opposite_even, same-link, crosses, crosses_arc, tail-opposite, even_arc, odd_arc, ends-apart}
use Rattle.walks.proofs.Tour.{Met, Tours, stop, pass, both, through, hops_are}
use Rattle.walks.proofs.Round.{run}

module _ (p : Plant) (ok : Valid p) where
  -- ---- the rule has one result

  -- from a switch a link is crossed by one arc
  one_arc : {v l a b : ℕ} → Leaves p v l a → Leaves p v l b → a ≡ b
  one_arc {a = a} {b = b} x y = ⊎_elim (λ e. e) (λ e. absurd (ends-apart p ok b y.in_service (y.from ∙ sym x.from ∙ ap (tail p) e ∙ tail-opposite p b))) (same-link a b (x.of_link ∙ sym y.of_link))

  -- a link that is crossed is one of the plant
  below : {v l a : ℕ} → Leaves p v l a → l < p.count
  below {a = a} x = omega (arith, live_below p (a / 2) x.in_service, x.of_link)

  one-round : {v l : ℕ} {seen hops w s w' s' : List ℕ} → RoundAt p v l seen hops w s → RoundAt p v l seen hops w' s' → (w ≡ w') × (s ≡ s')
  one-round (finished e) (finished e') = (refl, refl)
  one-round (finished e) (passed h f d) = absurd (omega (arith, e, h))
  one-round (finished e) (entered x n d₁ d₂) = absurd (omega (arith, e, below x))
  one-round (finished e) (met x i n d) = absurd (omega (arith, e, below x))
  one-round (passed h f d) (finished e) = absurd (omega (arith, e, h))
  one-round (passed h f d) (passed h' f' d') = one-round d d'
  one-round (passed h f d) (entered {a = a} x n d₁ d₂) = absurd (n (f a x).0)
  one-round (passed h f d) (met {a = a} x i n d') = absurd (n (f a x).1)
  one-round (entered x n d₁ d₂) (finished e) = absurd (omega (arith, e, below x))
  one-round (entered {a = a} x n d₁ d₂) (passed h f d) = absurd (n (f a x).0)
  one-round {v} {l} {seen} {hops} {s' = s'} (entered {a = a} {far = far} {seen₁ = m} {w = w} x n d₁ d₂) (entered {a = b} {far = far'} {seen₁ = m'} {w = w'} y n' d₁' d₂') =
      let e : b ≡ a = one_arc y x in
      let q = one-round d₁ (subst (λ (c : ℕ). RoundAt p (head p c) 0 (head p c ∷ seen) (hops ++ (c ∷ [])) far' m') e d₁') in
      let g = subst (λ (c : ℕ). RoundAt p v (suc l) m' (hops ++ (c ∷ (far' ++ (opposite c ∷ [])))) w' s') e d₂' in
      let h = subst (λ (u : List ℕ). RoundAt p v (suc l) m' (hops ++ (a ∷ (u ++ (opposite a ∷ [])))) w' s') (sym q.0) g in
      let r = one-round d₂ (subst (λ (z : List ℕ). RoundAt p v (suc l) z (hops ++ (a ∷ (far ++ (opposite a ∷ [])))) w' s') (sym q.1) h) in
      (ap₂ (λ (u z : List ℕ). a ∷ (u ++ (opposite a ∷ z))) q.0 r.0 ∙ ap (λ (c : ℕ). c ∷ (far' ++ (opposite c ∷ w'))) (sym e), r.1)
  one-round {seen = seen} (entered x n d₁ d₂) (met y i n' d) = absurd (n (subst (λ (c : ℕ). In (head p c) seen) (one_arc y x) i))
  one-round (met x i n d) (finished e) = absurd (omega (arith, e, below x))
  one-round (met {a = a} x i n d) (passed h f d') = absurd (n (f a x).1)
  one-round {seen = seen} (met x i n d) (entered y n' d₁ d₂) = absurd (n' (subst (λ (c : ℕ). In (head p c) seen) (one_arc x y) i))
  one-round {v} {l} {seen} {hops} {s' = s'} (met {a = a} {w = w} x i n d) (met {a = b} {w = w'} y i' n' d') =
      let e : b ≡ a = one_arc y x in
      let r = one-round d (subst (λ (c : ℕ). RoundAt p v (suc l) seen (hops ++ (c ∷ opposite c ∷ [])) w' s') e d') in
      (ap (λ (z : List ℕ). a ∷ opposite a ∷ z) r.0 ∙ ap (λ (c : ℕ). c ∷ opposite c ∷ w') (sym e), r.1)

  -- ---- the links in service, by number

  abbrev lives : ℕ → ℕ → List ℕ
  lives l n = keep (live p) (range l n)

  -- a link out of service is passed
  pass_dead : {v l : ℕ} {seen hops w s : List ℕ} → l < p.count → (T (live p l) → ⊥) → RoundAt p v (suc l) seen hops w s → RoundAt p v l seen hops w s
  pass_dead h f d = passed h (λ a x. absurd (f (subst (λ (k : ℕ). T (live p k)) x.of_link x.in_service))) d

  none_left : (l n : ℕ) → l + n ≡ p.count → [] ≡ lives l n → {v : ℕ} {seen hops : List ℕ} → RoundAt p v l seen hops [] seen
  none_left l zero e q = let h : p.count ≤ l = omega arith in finished h
  none_left l (suc n) e q {v} {seen} {hops} = go (T-or (live p l)) (λ z. none_left (suc l) n (omega arith) z)
    where
      go : T (live p l) ⊎ (T (live p l) → ⊥) → ([] ≡ lives (suc l) n → RoundAt p v (suc l) seen hops [] seen) → RoundAt p v l seen hops [] seen
      go (inl t) rec = absurd (nil≢cons (q ∙ keep_yes (live p) l (range (suc l) n) t))
      go (inr f) rec = pass_dead (omega arith) f (rec (q ∙ keep_no (live p) l (range (suc l) n) f))

  -- k is the first link in service from l on, and ls are those after it
  record Next (k : ℕ) (ls : List ℕ) (l : ℕ) : Type 0 where
    pub alive : T (live p k)
    pub number : ℕ
    pub all : suc k + number ≡ p.count
    pub after : ls ≡ lives (suc k) number
    pub before : (v : ℕ) (seen hops w s : List ℕ) → RoundAt p v k seen hops w s → RoundAt p v l seen hops w s

  next_link : (k : ℕ) (ls : List ℕ) (l n : ℕ) → l + n ≡ p.count → k ∷ ls ≡ lives l n → Next k ls l
  next_link k ls l zero e q = absurd (cons≢nil q)
  next_link k ls l (suc n) e q = go (T-or (live p l)) (λ z. next_link k ls (suc l) n (omega arith) z)
    where
      go : T (live p l) ⊎ (T (live p l) → ⊥) → (k ∷ ls ≡ lives (suc l) n → Next k ls (suc l)) → Next k ls l
      go (inl t) rec =
          let z : k ∷ ls ≡ l ∷ lives (suc l) n = q ∙ keep_yes (live p) l (range (suc l) n) t in
          let i : k ≡ l = head-eq_of_cons-eq z in
          record {
            alive = subst (λ (j : ℕ). T (live p j)) (sym i) t;
            number = n;
            all = omega (arith, i, e);
            after = tail-eq_of_cons-eq z ∙ ap (λ (j : ℕ). lives (suc j) n) (sym i);
            before = λ v seen hops w s d. subst (λ (j : ℕ). RoundAt p v j seen hops w s) i d;
          }
      go (inr f) rec =
          let r = rec (q ∙ keep_no (live p) l (range (suc l) n) f) in
          record { alive = r.alive; number = r.number; all = r.all; after = r.after; before = λ v seen hops w s d. pass_dead (omega arith) f (r.before v seen hops w s d) }

  -- ---- the round trail is by the rule

  met_crosses : (a l : ℕ) (h : List ℕ) → a / 2 ≡ l → Met a h → Crosses l h
  met_crosses a l h e (inl i) = crosses a l h i e
  met_crosses a l h e (inr i) = crosses (opposite a) l h i (opposite_half a ∙ e)

  crosses_met : (a l : ℕ) (h : List ℕ) → a / 2 ≡ l → Crosses l h → Met a h
  crosses_met a l h e c = crosses_arc a h (subst (λ (k : ℕ). Crosses k h) (sym e) c)

  -- arc a is passed over
  abbrev Over : ℕ → St → List ℕ → ℕ → Type 0
  Over v s h a = tail p a ≡ v → In (head p a) s.ord × Met a h

  -- so is the link of both its arcs
  over_both : (v k : ℕ) (s : St) (h : List ℕ) → Over v s h (2 * k) → Over v s h (2 * k + 1) → (a : ℕ) → Leaves p v k a → In (head p a) s.ord × Crosses k h
  over_both v k s h f g a x =
      let o : Over v s h a = ⊎_elim (λ e. subst (Over v s h) (sym (e ∙ ap (λ (j : ℕ). 2 * j) x.of_link)) f) (λ e. subst (Over v s h) (sym (e ∙ ap (λ (j : ℕ). 2 * j + 1) x.of_link)) g) (even_or_odd a) in
      let r = o x.from in
      (r.0, met_crosses a k h x.of_link r.1)

  even_leaves : (v k a : ℕ) → T (live p k) → a ≡ 2 * k → tail p a ≡ v → Leaves p v k a
  even_leaves v k a t q e = record { of_link = omega (arith, q); in_service = subst (Arc p) (sym q) (even_arc p k t); from = e }

  odd_leaves : (v k a : ℕ) → T (live p k) → a ≡ 2 * k + 1 → tail p a ≡ v → Leaves p v k a
  odd_leaves v k a t q e = record { of_link = omega (arith, q); in_service = subst (Arc p) (sym q) (odd_arc p k t); from = e }

  -- the two arcs of a link do not leave one switch
  not_both : (v k : ℕ) → T (live p k) → tail p (2 * k) ≡ v → tail p (2 * k + 1) ≡ v → ⊥
  not_both v k t e i = ends-apart p ok (2 * k) (even_arc p k t) (e ∙ sym i ∙ ap (tail p) (sym (opposite_even k)) ∙ tail-opposite p (2 * k))

  -- the hops before a link that is entered, over it, beyond it and back
  hops_after : (h u k : List ℕ) (a : ℕ) → k ≡ (h ++ (a ∷ [])) ++ u → k ++ (opposite a ∷ []) ≡ h ++ (a ∷ (u ++ (opposite a ∷ [])))
  hops_after h u k a e = ap (λ (x : List ℕ). x ++ (opposite a ∷ [])) (e ∙ append_assoc h (a ∷ []) u) ∙ append_assoc h (a ∷ u) (opposite a ∷ [])

  abbrev Run : ℕ → List ℕ → St → List ℕ → St → List ℕ → List ℕ → Type 0
  Run v bs s h t k w = Tours (tail p) (head p) (arcs p) v bs s h t k w

  -- the labels of the links from l on are left to try; or of link k the second label, and the links after it
  record Works (v : ℕ) (bs : List ℕ) (s : St) (h : List ℕ) (t : St) (w : List ℕ) : Type 0 where
    pub whole : (ls : List ℕ) (l n : ℕ) → bs ≡ labels ls → l + n ≡ p.count → ls ≡ lives l n → RoundAt p v l s.ord h w t.ord
    -- the first label was passed over
    pub second : (ls : List ℕ) (k n : ℕ) → bs ≡ (2 * k + 1) ∷ labels ls → T (live p k) → suc k + n ≡ p.count → ls ≡ lives (suc k) n → Over v s h (2 * k)
        → RoundAt p v k s.ord h w t.ord
    -- the first label leaves v
    pub other : (ls : List ℕ) (k n : ℕ) → bs ≡ (2 * k + 1) ∷ labels ls → T (live p k) → suc k + n ≡ p.count → ls ≡ lives (suc k) n → tail p (2 * k) ≡ v
        → RoundAt p v (suc k) s.ord h w t.ord

  works_stop : (v : ℕ) (s : St) (h : List ℕ) → Works v [] s h s []
  works_stop v s h = record {
    whole = whole;
    second = λ ls k n q t e z o. absurd (nil≢cons q);
    other = λ ls k n q t e z o. absurd (nil≢cons q);
  }
    where
      whole : (ls : List ℕ) (l n : ℕ) → [] ≡ labels ls → l + n ≡ p.count → ls ≡ lives l n → RoundAt p v l s.ord h [] s.ord
      whole [] l n q e z = none_left l n e z
      whole (k ∷ ls) l n q e z = absurd (nil≢cons q)

  works_pass : {v a : ℕ} {bs : List ℕ} {s t : St} {h w : List ℕ} → Over v s h a → Works v bs s h t w → Works v (a ∷ bs) s h t w
  works_pass {v} {a} {bs} {s} {t} {h} {w} f d = record {
    whole = whole;
    second = λ ls k n q i e z o.
        let c : k < p.count = omega (arith, e) in
        passed c (over_both v k s h o (subst (Over v s h) (head-eq_of_cons-eq q) f)) (d.whole ls (suc k) n (tail-eq_of_cons-eq q) e z);
    other = λ ls k n q i e z o. d.whole ls (suc k) n (tail-eq_of_cons-eq q) e z;
  }
    where
      whole : (ls : List ℕ) (l n : ℕ) → a ∷ bs ≡ labels ls → l + n ≡ p.count → ls ≡ lives l n → RoundAt p v l s.ord h w t.ord
      whole [] l n q e z = absurd (cons≢nil q)
      whole (k ∷ ls) l n q e z =
          let x = next_link k ls l n e z in
          x.before v s.ord h w t.ord
          (d.second ls k x.number (tail-eq_of_cons-eq q) x.alive x.all x.after (subst (Over v s h) (head-eq_of_cons-eq q) f))

  -- arc a is crossed at v, by hops u that make those so far g, and link k is thereby tried
  works_cross : {v a : ℕ} {bs : List ℕ} {s m t : St} {h g u w : List ℕ} → tail p a ≡ v
      → ((k : ℕ) → Leaves p v k a → RoundAt p v (suc k) m.ord g w t.ord → RoundAt p v k s.ord h (a ∷ u) t.ord)
      → Works v bs m g t w → Works v (a ∷ bs) s h t (a ∷ u)
  works_cross {v} {a} {bs} {s} {m} {t} {h} {g} {u} {w} i cross d = record {
    whole = whole;
    second = λ ls k n q j e z o. cross k (odd_leaves v k a j (head-eq_of_cons-eq q) i) (d.whole ls (suc k) n (tail-eq_of_cons-eq q) e z);
    other = λ ls k n q j e z o. absurd (not_both v k j o (ap (tail p) (sym (head-eq_of_cons-eq q)) ∙ i));
  }
    where
      whole : (ls : List ℕ) (l n : ℕ) → a ∷ bs ≡ labels ls → l + n ≡ p.count → ls ≡ lives l n → RoundAt p v l s.ord h (a ∷ u) t.ord
      whole [] l n q e z = absurd (cons≢nil q)
      whole (k ∷ ls) l n q e z =
          let x = next_link k ls l n e z in
          let c : a ≡ 2 * k = head-eq_of_cons-eq q in
          x.before v s.ord h (a ∷ u) t.ord
          (cross k (even_leaves v k a x.alive c i) (d.other ls k x.number (tail-eq_of_cons-eq q) x.alive x.all x.after (ap (tail p) (sym c) ∙ i)))

  works : {v : ℕ} {bs : List ℕ} {s t : St} {h k w : List ℕ} → Run v bs s h t k w → Works v bs s h t w
  unfolding arcs
  works {v} {s = s} {h = h} stop = works_stop v s h
  works (pass f d) = works_pass f (works d)
  works {v} {s = s} {t = t} {h = h} (both {a = a} {w = w} i j n d) =
      works_cross i (λ k x r. met x j (λ c. n (crosses_met a k h x.of_link c)) r) (works d)
  works {v} {s = s} {t = t} {h = h} (through {a = a} {m = m} {l = b} {u = u} {w = w} i j d₁ d₂) =
      let far = (works d₁).whole (lives 0 p.count) 0 p.count refl (omega arith) refl in
      works_cross i
      (λ k x r.
      entered x j far
      (subst (λ (z : List ℕ). RoundAt p v (suc k) m.ord z w t.ord) (hops_after h u b a (hops_are (tail p) (head p) (arcs p) d₁)) r)) (works d₂)

  module _ (r : ℕ) (r_in : r < p.switches) where
    -- the round trail is by the rule
    pub round_by_rule : ByRoundRule p r (round_from p r)
    unfolding arcs
    round_by_rule = ((visited_from p r).ord, (works (run p ok r r_in)).whole (lives 0 p.count) 0 p.count refl (omega arith) refl)

    -- and no other list is
    pub round_only : (w : List ℕ) → ByRoundRule p r w → w ≡ round_from p r
    round_only w d = (one-round d.1 round_by_rule.1).0
