-- The hops of a tour lead back to where they begin, and none is made twice: a link is crossed only where it has not been crossed before. Assumes that the opposite arc leads back.
use mathlib.Core.Path.{◌≡◌, refl, sym, ap, ◌∙◌, subst}
use mathlib.Core.Logic.{◌⊎◌, inl, inr, ⊎_elim}
use mathlib.Core.List.{List, [], ◌∷◌, ◌++◌}
use Prim.Native.Nat.{ℕ}
use Rattle.lists.specs.Members.{In, Distinct}
use Rattle.lists.proofs.Members.{in_append, in_append_left, in_append_right, distinct_append}
use Rattle.walks.specs.Walk.{Walk}
use Rattle.walks.proofs.Walk.{walk-append}
use Rattle.walks.specs.Visit.{St, push}
use Rattle.walks.specs.Arcs.{opposite}
use Rattle.walks.proofs.Visit.{Ext, ext_push, ext_trans}
use Rattle.walks.proofs.Labels.{opposite_twice}
use Rattle.walks.proofs.Tour.{Met, met_more, met-back, opposite-apart, spread, Tours, stop, pass, both, through, reaches, grows, adds, parts}

module _ (tl hd : ℕ → ℕ) (arcs : List ℕ) (tl_opp : (a : ℕ) → tl (opposite a) ≡ hd a) (hd_opp : (a : ℕ) → hd (opposite a) ≡ tl a) where
  -- the hops lead from v back to v
  pub closes : {v : ℕ} {bs : List ℕ} {s t : St} {h k w : List ℕ} → Tours tl hd arcs v bs s h t k w → Walk tl hd w v v
  closes stop = refl
  closes (pass f d) = closes d
  closes {v} (both {a = a} {w = w} e i n d) = (e, (tl_opp a, subst (λ (x : ℕ). Walk tl hd w x v) (sym (hd_opp a ∙ e)) (closes d)))
  closes {v} (through {a = a} {u = u} {w = w} e n d₁ d₂) =
      (e, walk-append tl hd u (opposite a ∷ w) (hd a) (hd a) v (closes d₁) (tl_opp a, subst (λ (x : ℕ). Walk tl hd w x v) (sym (hd_opp a ∙ e)) (closes d₂)))

  -- ---- both ends of an arc have been visited

  abbrev pub Inside : St → ℕ → Type 0
  Inside s b = In (tl b) s.ord × In (hd b) s.ord

  pub inside_more : {s t : St} (b : ℕ) → Ext s t → Inside s b → Inside t b
  inside_more b x p = (x.ords (tl b) p.0, x.ords (hd b) p.1)

  pub inside_back : (s : St) (b : ℕ) → Inside s b → Inside s (opposite b)
  inside_back s b p = (subst (λ (x : ℕ). In x s.ord) (sym (tl_opp b)) p.1, subst (λ (x : ℕ). In x s.ord) (sym (hd_opp b)) p.0)

  -- where hops have been visited at both ends, so has an arc that is met
  pub inside-met : (s : St) (h : List ℕ) → ((b : ℕ) → In b h → Inside s b) → (b : ℕ) → Met b h → Inside s b
  inside-met s h f b (inl i) = f b i
  inside-met s h f b (inr i) = subst (λ (c : ℕ). Inside s c) (opposite_twice b) (inside_back s (opposite b) (f (opposite b) i))

  pub ends : {v : ℕ} {bs : List ℕ} {s t : St} {h k w : List ℕ} → Tours tl hd arcs v bs s h t k w → In v s.ord → (b : ℕ) → In b w → Inside t b
  ends stop i b z = absurd z
  ends (pass f d) i b j = ends d i b j
  ends {s = s} {t = t} (both {a = a} {w = w} e g n d) i b j = go (λ l. ends d i b l) j
    where
      here : Inside t a
      here = inside_more a (reaches tl hd arcs d) (subst (λ (x : ℕ). In x s.ord) (sym e) i, g)

      go : (In b w → Inside t b) → (b ≡ a) ⊎ ((b ≡ opposite a) ⊎ In b w) → Inside t b
      go f (inl q) = subst (λ (c : ℕ). Inside t c) (sym q) here
      go f (inr (inl q)) = subst (λ (c : ℕ). Inside t c) (sym q) (inside_back t a here)
      go f (inr (inr l)) = f l
  ends {s = s} {t = t} (through {a = a} {m = m} {u = u} {w = w} e n d₁ d₂) i b j =
      go (λ l. ends d₁ (inl refl) b l) (λ l. ends d₂ ((reaches tl hd arcs d₁).ords _ (inr i)) b l) (spread b a (opposite a) u w j)
    where
      here : Inside t a
      here = inside_more a (ext_trans (reaches tl hd arcs d₁) (reaches tl hd arcs d₂)) (subst (λ (x : ℕ). In x (hd a ∷ s.ord)) (sym e) (inr i), inl refl)

      go : (In b u → Inside m b) → (In b w → Inside t b) → ((b ≡ a) ⊎ (b ≡ opposite a)) ⊎ (In b u ⊎ In b w) → Inside t b
      go f g (inl (inl q)) = subst (λ (c : ℕ). Inside t c) (sym q) here
      go f g (inl (inr q)) = subst (λ (c : ℕ). Inside t c) (sym q) (inside_back t a here)
      go f g (inr (inl l)) = inside_more b (reaches tl hd arcs d₂) (f l)
      go f g (inr (inr l)) = g l

  -- all hops have been visited at both ends
  abbrev pub Known : St → List ℕ → Type 0
  Known s h = (b : ℕ) → In b h → Inside s b

  pub known_end : {v : ℕ} {bs : List ℕ} {s t : St} {h k w : List ℕ} → Tours tl hd arcs v bs s h t k w → In v s.ord → Known s h → Known t k
  known_end d i f b j = ⊎_elim (λ l. inside_more b (reaches tl hd arcs d) (f b l)) (λ l. ends d i b l) (parts tl hd arcs d b j)

  pub known_push : (a : ℕ) (s : St) (h : List ℕ) → In (tl a) s.ord → (In (hd a) s.ord → ⊥) → Known s h → Known (push tl hd a s) (h ++ (a ∷ []))
  known_push a s h i n f b j = go (in_append b h (a ∷ []) j)
    where
      go : In b h ⊎ ((b ≡ a) ⊎ ⊥) → Inside (push tl hd a s) b
      go (inl l) = inside_more b (ext_push tl hd a s n) (f b l)
      go (inr (inl q)) = subst (λ (c : ℕ). Inside (push tl hd a s) c) (sym q) (inr i, inl refl)
      go (inr (inr z)) = absurd z

  -- the opposite one of a hop
  pub known_back : (a : ℕ) (s : St) (h : List ℕ) → In a h → Known s h → Known s (h ++ (opposite a ∷ []))
  known_back a s h i f b j = go (in_append b h (opposite a ∷ []) j)
    where
      go : In b h ⊎ ((b ≡ opposite a) ⊎ ⊥) → Inside s b
      go (inl l) = f b l
      go (inr (inl q)) = subst (λ (c : ℕ). Inside s c) (sym q) (inside_back s a (f a i))
      go (inr (inr z)) = absurd z

  pub known_both : (a : ℕ) (s : St) (h : List ℕ) → Inside s a → Known s h → Known s (h ++ (a ∷ opposite a ∷ []))
  known_both a s h i f b j = go (in_append b h (a ∷ opposite a ∷ []) j)
    where
      go : In b h ⊎ ((b ≡ a) ⊎ ((b ≡ opposite a) ⊎ ⊥)) → Inside s b
      go (inl l) = f b l
      go (inr (inl q)) = subst (λ (c : ℕ). Inside s c) (sym q) i
      go (inr (inr (inl q))) = subst (λ (c : ℕ). Inside s c) (sym q) (inside_back s a i)
      go (inr (inr (inr z))) = absurd z

  -- after the tour beyond a, and back
  pub known_next : (a : ℕ) (h : List ℕ) {bs : List ℕ} {s m : St} {l u : List ℕ} → Tours tl hd arcs (hd a) bs (push tl hd a s) (h ++ (a ∷ [])) m l u → In (tl a) s.ord → (In (hd a) s.ord → ⊥)
      → Known s h → Known m (l ++ (opposite a ∷ []))
  known_next a h {s = s} {m = m} {l = l} d i n f =
      known_back a m l (grows tl hd arcs d a (in_append_right a h (a ∷ []) (inl refl))) (known_end d (inl refl) (known_push a s h i n f))

  -- ---- no link is crossed again

  pub unmet : {v : ℕ} {bs : List ℕ} {s t : St} {h k w : List ℕ} → Tours tl hd arcs v bs s h t k w → In v s.ord → Known s h → (b : ℕ) → In b w → Met b h → ⊥
  unmet stop i f b z = absurd z
  unmet (pass g d) i f b j = unmet d i f b j
  unmet {s = s} {h = h} (both {a = a} {w = w} e g n d) i f b j =
      go (λ l o. unmet d i (known_both a s h (subst (λ (x : ℕ). In x s.ord) (sym e) i, g) f) b l o) j
    where
      go : (In b w → Met b (h ++ (a ∷ opposite a ∷ [])) → ⊥) → (b ≡ a) ⊎ ((b ≡ opposite a) ⊎ In b w) → Met b h → ⊥
      go rec (inl q) m = n (subst (λ (c : ℕ). Met c h) q m)
      go rec (inr (inl q)) m = n (met-back a h (subst (λ (c : ℕ). Met c h) q m))
      go rec (inr (inr l)) m = rec l (met_more b h (h ++ (a ∷ opposite a ∷ [])) (λ c o. in_append_left c h (a ∷ opposite a ∷ []) o) m)
  unmet {s = s} {h = h} (through {a = a} {l = l} {u = u} {w = w} e n d₁ d₂) i f b j =
      go (λ o q. unmet d₁ (inl refl) (known_push a s h low n f) b o q) (λ o q. unmet d₂ ((reaches tl hd arcs d₁).ords _ (inr i)) (known_next a h d₁ low n f) b o q) (spread b a (opposite a) u w j)
    where
      low : In (tl a) s.ord
      low = subst (λ (x : ℕ). In x s.ord) (sym e) i

      new : Met a h → ⊥
      new m = n (inside-met s h f a m).1

      longer : (c : ℕ) → In c h → In c (h ++ (a ∷ []))
      longer c o = in_append_left c h (a ∷ []) o

      go : (In b u → Met b (h ++ (a ∷ [])) → ⊥) → (In b w → Met b (l ++ (opposite a ∷ [])) → ⊥) → ((b ≡ a) ⊎ (b ≡ opposite a)) ⊎ (In b u ⊎ In b w) → Met b h → ⊥
      go p q (inl (inl z)) m = new (subst (λ (c : ℕ). Met c h) z m)
      go p q (inl (inr z)) m = new (met-back a h (subst (λ (c : ℕ). Met c h) z m))
      go p q (inr (inl o)) m = p o (met_more b h (h ++ (a ∷ [])) longer m)
      go p q (inr (inr o)) m = q o (met_more b h (l ++ (opposite a ∷ [])) (λ c x. in_append_left c l (opposite a ∷ []) (grows tl hd arcs d₁ c (longer c x))) m)

  -- each hop is made once
  pub once : {v : ℕ} {bs : List ℕ} {s t : St} {h k w : List ℕ} → Tours tl hd arcs v bs s h t k w → In v s.ord → Known s h → Distinct w
  once stop i f = tt
  once (pass g d) i f = once d i f
  once {s = s} {h = h} (both {a = a} {w = w} e g n d) i f = (λ j. go j, (λ j. new (opposite a) j (inr (inl refl)), once d i known))
    where
      known : Known s (h ++ (a ∷ opposite a ∷ []))
      known = known_both a s h (subst (λ (x : ℕ). In x s.ord) (sym e) i, g) f

      new : (b : ℕ) → In b w → In b (a ∷ opposite a ∷ []) → ⊥
      new b j o = unmet d i known b j (inl (in_append_right b h (a ∷ opposite a ∷ []) o))

      go : (a ≡ opposite a) ⊎ In a w → ⊥
      go (inl q) = opposite-apart a q
      go (inr j) = new a j (inl refl)
  once {v} {s = s} {h = h} (through {a = a} {m = m} {l = l} {u = u} {w = w} e n d₁ d₂) i f =
      (λ j. go (in_append a u (opposite a ∷ w) j), distinct_append u (opposite a ∷ w) (once d₁ (inl refl) k₁) (λ j. after (opposite a) j (in_append_right (opposite a) l (opposite a ∷ []) (inl refl)), once d₂ i' k₂) apart)
    where
      low : In (tl a) s.ord
      low = subst (λ (x : ℕ). In x s.ord) (sym e) i

      i' : In v m.ord
      i' = (reaches tl hd arcs d₁).ords v (inr i)

      k₁ : Known (push tl hd a s) (h ++ (a ∷ []))
      k₁ = known_push a s h low n f

      k₂ : Known m (l ++ (opposite a ∷ []))
      k₂ = known_next a h d₁ low n f

      here : In a (h ++ (a ∷ []))
      here = in_append_right a h (a ∷ []) (inl refl)

      after : (b : ℕ) → In b w → In b (l ++ (opposite a ∷ [])) → ⊥
      after b j o = unmet d₂ i' k₂ b j (inl o)

      apart : (b : ℕ) → In b u → (b ≡ opposite a) ⊎ In b w → ⊥
      apart b j (inl q) = unmet d₁ (inl refl) k₁ b j (inr (subst (λ (c : ℕ). In c (h ++ (a ∷ []))) (sym (ap opposite q ∙ opposite_twice a)) here))
      apart b j (inr o) = after b o (in_append_left b l (opposite a ∷ []) (adds tl hd arcs d₁ b j))

      go : In a u ⊎ ((a ≡ opposite a) ⊎ In a w) → ⊥
      go (inl j) = unmet d₁ (inl refl) k₁ a j (inl here)
      go (inr (inl q)) = opposite-apart a q
      go (inr (inr j)) = after a j (in_append_left a l (opposite a ∷ []) (grows tl hd arcs d₁ a here))
