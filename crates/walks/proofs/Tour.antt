-- The tour as a relation that proofs go by: it is the visit, each of its hops comes with the opposite one, and they cross every link at the switches that are visited.
-- With enough fuel the function is the relation. Assumes nothing, and for the function that the arcs of the list arrive below n.
use mathlib.Core.Path.{◌≡◌, refl, sym, ap, ◌∙◌, subst}
use mathlib.Core.Logic.{◌⊎◌, inl, inr, ⊎_elim}
use mathlib.Core.Bool.{Bool, true, false, not}
use mathlib.Core.List.{List, [], ◌∷◌, ◌++◌, append_assoc, append-nil}
use Prim.Native.Nat.{ℕ, zero, suc, ◌≤◌, ◌<◌}
use native.Mathlib.Omega.{arith}
use lib.Dec.{T, T_not, not_T, eqb, eqb→eq}
use Rattle.lists.proofs.Tests.{eq→eqb, T-or, and_left, and_right, and_both, or_left, or_right, or_cases}
use Rattle.lists.specs.Members.{In, memb}
use Rattle.lists.proofs.Members.{memb→in, in→memb, in_append, in_append_left, in_append_right}
use Rattle.walks.specs.Visit.{St, push, fresh}
use Rattle.walks.specs.Inner.{Scan, done, skip, enter}
use Rattle.walks.specs.Arcs.{opposite}
use Rattle.walks.specs.Round.{Tour, crossed, onward, through_link, first_met, walk_at, tour}
use Rattle.walks.proofs.Visit.{Ext, ext}
use Rattle.walks.proofs.Labels.{opposite_twice}
use Rattle.walks.proofs.Fuel.{unseen, unseen_push, unseen_ext}

-- ---- an arc or the opposite one is among the hops

abbrev pub Met : ℕ → List ℕ → Type 0
Met a h = In a h ⊎ In (opposite a) h

pub met_more : (a : ℕ) (h k : List ℕ) → ((b : ℕ) → In b h → In b k) → Met a h → Met a k
met_more a h k f (inl i) = inl (f a i)
met_more a h k f (inr i) = inr (f (opposite a) i)

pub met-back : (a : ℕ) (h : List ℕ) → Met (opposite a) h → Met a h
met-back a h (inl i) = inr i
met-back a h (inr i) = inl (subst (λ (b : ℕ). In b h) (opposite_twice a) i)

pub crossed-met : (a : ℕ) (h : List ℕ) → T (crossed a h) → Met a h
crossed-met a h t = ⊎_elim (λ u. inl (memb→in a h u)) (λ u. inr (memb→in (opposite a) h u)) (or_cases (memb a h) (memb (opposite a) h) t)

pub met-crossed : (a : ℕ) (h : List ℕ) → Met a h → T (crossed a h)
met-crossed a h (inl i) = or_left (memb a h) (memb (opposite a) h) (in→memb a h i)
met-crossed a h (inr i) = or_right (memb a h) (memb (opposite a) h) (in→memb (opposite a) h i)

pub opposite-apart : (a : ℕ) → a ≡ opposite a → ⊥
unfolding opposite
opposite-apart a e = omega arith

-- ---- lists

-- where a member stands among the hops over a link, between them, and after them
pub spread : (b a c : ℕ) (u w : List ℕ) → In b (a ∷ (u ++ (c ∷ w))) → ((b ≡ a) ⊎ (b ≡ c)) ⊎ (In b u ⊎ In b w)
spread b a c u w (inl e) = inl (inl e)
spread b a c u w (inr i) = ⊎_elim (λ j. inr (inl j)) (⊎_elim (λ e. inl (inr e)) (λ j. inr (inr j))) (in_append b u (c ∷ w) i)

module _ (tl hd : ℕ → ℕ) (arcs : List ℕ) where
  -- the tour as a relation: from state s and the hops h, trying the arcs `bs` at v leads to state t and the hops k, by the hops w
  pub data Tours : ℕ → List ℕ → St → List ℕ → St → List ℕ → List ℕ → Type 0 where
    stop : {v : ℕ} {s : St} {h : List ℕ} → Tours v [] s h s h []
    pass : {v a : ℕ} {bs : List ℕ} {s t : St} {h k w : List ℕ} → (tl a ≡ v → In (hd a) s.ord × Met a h) → Tours v bs s h t k w → Tours v (a ∷ bs) s h t k w
    both : {v a : ℕ} {bs : List ℕ} {s t : St} {h k w : List ℕ} → tl a ≡ v → In (hd a) s.ord → (Met a h → ⊥)
        → Tours v bs s (h ++ (a ∷ opposite a ∷ [])) t k w → Tours v (a ∷ bs) s h t k (a ∷ opposite a ∷ w)
    through : {v a : ℕ} {bs : List ℕ} {s m t : St} {h l k u w : List ℕ} → tl a ≡ v → (In (hd a) s.ord → ⊥)
        → Tours (hd a) arcs (push tl hd a s) (h ++ (a ∷ [])) m l u → Tours v bs m (l ++ (opposite a ∷ [])) t k w → Tours v (a ∷ bs) s h t k (a ∷ (u ++ (opposite a ∷ w)))

  -- it is the visit
  pub visit_of : {v : ℕ} {bs : List ℕ} {s t : St} {h k w : List ℕ} → Tours v bs s h t k w → Scan tl hd arcs v bs s t
  visit_of stop = done
  visit_of (pass f d) = skip (λ e. (f e).0) (visit_of d)
  visit_of (both e i n d) = skip (λ _. i) (visit_of d)
  visit_of (through e n d₁ d₂) = enter e n (visit_of d₁) (visit_of d₂)

  pub reaches : {v : ℕ} {bs : List ℕ} {s t : St} {h k w : List ℕ} → Tours v bs s h t k w → Ext s t
  reaches d = ext tl hd arcs (visit_of d)

  -- its hops come after those before it
  pub hops_are : {v : ℕ} {bs : List ℕ} {s t : St} {h k w : List ℕ} → Tours v bs s h t k w → k ≡ h ++ w
  hops_are {h = h} stop = sym (append-nil h)
  hops_are (pass f d) = hops_are d
  hops_are {h = h} (both {a = a} {w = w} e i n d) = hops_are d ∙ append_assoc h (a ∷ opposite a ∷ []) w
  hops_are {h = h} (through {a = a} {l = l} {u = u} {w = w} e n d₁ d₂) =
      hops_are d₂
      ∙ append_assoc l (opposite a ∷ []) w
      ∙ ap (λ (x : List ℕ). x ++ (opposite a ∷ w)) (hops_are d₁ ∙ append_assoc h (a ∷ []) u)
      ∙ append_assoc h (a ∷ u) (opposite a ∷ w)

  pub grows : {v : ℕ} {bs : List ℕ} {s t : St} {h k w : List ℕ} → Tours v bs s h t k w → (b : ℕ) → In b h → In b k
  grows {h = h} {w = w} d b i = subst (λ (x : List ℕ). In b x) (sym (hops_are d)) (in_append_left b h w i)

  pub adds : {v : ℕ} {bs : List ℕ} {s t : St} {h k w : List ℕ} → Tours v bs s h t k w → (b : ℕ) → In b w → In b k
  adds {h = h} {w = w} d b i = subst (λ (x : List ℕ). In b x) (sym (hops_are d)) (in_append_right b h w i)

  pub parts : {v : ℕ} {bs : List ℕ} {s t : St} {h k w : List ℕ} → Tours v bs s h t k w → (b : ℕ) → In b k → In b h ⊎ In b w
  parts {h = h} {w = w} d b i = in_append b h w (subst (λ (x : List ℕ). In b x) (hops_are d) i)

  -- each hop comes with the opposite one
  pub paired : {v : ℕ} {bs : List ℕ} {s t : St} {h k w : List ℕ} → Tours v bs s h t k w → (b : ℕ) → In b w → In (opposite b) w
  paired stop b z = absurd z
  paired (pass f d) b i = paired d b i
  paired (both {a = a} e i n d) b (inl q) = inr (inl (ap opposite q))
  paired (both {a = a} e i n d) b (inr (inl q)) = inl (ap opposite q ∙ opposite_twice a)
  paired (both {a = a} e i n d) b (inr (inr j)) = inr (inr (paired d b j))
  paired (through {a = a} {u = u} {w = w} e n d₁ d₂) b i = go (λ j. paired d₁ b j) (λ j. paired d₂ b j) (spread b a (opposite a) u w i)
    where
      go : (In b u → In (opposite b) u) → (In b w → In (opposite b) w) → ((b ≡ a) ⊎ (b ≡ opposite a)) ⊎ (In b u ⊎ In b w) → In (opposite b) (a ∷ (u ++ (opposite a ∷ w)))
      go f g (inl (inl q)) = inr (in_append_right (opposite b) u (opposite a ∷ w) (inl (ap opposite q)))
      go f g (inl (inr q)) = inl (ap opposite q ∙ opposite_twice a)
      go f g (inr (inl j)) = inr (in_append_left (opposite b) u (opposite a ∷ w) (f j))
      go f g (inr (inr j)) = inr (in_append_right (opposite b) u (opposite a ∷ w) (inr (g j)))

  -- all hops are arcs of the list
  pub real_hops : ((a : ℕ) → In a arcs → In (opposite a) arcs) → {v : ℕ} {bs : List ℕ} {s t : St} {h k w : List ℕ} → Tours v bs s h t k w
      → ((b : ℕ) → In b bs → In b arcs) → (b : ℕ) → In b w → In b arcs
  real_hops back stop f b z = absurd z
  real_hops back (pass k d) f b i = real_hops back d (λ c j. f c (inr j)) b i
  real_hops back (both {a = a} e i n d) f b (inl q) = subst (λ (c : ℕ). In c arcs) (sym q) (f a (inl refl))
  real_hops back (both {a = a} e i n d) f b (inr (inl q)) = subst (λ (c : ℕ). In c arcs) (sym q) (back a (f a (inl refl)))
  real_hops back (both {a = a} e i n d) f b (inr (inr j)) = real_hops back d (λ c l. f c (inr l)) b j
  real_hops back (through {a = a} {u = u} {w = w} e n d₁ d₂) f b i =
      go (λ j. real_hops back d₁ (λ c l. l) b j) (λ j. real_hops back d₂ (λ c l. f c (inr l)) b j) (spread b a (opposite a) u w i)
    where
      go : (In b u → In b arcs) → (In b w → In b arcs) → ((b ≡ a) ⊎ (b ≡ opposite a)) ⊎ (In b u ⊎ In b w) → In b arcs
      go p q (inl (inl z)) = subst (λ (c : ℕ). In c arcs) (sym z) (f a (inl refl))
      go p q (inl (inr z)) = subst (λ (c : ℕ). In c arcs) (sym z) (back a (f a (inl refl)))
      go p q (inr (inl j)) = p j
      go p q (inr (inr j)) = q j

  -- ---- at the end all links have been crossed that leave v, or a switch that was visited on the way

  abbrev pub All : List ℕ → ℕ → Type 0
  All h x = (b : ℕ) → In b arcs → tl b ≡ x → Met b h

  pub all_more : (h k : List ℕ) (x : ℕ) → ((b : ℕ) → In b h → In b k) → All h x → All k x
  all_more h k x f g b i e = met_more b h k f (g b i e)

  -- of v's arcs, those that are no longer in the list have been crossed
  abbrev pub Left : ℕ → List ℕ → List ℕ → Type 0
  Left v bs h = (b : ℕ) → In b arcs → tl b ≡ v → In b bs ⊎ Met b h

  left-next : (v a : ℕ) (bs h k : List ℕ) → (tl a ≡ v → Met a k) → ((b : ℕ) → In b h → In b k) → Left v (a ∷ bs) h → Left v bs k
  left-next v a bs h k m f g b i e = go (g b i e)
    where
      go : ((b ≡ a) ⊎ In b bs) ⊎ Met b h → In b bs ⊎ Met b k
      go (inl (inl q)) = inr (subst (λ (c : ℕ). Met c k) (sym q) (m (ap tl (sym q) ∙ e)))
      go (inl (inr j)) = inl j
      go (inr n) = inr (met_more b h k f n)

  pub record Whole (v : ℕ) (s t : St) (k : List ℕ) : Type 0 where
    pub this : All k v
    pub rest : (x : ℕ) → In x t.ord → In x s.ord ⊎ All k x

  whole_step : {v a : ℕ} {s m t : St} (l k : List ℕ) → ((b : ℕ) → In b l → In b k) → Whole (hd a) (push tl hd a s) m l → Whole v m t k → Whole v s t k
  whole_step {v} {a} {s} {m} {t} l k f w₁ w₂ = record { this = w₂.this; rest = λ x i. high x (w₂.rest x i) }
    where
      low : (x : ℕ) → In x (hd a ∷ s.ord) ⊎ All l x → In x s.ord ⊎ All k x
      low x (inl (inl q)) = inr (λ b j z. met_more b l k f (w₁.this b j (z ∙ q)))
      low x (inl (inr i)) = inl i
      low x (inr g) = inr (all_more l k x f g)

      high : (x : ℕ) → In x m.ord ⊎ All k x → In x s.ord ⊎ All k x
      high x (inl i) = low x (w₁.rest x i)
      high x (inr g) = inr g

  pub whole : {v : ℕ} {bs : List ℕ} {s t : St} {h k w : List ℕ} → Tours v bs s h t k w → Left v bs h → Whole v s t k
  whole {h = h} stop f = record { this = λ b i e. go b (f b i e); rest = λ x i. inl i }
    where
      go : (b : ℕ) → ⊥ ⊎ Met b h → Met b h
      go b (inl z) = absurd z
      go b (inr n) = n
  whole {v} {h = h} (pass {a = a} {bs = bs} g d) f = whole d (left-next v a bs h h (λ e. (g e).1) (λ b i. i) f)
  whole {v} {h = h} (both {a = a} {bs = bs} e i n d) f =
      whole d (left-next v a bs h (h ++ (a ∷ opposite a ∷ [])) (λ _. inl (in_append_right a h (a ∷ opposite a ∷ []) (inl refl))) (λ b j. in_append_left b h (a ∷ opposite a ∷ []) j) f)
  whole {v} {h = h} {k = k} (through {a = a} {bs = bs} {l = l} e n d₁ d₂) f =
      whole_step l k (λ b i. grows d₂ b (in_append_left b l (opposite a ∷ []) i)) (whole d₁ (λ b i q. inl i))
      (whole d₂ (left-next v a bs h (l ++ (opposite a ∷ [])) (λ _. inr (in_append_right (opposite a) l (opposite a ∷ []) (inl refl)))
      (λ b i. in_append_left b l (opposite a ∷ []) (grows d₁ b (in_append_left b h (a ∷ []) i))) f))

  -- ---- the function is the relation

  -- trying the arcs `bs` at v leads from t to u
  pub record Toured (v : ℕ) (bs : List ℕ) (t u : Tour) : Type 0 where
    pub made : List ℕ
    pub run : Tours v bs t.seen t.hops u.seen u.hops made

  module _ (n : ℕ) (below : (a : ℕ) → In a arcs → hd a < n) where
    walked : (f : ℕ) → ((w : ℕ) (t : Tour) → unseen n t.seen.ord < f → Toured w arcs t (tour tl hd arcs f w t))
        → (v : ℕ) (bs : List ℕ) (t : Tour) → ((b : ℕ) → In b bs → In b arcs) → unseen n t.seen.ord ≤ f
        → Toured v bs t (walk_at tl hd (λ w u. tour tl hd arcs f w u) v bs t)
    unfolding walk_at
    walked f rec v [] t u h = record { made = []; run = stop }
    walked f rec v (a ∷ bs) t u h = go (λ m k. walked f rec v bs m (λ b i. u b (inr i)) k) (fresh tl hd v a t.seen) (λ x. x) (λ x. x) (first_met tl hd v a t) (λ x. x) (λ x. x)
      where
        old : (T (fresh tl hd v a t.seen) → ⊥) → tl a ≡ v → In (hd a) t.seen.ord
        old g e =
            ⊎_elim (λ x. memb→in (hd a) t.seen.ord x)
            (λ x. absurd (g (and_both (eqb (tl a) v) (not (memb (hd a) t.seen.ord)) (eq→eqb e) (not_T (memb (hd a) t.seen.ord) x)))) (T-or (memb (hd a) t.seen.ord))

        seen : (T (first_met tl hd v a t) → ⊥) → tl a ≡ v → Met a t.hops
        seen g e =
            ⊎_elim (λ x. crossed-met a t.hops x) (λ x. absurd (g (and_both (eqb (tl a) v) (not (crossed a t.hops)) (eq→eqb e) (not_T (crossed a t.hops) x))))
            (T-or (crossed a t.hops))

        next : Tour → Tour
        next m = walk_at tl hd (λ w x. tour tl hd arcs f w x) v bs m

        go : ((m : Tour) → unseen n m.seen.ord ≤ f → Toured v bs m (next m)) → (b : Bool) → (T b → T (fresh tl hd v a t.seen)) → ((T b → ⊥) → (T (fresh tl hd v a t.seen) → ⊥))
            → (c : Bool) → (T c → T (first_met tl hd v a t)) → ((T c → ⊥) → (T (first_met tl hd v a t) → ⊥))
            → Toured v (a ∷ bs) t (next (elim b as (λ _. Tour) [
              | true ↦ through_link tl hd (λ w x. tour tl hd arcs f w x) a t
              | false ↦ elim c as (λ _. Tour) [ true ↦ onward t (a ∷ opposite a ∷ []) | false ↦ t ]
            ]))
        go more true p q c p' q' =
            let e : tl a ≡ v = eqb→eq (tl a) v (and_left (eqb (tl a) v) (not (memb (hd a) t.seen.ord)) (p tt)) in
            let new : In (hd a) t.seen.ord → ⊥ = λ i. T_not (memb (hd a) t.seen.ord) (and_right (eqb (tl a) v) (not (memb (hd a) t.seen.ord)) (p tt)) (in→memb (hd a) t.seen.ord i) in
            let m : Tour = record { seen = push tl hd a t.seen; hops = t.hops ++ (a ∷ []) } in
            let l : unseen n (hd a ∷ t.seen.ord) < f = omega (arith, unseen_push n (hd a) t.seen.ord (below a (u a (inl refl))) new) in
            let d : Toured (hd a) arcs m (tour tl hd arcs f (hd a) m) = rec (hd a) m l in
            let r = more (onward (tour tl hd arcs f (hd a) m) (opposite a ∷ [])) (omega (arith, unseen_ext n (reaches d.run))) in
            record { made = a ∷ (d.made ++ (opposite a ∷ r.made)); run = through e new d.run r.run }
        go more false p q true p' q' =
            let e : tl a ≡ v = eqb→eq (tl a) v (and_left (eqb (tl a) v) (not (crossed a t.hops)) (p' tt)) in
            let new : Met a t.hops → ⊥ = λ m. T_not (crossed a t.hops) (and_right (eqb (tl a) v) (not (crossed a t.hops)) (p' tt)) (met-crossed a t.hops m) in
            let r = more (onward t (a ∷ opposite a ∷ [])) h in
            record { made = a ∷ opposite a ∷ r.made; run = both e (old (q (λ z. z)) e) new r.run }
        go more false p q false p' q' = let r = more t h in record { made = r.made; run = pass (λ e. (old (q (λ z. z)) e, seen (q' (λ z. z)) e)) r.run }

    pub tours : (f v : ℕ) (t : Tour) → unseen n t.seen.ord < f → Toured v arcs t (tour tl hd arcs f v t)
    unfolding tour
    tours zero v t h = absurd (omega arith)
    tours (suc f) v t h = walked f (tours f) v arcs t (λ b i. i) (omega arith)
