-- Laws of the depth-first visit over a list of arcs: ranks, what a visit extends, what it closes, and that it leads back over arcs in use. Assumes nothing.
use mathlib.Core.Path.{◌≡◌, refl, sym, ap, ◌∙◌, subst}
use mathlib.Core.Logic.{◌⊎◌, inl, inr, ⊎_elim}
use mathlib.Core.List.{List, [], ◌∷◌}
use Prim.Native.Nat.{ℕ, suc, ◌≤◌, ◌<◌}
use native.Mathlib.Omega.{arith}
use lib.Dec.{eqb, eqb→eq}
use lib.ListN.{length}
use Rattle.lists.proofs.Tests.{if_true, if_false, eq?, eq→eqb}
use Rattle.lists.specs.Members.{In}
use Rattle.lists.proofs.Members.{in?}
use Rattle.walks.specs.Walk.{Reach, here, step}
use Rattle.walks.proofs.Walk.{trans, weaken, one, exits}
use Rattle.walks.specs.Visit.{St, push, rank}
use Rattle.walks.specs.Inner.{Scan, done, skip, enter}

pub rank_eq : (x y : ℕ) (l : List ℕ) → x ≡ y → rank x (y ∷ l) ≡ length l
rank_eq x y l e = if_true (eqb x y) (length l) (rank x l) (eq→eqb e)

pub rank_ne : (x y : ℕ) (l : List ℕ) → (x ≡ y → ⊥) → rank x (y ∷ l) ≡ rank x l
rank_ne x y l n = if_false (eqb x y) (length l) (rank x l) (λ t. n (eqb→eq x y t))

pub rank_lt : (x : ℕ) (l : List ℕ) → In x l → rank x l < length l
rank_lt x [] h = absurd h
rank_lt x (y ∷ l) h = go (rank_lt x l) h (eq? x y)
  where
    go : (In x l → rank x l < length l) → (x ≡ y) ⊎ In x l → (x ≡ y) ⊎ (x ≡ y → ⊥) → rank x (y ∷ l) < suc (length l)
    go rec h (inl e) = rw (rank_eq x y l e) (omega arith)
    go rec (inl e) (inr n) = absurd (n e)
    go rec (inr m) (inr n) = rw (rank_ne x y l n) (omega (arith, rec m))

pub rank_inj : (x y : ℕ) (l : List ℕ) → In x l → In y l → rank x l ≡ rank y l → x ≡ y
rank_inj x y [] h i e = absurd h
rank_inj x y (z ∷ l) h i e = go (rank_inj x y l) h i (eq? x z) (eq? y z)
  where
    go : (In x l → In y l → rank x l ≡ rank y l → x ≡ y) → (x ≡ z) ⊎ In x l → (y ≡ z) ⊎ In y l → (x ≡ z) ⊎ (x ≡ z → ⊥) → (y ≡ z) ⊎ (y ≡ z → ⊥) → x ≡ y
    go rec h i (inl p) (inl q) = p ∙ sym q
    go rec h (inl q) (inl p) (inr n) = absurd (n q)
    go rec h (inr i) (inl p) (inr n) = absurd (omega (arith, rank_eq x z l p, rank_ne y z l n, rank_lt y l i))
    go rec (inl p) i (inr n) (inl q) = absurd (n p)
    go rec (inr h) i (inr n) (inl q) = absurd (omega (arith, rank_ne x z l n, rank_eq y z l q, rank_lt x l h))
    go rec (inl p) i (inr n) (inr m) = absurd (n p)
    go rec (inr h) (inl q) (inr n) (inr m) = absurd (m q)
    go rec (inr h) (inr i) (inr n) (inr m) = rec h i (omega (arith, rank_ne x z l n, rank_ne y z l m))

-- t comes after s: nothing is lost, and no rank changes
pub record Ext (s t : St) : Type 0 where
  pub ords : (x : ℕ) → In x s.ord → In x t.ord
  pub ents : (b : ℕ) → In b s.ent → In b t.ent
  pub ranks : (x : ℕ) → In x s.ord → rank x t.ord ≡ rank x s.ord
  pub longer : length s.ord ≤ length t.ord

pub ext_refl : (s : St) → Ext s s
ext_refl s = record { ords = λ x h. h; ents = λ b h. h; ranks = λ x h. refl; longer = omega arith }

pub ext_trans : {s m t : St} → Ext s m → Ext m t → Ext s t
ext_trans p q = record {
  ords = λ x h. q.ords x (p.ords x h);
  ents = λ x h. q.ents x (p.ents x h);
  ranks = λ x h. q.ranks x (p.ords x h) ∙ p.ranks x h;
  longer = omega arith;
}

module _ (tl hd : ℕ → ℕ) where
  pub ext_push : (a : ℕ) (s : St) → (In (hd a) s.ord → ⊥) → Ext s (push tl hd a s)
  ext_push a s n = record {
    ords = λ x h. inr h;
    ents = λ b h. inr h;
    ranks = λ x h. rank_ne x (hd a) s.ord (λ e. n (subst (λ (k : ℕ). In k s.ord) e h));
    longer = omega arith;
  }

  module _ (arcs : List ℕ) where
    pub ext : {v : ℕ} {bs : List ℕ} {s t : St} → Scan tl hd arcs v bs s t → Ext s t
    ext {s} done = ext_refl s
    ext (skip k d) = ext d
    ext {s} (enter {a} e n d₁ d₂) = ext_trans (ext_push a s n) (ext_trans (ext d₁) (ext d₂))

    -- ---- what is visited at the end: x is finished in s when every arc that leaves it arrives at a visited switch
    abbrev pub Fin : St → ℕ → Type 0
    Fin s x = (b : ℕ) → In b arcs → tl b ≡ x → In (hd b) s.ord

    pub fin_ext : {s t : St} {x : ℕ} → Ext s t → Fin s x → Fin t x
    fin_ext e f b h q = e.ords (hd b) (f b h q)

    -- of v's arcs, those that are no longer in the list have been tried
    abbrev pub Tried : ℕ → List ℕ → St → Type 0
    Tried v bs s = (b : ℕ) → In b arcs → tl b ≡ v → In b bs ⊎ In (hd b) s.ord

    tried-skip : (v a : ℕ) (bs : List ℕ) {s m : St} → Ext s m → (tl a ≡ v → In (hd a) m.ord) → Tried v (a ∷ bs) s → Tried v bs m
    tried-skip v a bs {s} {m} x k h b i e = ⊎_elim (⊎_elim (λ q. inr (subst (λ (c : ℕ). In (hd c) m.ord) (sym q) (k (ap tl (sym q) ∙ e)))) (λ q. inl q)) (λ q. inr (x.ords (hd b) q)) (h b i e)

    -- v is finished at the end, and so is each switch that was visited on the way
    pub record Closed (v : ℕ) (s t : St) : Type 0 where
      pub this : Fin t v
      pub rest : (x : ℕ) → In x t.ord → In x s.ord ⊎ Fin t x

    -- w was entered, and all below it is finished in m; from there v goes on to t
    closed_step : {v a : ℕ} {s m t : St} → Ext m t → Closed (hd a) (push tl hd a s) m → Closed v m t → Closed v s t
    closed_step {v} {a} {s} {m} {t} x c₁ c₂ = record { this = c₂.this; rest = λ y h. go y (c₂.rest y h) }
      where
        low : (y : ℕ) → In y (push tl hd a s).ord ⊎ Fin m y → In y s.ord ⊎ Fin t y
        low y (inl (inl e)) = inr (λ b i q. fin_ext x c₁.this b i (q ∙ e))
        low y (inl (inr h)) = inl h
        low y (inr f) = inr (fin_ext x f)

        go : (y : ℕ) → In y m.ord ⊎ Fin t y → In y s.ord ⊎ Fin t y
        go y (inl h) = low y (c₁.rest y h)
        go y (inr f) = inr f

    tried_enter : (v a : ℕ) (bs : List ℕ) {s m : St} → (In (hd a) s.ord → ⊥) → Ext (push tl hd a s) m → Tried v (a ∷ bs) s → Tried v bs m
    tried_enter v a bs {s} n x h = tried-skip v a bs (ext_trans (ext_push a s n) x) (λ _. x.ords (hd a) (inl refl)) h

    pub closed : {v : ℕ} {bs : List ℕ} {s t : St} → Scan tl hd arcs v bs s t → Tried v bs s → Closed v s t
    closed {v} {s = s} done h = record { this = go; rest = λ x i. inl i }
      where
        pick : (b : ℕ) → ⊥ ⊎ In (hd b) s.ord → In (hd b) s.ord
        pick b (inl z) = absurd z
        pick b (inr i) = i

        go : Fin s v
        go b i e = pick b (h b i e)
    closed {v} {s = s} (skip {a = a} {bs = bs} k d) h = closed d (tried-skip v a bs (ext_refl s) k h)
    closed {v} (enter {a = a} {bs = bs} e n d₁ d₂) h = closed_step (ext d₂) (closed d₁ (λ b i q. inl i)) (closed d₂ (tried_enter v a bs n (ext d₁) h))

    -- ---- where a visited switch comes from

    -- x was visited between s and t, on the way from v: by entered arcs from v, the last of which leaves v or a switch that is as new as x
    pub record New (v : ℕ) (s t : St) (x : ℕ) : Type 0 where
      pub path : Reach tl hd (λ b. In b t.ent) x v
      pub arc : ℕ
      pub inside : In arc t.ent
      pub to : hd arc ≡ x
      pub from : (tl arc ≡ v) ⊎ (In (tl arc) s.ord → ⊥)

    -- x is visited in t and not in s: w was entered by the arc a, and it stands in m
    born_step : {v a : ℕ} {s m t : St} → tl a ≡ v → (In (hd a) s.ord → ⊥) → Ext (push tl hd a s) m → Ext m t → (x : ℕ)
        → ((y : ℕ) → In y m.ord → In y (push tl hd a s).ord ⊎ New (hd a) (push tl hd a s) m y)
        → In x m.ord ⊎ New v m t x → In x s.ord ⊎ New v s t x
    born_step {v} {a} {s} {m} {t} e n x₁ x₂ x f (inr w) = inr (record { path = w.path; arc = w.arc; inside = w.inside; to = w.to; from = go w.from })
      where
        go : (tl w.arc ≡ v) ⊎ (In (tl w.arc) m.ord → ⊥) → (tl w.arc ≡ v) ⊎ (In (tl w.arc) s.ord → ⊥)
        go (inl q) = inl q
        go (inr q) = inr (λ h. q (x₁.ords _ (inr h)))
    born_step {v} {a} {s} {m} {t} e n x₁ x₂ x f (inl h) = go (f x h)
      where
        ent_a : In a t.ent
        ent_a = x₂.ents a (x₁.ents a (inl refl))

        from_m : (w : New (hd a) (push tl hd a s) m x) → (tl w.arc ≡ hd a) ⊎ (In (tl w.arc) (push tl hd a s).ord → ⊥)
            → (tl w.arc ≡ v) ⊎ (In (tl w.arc) s.ord → ⊥)
        from_m w (inl q) = inr (λ i. n (subst (λ (k : ℕ). In k s.ord) q i))
        from_m w (inr q) = inr (λ i. q (inr i))

        go : In x (push tl hd a s).ord ⊎ New (hd a) (push tl hd a s) m x → In x s.ord ⊎ New v s t x
        go (inl (inl q)) = inr (record { path = one a ent_a e (sym q); arc = a; inside = ent_a; to = sym q; from = inl e })
        go (inl (inr q)) = inl q
        go (inr w) = inr (record {
          path = step a ent_a e (weaken (λ b i. x₂.ents b i) w.path);
          arc = w.arc;
          inside = x₂.ents _ w.inside;
          to = w.to;
          from = from_m w w.from;
        })

    pub born : {v : ℕ} {bs : List ℕ} {s t : St} → Scan tl hd arcs v bs s t → (x : ℕ) → In x t.ord → In x s.ord ⊎ New v s t x
    born done x h = inl h
    born (skip k d) x h = born d x h
    born (enter {a} e n d₁ d₂) x h = born_step e n (ext d₁) (ext d₂) x (λ y i. born d₁ y i) (born d₂ x h)

    -- ---- a switch that is visited later has a higher rank

    later_step : {a : ℕ} {s m t : St} (x : ℕ) → (In (hd a) s.ord → ⊥) → Ext (push tl hd a s) m → Ext m t → (In x s.ord → ⊥)
        → ((In x (push tl hd a s).ord → ⊥) → In x m.ord → suc (length s.ord) ≤ rank x m.ord)
        → ((In x m.ord → ⊥) → length m.ord ≤ rank x t.ord)
        → length s.ord ≤ rank x t.ord
    later_step {a} {s} {m} {t} x n x₁ x₂ new f₁ f₂ = go (in? x m.ord) (eq? x (hd a))
      where
        go : In x m.ord ⊎ (In x m.ord → ⊥) → (x ≡ hd a) ⊎ (x ≡ hd a → ⊥) → length s.ord ≤ rank x t.ord
        go (inr h) _ = omega (arith, f₂ h, x₁.longer)
        go (inl h) (inl q) = omega (arith, x₂.ranks x h, x₁.ranks x (inl q), rank_eq x (hd a) s.ord q)
        go (inl h) (inr q) = omega (arith, x₂.ranks x h, f₁ (λ i. elim i [ inl z ↦ q z | inr z ↦ new z ]) h)

    pub later : {v : ℕ} {bs : List ℕ} {s t : St} → Scan tl hd arcs v bs s t → (x : ℕ) → (In x s.ord → ⊥) → In x t.ord → length s.ord ≤ rank x t.ord
    later done x n h = absurd (n h)
    later (skip k d) x n h = later d x n h
    later (enter e k d₁ d₂) x n h = later_step x k (ext d₁) (ext d₂) n (λ i j. later d₁ x i j) (λ i. later d₂ x i h)

    -- ---- the entered arcs: each goes from a switch to one that is visited later, and no switch is entered twice
    pub record Good (s : St) : Type 0 where
      pub real : (b : ℕ) → In b s.ent → In b arcs
      pub low : (b : ℕ) → In b s.ent → In (tl b) s.ord
      pub high : (b : ℕ) → In b s.ent → In (hd b) s.ord
      pub up : (b : ℕ) → In b s.ent → rank (tl b) s.ord < rank (hd b) s.ord
      pub once : (b c : ℕ) → In b s.ent → In c s.ent → hd b ≡ hd c → b ≡ c
      pub size : length s.ord ≡ suc (length s.ent)

    good_push : (a : ℕ) (s : St) → In a arcs → In (tl a) s.ord → (In (hd a) s.ord → ⊥) → Good s → Good (push tl hd a s)
    good_push a s r i n g = record { real = real; low = low; high = high; up = up; once = once; size = ap suc g.size }
      where
        x : Ext s (push tl hd a s)
        x = ext_push a s n

        real : (b : ℕ) → (b ≡ a) ⊎ In b s.ent → In b arcs
        real b (inl e) = subst (λ (k : ℕ). In k arcs) (sym e) r
        real b (inr h) = g.real b h

        low : (b : ℕ) → (b ≡ a) ⊎ In b s.ent → In (tl b) (push tl hd a s).ord
        low b (inl e) = inr (subst (λ (k : ℕ). In (tl k) s.ord) (sym e) i)
        low b (inr h) = inr (g.low b h)

        high : (b : ℕ) → (b ≡ a) ⊎ In b s.ent → In (hd b) (push tl hd a s).ord
        high b (inl e) = inl (ap hd e)
        high b (inr h) = inr (g.high b h)

        up : (b : ℕ) → (b ≡ a) ⊎ In b s.ent → rank (tl b) (push tl hd a s).ord < rank (hd b) (push tl hd a s).ord
        up b (inl e) =
            let j : In (tl b) s.ord = subst (λ (k : ℕ). In (tl k) s.ord) (sym e) i in
            omega (arith, x.ranks (tl b) j, rank_lt (tl b) s.ord j, rank_eq (hd b) (hd a) s.ord (ap hd e))
        up b (inr h) = omega (arith, x.ranks (tl b) (g.low b h), x.ranks (hd b) (g.high b h), g.up b h)

        once : (b c : ℕ) → (b ≡ a) ⊎ In b s.ent → (c ≡ a) ⊎ In c s.ent → hd b ≡ hd c → b ≡ c
        once b c (inl e) (inl f) q = e ∙ sym f
        once b c (inl e) (inr h) q = absurd (n (subst (λ (k : ℕ). In k s.ord) (sym q ∙ ap hd e) (g.high c h)))
        once b c (inr h) (inl f) q = absurd (n (subst (λ (k : ℕ). In k s.ord) (q ∙ ap hd f) (g.high b h)))
        once b c (inr h) (inr k) q = g.once b c h k q

    -- the list holds arcs of the plant alone
    abbrev pub Sub : List ℕ → Type 0
    Sub bs = (b : ℕ) → In b bs → In b arcs

    pub good : {v : ℕ} {bs : List ℕ} {s t : St} → Scan tl hd arcs v bs s t → Sub bs → In v s.ord → Good s → Good t
    good done u i g = g
    good (skip k d) u i g = good d (λ b h. u b (inr h)) i g
    good {s = s} (enter {a = a} e n d₁ d₂) u i g =
        let j : In (tl a) s.ord = subst (λ (k : ℕ). In k s.ord) (sym e) i in
        let g₁ = good d₁ (λ b h. h) (inl refl) (good_push a s (u a (inl refl)) j n g) in
        good d₂ (λ b h. u b (inr h)) ((ext d₁).ords _ (inr i)) g₁

    -- ---- each switch that is not finished leads down to v by entered arcs
    abbrev pub Above : ℕ → St → Type 0
    Above v s = (y : ℕ) → In y s.ord → Fin s y ⊎ Reach tl hd (λ b. In b s.ent) v y

    above_push : (v a : ℕ) (s : St) → tl a ≡ v → (In (hd a) s.ord → ⊥) → Above v s → Above (hd a) (push tl hd a s)
    above_push v a s e n h y (inl q) = inr (here q)
    above_push v a s e n h y (inr i) = ⊎_elim (λ f. inl (fin_ext (ext_push a s n) f)) (λ r. inr (trans (weaken (λ b j. inr j) r) (one a (inl refl) e refl))) (h y i)

    above_next : (v a : ℕ) (s m : St) → (In (hd a) s.ord → ⊥) → Ext (push tl hd a s) m → Closed (hd a) (push tl hd a s) m → Above v s → Above v m
    above_next v a s m n x c h y i = go (c.rest y i)
      where
        old : Fin s y ⊎ Reach tl hd (λ b. In b s.ent) v y → Fin m y ⊎ Reach tl hd (λ b. In b m.ent) v y
        old (inl f) = inl (fin_ext (ext_trans (ext_push a s n) x) f)
        old (inr r) = inr (weaken (λ b j. x.ents b (inr j)) r)

        go : In y (push tl hd a s).ord ⊎ Fin m y → Fin m y ⊎ Reach tl hd (λ b. In b m.ent) v y
        go (inl (inl q)) = inl (λ b j z. c.this b j (z ∙ q))
        go (inl (inr j)) = old (h y j)
        go (inr f) = inl f

    module _ (rev lk : ℕ → ℕ) (tl_rev : (a : ℕ) → tl (rev a) ≡ hd a) (hd_rev : (a : ℕ) → hd (rev a) ≡ tl a) (lk_rev : (a : ℕ) → lk (rev a) ≡ lk a)
        (rev_in : (a : ℕ) → In a arcs → In (rev a) arcs) (F : St) (good_F : Good F) (Use : ℕ → Type 0)
        (use_ent : (b : ℕ) → In b F.ent → Use b)
        (use_back : (b : ℕ) → In b arcs → In (tl b) F.ord → rank (hd b) F.ord < rank (tl b) F.ord → (In (rev b) F.ent → ⊥) → Use b)
      where
        -- if the link of b is no bridge, then b's head leads back to its tail over arcs in use
        abbrev pub Ret : ℕ → Type 0
        Ret b = Reach tl hd (λ c. In c arcs × (lk c ≡ lk b → ⊥)) (tl b) (hd b) → Reach tl hd Use (tl b) (hd b)

        -- the case of the arc a that is entered at v in state s, where m is the state after all below a
        module _ (a : ℕ) (s m : St) (i : In (tl a) s.ord) (n : In (hd a) s.ord → ⊥) (d : Scan tl hd arcs (hd a) arcs (push tl hd a s) m)
            (h : Above (tl a) s) (x : Ext m F)
          where
            Inside : ℕ → Type 0
            Inside y = In y m.ord × (In y s.ord → ⊥)

            inside? : (y : ℕ) → Inside y ⊎ (Inside y → ⊥)
            unfolding Inside
            inside? y = go (in? y m.ord) (in? y s.ord)
              where
                go : In y m.ord ⊎ (In y m.ord → ⊥) → In y s.ord ⊎ (In y s.ord → ⊥) → Inside y ⊎ (Inside y → ⊥)
                go (inl p) (inl q) = inr (λ z. z.1 q)
                go (inl p) (inr q) = inl (p, q)
                go (inr p) q = inr (λ z. p z.0)

            c : Closed (hd a) (push tl hd a s) m
            c = closed d (λ b j q. inl j)

            x₀ : Ext s m
            x₀ = ext_trans (ext_push a s n) (ext d)

            -- y leads down to v, and c leads from inside to y
            module _ (b : ℕ) (b_in : In b arcs) (b_ne : lk b ≡ lk a → ⊥) (p : Inside (tl b)) (q : Inside (hd b) → ⊥) where
              fin : Fin m (tl b)
              unfolding Inside
              fin = ⊎_elim (⊎_elim (λ e. λ k j z. c.this k j (z ∙ e)) (λ j. absurd (p.1 j))) (λ f. f) (c.rest (tl b) p.0)

              old : In (hd b) s.ord
              unfolding Inside
              old = ⊎_elim (λ j. j) (λ j. absurd (q (fin b b_in refl, j))) (in? (hd b) s.ord)

              down : Reach tl hd (λ k. In k s.ent) (tl a) (hd b)
              unfolding Inside
              down = ⊎_elim (λ f. absurd (p.1 (subst (λ (k : ℕ). In k s.ord) (hd_rev b) (f (rev b) (rev_in b b_in) (tl_rev b))))) (λ r. r) (h (hd b) old)

              -- where the tail of b comes from
              origin : (tl b ≡ hd a) ⊎ New (hd a) (push tl hd a s) m (tl b)
              unfolding Inside
              origin = ⊎_elim (⊎_elim (λ e. inl e) (λ j. absurd (p.1 j))) (λ w. inr w) (born d (tl b) p.0)

              lower : rank (hd b) F.ord < rank (tl b) F.ord
              unfolding Inside
              lower = omega (arith, x.ranks (hd b) (x₀.ords _ old), x₀.ranks (hd b) old, rank_lt (hd b) s.ord old, x.ranks (tl b) p.0, gap origin)
                where
                  gap : (tl b ≡ hd a) ⊎ New (hd a) (push tl hd a s) m (tl b) → length s.ord ≤ rank (tl b) m.ord
                  gap (inl e) = omega (arith, (ext d).ranks (tl b) (inl e), rank_eq (tl b) (hd a) s.ord e)
                  gap (inr w) =
                      ⊎_elim (λ e. omega (arith, (ext d).ranks (tl b) (inl e), rank_eq (tl b) (hd a) s.ord e))
                      (λ f. omega (arith, later d (tl b) (λ z. elim z [ inl k ↦ f k | inr k ↦ p.1 k ]) p.0)) (eq? (tl b) (hd a))

              not_back : In (rev b) F.ent → ⊥
              not_back r = go origin
                where
                  ent_a : In a F.ent
                  ent_a = x.ents a ((ext d).ents a (inl refl))

                  new : (w : New (hd a) (push tl hd a s) m (tl b)) → (tl w.arc ≡ hd a) ⊎ (In (tl w.arc) (push tl hd a s).ord → ⊥) → In (tl w.arc) s.ord → ⊥
                  new w (inl e) j = n (subst (λ (k : ℕ). In k s.ord) e j)
                  new w (inr f) j = f (inr j)

                  go : (tl b ≡ hd a) ⊎ New (hd a) (push tl hd a s) m (tl b) → ⊥
                  go (inl e) = b_ne (sym (lk_rev b) ∙ ap lk (good_F.once (rev b) a r ent_a (hd_rev b ∙ e)))
                  go (inr w) =
                      let same : w.arc ≡ rev b = good_F.once w.arc (rev b) (x.ents _ w.inside) r (w.to ∙ sym (hd_rev b)) in
                      new w w.from (subst (λ (k : ℕ). In k s.ord) (sym (ap tl same ∙ tl_rev b)) old)

              down_to : (tl b ≡ hd a) ⊎ New (hd a) (push tl hd a s) m (tl b) → Reach tl hd Use (tl b) (hd a)
              down_to (inl e) = here (sym e)
              down_to (inr w) = weaken (λ k j. use_ent k (x.ents k j)) w.path

              round : Reach tl hd Use (tl a) (hd a)
              unfolding Inside
              round =
                  trans (down_to origin)
                  (step b (use_back b b_in (x.ords _ p.0) lower not_back) refl (weaken (λ k j. use_ent k (x.ents k (x₀.ents k j))) down))

            ret : Ret a
            unfolding Inside
            ret r =
                let e = exits Inside inside? ((ext d).ords _ (inl refl), n) (λ z. z.1 i) r in
                round e.0 e.1.0 e.1.1 e.2 e.3

        pub returns : {v : ℕ} {bs : List ℕ} {s t : St} → Scan tl hd arcs v bs s t → Tried v bs s → Above v s → In v s.ord → Ext t F
            → (b : ℕ) → In b t.ent → In b s.ent ⊎ Ret b
        returns done u h i x b j = inl j
        returns {v} {s = s} (skip {a = a} {bs = bs} k d) u h i x b j = returns d (tried-skip v a bs (ext_refl s) k u) h i x b j
        returns {v} {s = s} (enter {a = a} {bs = bs} {m = m} e n d₁ d₂) u h i x b j =
            go (returns d₁ (λ k l q. inl l) (above_push v a s e n h) (inl refl) y b)
            (returns d₂ (tried_enter v a bs n (ext d₁) u) (above_next v a s m n (ext d₁) (closed d₁ (λ k l q. inl l)) h) ((ext d₁).ords _ (inr i)) x b j)
          where
            y : Ext m F
            y = ext_trans (ext d₂) x

            i' : In (tl a) s.ord
            i' = subst (λ (k : ℕ). In k s.ord) (sym e) i

            h' : Above (tl a) s
            h' = subst (λ (k : ℕ). Above k s) (sym e) h

            low : In b (a ∷ s.ent) ⊎ Ret b → In b s.ent ⊎ Ret b
            low (inl (inl q)) = inr (subst Ret (sym q) (ret a s m i' n d₁ h' y))
            low (inl (inr k)) = inl k
            low (inr r) = inr r

            go : (In b m.ent → In b (a ∷ s.ent) ⊎ Ret b) → In b m.ent ⊎ Ret b → In b s.ent ⊎ Ret b
            go f (inl k) = low (f k)
            go f (inr r) = inr r
