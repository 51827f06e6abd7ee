-- What holds at each point of the tour of a plant, and that each step keeps it: which leading arcs have been crossed, and which are still ahead. Assumes a valid plant and a
-- root that is a switch of it.
use mathlib.Core.Path.{◌≡◌, refl, sym, ap, ◌∙◌, subst}
use mathlib.Core.Logic.{◌⊎◌, inl, inr, ⊎_elim}
use mathlib.Core.List.{List, [], ◌∷◌, ◌++◌}
use Prim.Native.Nat.{ℕ, ◌/◌, ◌≤◌, ◌<◌}
use native.Mathlib.Omega.{arith}
use lib.Dec.{T}
use Rattle.lists.specs.Members.{In}
use Rattle.lists.proofs.Members.{in_append, in_append_left, in_append_right}
use Rattle.plant.specs.declared.Plant.{Plant}
use Rattle.walks.specs.Visit.{St, push, rank}
use Rattle.walks.specs.Inner.{Scan, done, skip, enter, leading_from}
use Rattle.walks.specs.Arcs.{opposite, tail, head, Arc, Valid}
use Rattle.walks.specs.Graph.{arcs, visited_from, entered_from}
use Rattle.walks.proofs.Visit.{rank_eq, rank_lt, rank_inj, Ext, ext_trans, ext_push}
use Rattle.walks.proofs.Labels.{opposite_twice, opposite_arc, tail-opposite, head-opposite, arcs-are, ends-apart}
use Rattle.walks.proofs.Leading.{place, lead_apart, lead_back, link_entered}
use Rattle.walks.proofs.NextAt.{From, from_first, from_rest, from_arcs, from_distinct}
use Rattle.walks.proofs.Tour.{Met, met-back, Tours, stop, pass, both, through, reaches, grows, adds, parts, paired, All, all_more, Whole, whole}
use Rattle.walks.proofs.Hops.{Known, known_both, known_push, known_next}

-- where a list has the opposite one of each member, what is met by it is in it
met-append : (b : ℕ) (h w : List ℕ) → ((c : ℕ) → In c w → In (opposite c) w) → Met b (h ++ w) → Met b h ⊎ In b w
met-append b h w f (inl i) = ⊎_elim (λ j. inl (inl j)) (λ j. inr j) (in_append b h w i)
met-append b h w f (inr i) = ⊎_elim (λ j. inl (inr j)) (λ j. inr (subst (λ (c : ℕ). In c w) (opposite_twice b) (f (opposite b) j))) (in_append (opposite b) h w i)

module _ (p : Plant) (r : ℕ) where
  -- what the whole visit enters at a switch that has been visited in s, it has entered in s
  abbrev pub Since : St → Type 0
  Since s = (b : ℕ) → In b (visited_from p r).ent → In (head p b) s.ord → In b s.ent

  pub since : {v : ℕ} {bs : List ℕ} {s t : St} → Scan (tail p) (head p) (arcs p) v bs s t → Since t → Since s
  since done f b i j = f b i j
  since (skip k d) f b i j = since d f b i j
  since {s = s} (enter {a = a} e n d₁ d₂) f b i j = go (since d₁ (λ c k l. since d₂ f c k l) b i (inr j))
    where
      go : (b ≡ a) ⊎ In b s.ent → In b s.ent
      go (inl q) = absurd (n (subst (λ (c : ℕ). In (head p c) s.ord) q j))
      go (inr k) = k

  -- what has been entered is among the hops
  abbrev pub Logged : St → List ℕ → Type 0
  Logged s h = (b : ℕ) → In b s.ent → In b h

  logged_push : (a : ℕ) (s : St) (h : List ℕ) → Logged s h → Logged (push (tail p) (head p) a s) (h ++ (a ∷ []))
  logged_push a s h f b (inl q) = in_append_right b h (a ∷ []) (inl q)
  logged_push a s h f b (inr i) = in_append_left b h (a ∷ []) (f b i)

  logged : {v : ℕ} {bs : List ℕ} {s t : St} {h k w : List ℕ} → Tours (tail p) (head p) (arcs p) v bs s h t k w → Logged s h → Logged t k
  logged stop f b i = f b i
  logged (pass g d) f b i = logged d f b i
  logged {h = h} (both {a = a} e g n d) f b i = logged d (λ c j. in_append_left c h (a ∷ opposite a ∷ []) (f c j)) b i
  logged {s = s} {h = h} (through {a = a} {l = l} e n d₁ d₂) f b i =
      logged d₂ (λ c j. in_append_left c l (opposite a ∷ []) (logged d₁ (logged_push a s h f) c j)) b i

  -- each visited switch was visited before v, or all its links have been crossed
  abbrev pub Before : ℕ → St → List ℕ → Type 0
  Before v s h = (y : ℕ) → In y s.ord → (rank y s.ord ≤ rank v s.ord) ⊎ All (tail p) (head p) (arcs p) h y

  before_more : (v : ℕ) (s : St) (h k : List ℕ) → ((b : ℕ) → In b h → In b k) → Before v s h → Before v s k
  before_more v s h k f g y i = ⊎_elim (λ l. inl l) (λ l. inr (all_more (tail p) (head p) (arcs p) h k y f l)) (g y i)

  before-next : (v a : ℕ) (s m : St) (h l : List ℕ) → In v s.ord → Ext s m → ((b : ℕ) → In b h → In b l)
      → Whole (tail p) (head p) (arcs p) (head p a) (push (tail p) (head p) a s) m l → Before v s h → Before v m l
  before-next v a s m h l i x g w f y j = go (w.rest y j)
    where
      old : In y s.ord → (rank y s.ord ≤ rank v s.ord) ⊎ All (tail p) (head p) (arcs p) h y → (rank y m.ord ≤ rank v m.ord) ⊎ All (tail p) (head p) (arcs p) l y
      old o (inl k) = inl (omega (arith, x.ranks y o, x.ranks v i))
      old o (inr k) = inr (all_more (tail p) (head p) (arcs p) h l y g k)

      go : In y (head p a ∷ s.ord) ⊎ All (tail p) (head p) (arcs p) l y → (rank y m.ord ≤ rank v m.ord) ⊎ All (tail p) (head p) (arcs p) l y
      go (inl (inl q)) = inr (λ b o z. w.this b o (z ∙ q))
      go (inl (inr o)) = old o (f y o)
      go (inr k) = inr k

  -- at v, in state s after the hops h, with the arcs `bs` to be tried
  pub record Here (v : ℕ) (bs : List ℕ) (s : St) (h : List ℕ) : Type 0 where
    pub at : In v s.ord
    pub from : From p bs
    pub known : Known (tail p) (head p) (arcs p) (tail-opposite p) (head-opposite p) s h
    pub entered : Logged s h
    pub before : Before v s h
    -- a leading arc whose link has been crossed is a hop
    pub led : (b : ℕ) → T (leading_from p r b) → Met b h → In b h
    -- the leading ones among v's arcs to be tried are not
    pub ahead : (b : ℕ) → In b bs → tail p b ≡ v → T (leading_from p r b) → In b h → ⊥

  pub here_rest : {v : ℕ} (a : ℕ) {bs : List ℕ} {s : St} {h : List ℕ} → Here v (a ∷ bs) s h → Here v bs s h
  here_rest a {bs} c = record {
    at = c.at;
    from = from_rest p a bs c.from;
    known = c.known;
    entered = c.entered;
    before = c.before;
    led = c.led;
    ahead = λ b i. c.ahead b (inr i);
  }

  pub here_arc : {v : ℕ} (a : ℕ) {bs : List ℕ} {s : St} {h : List ℕ} → Here v (a ∷ bs) s h → Arc p a
  here_arc a {bs} c = from_arcs p (a ∷ bs) c.from a (inl refl)

  -- an arc that is passed does not lead
  pub pass_follows : {v : ℕ} (a : ℕ) {bs : List ℕ} {s : St} {h : List ℕ} → Here v (a ∷ bs) s h → tail p a ≡ v → Met a h → T (leading_from p r a) → ⊥
  pass_follows a c e m t = c.ahead a (inl refl) e t (c.led a t m)

  pub here_both : {v : ℕ} (a : ℕ) {bs : List ℕ} {s : St} {h : List ℕ} → Here v (a ∷ bs) s h → tail p a ≡ v → In (head p a) s.ord → T (leading_from p r a)
      → Here v bs s (h ++ (a ∷ opposite a ∷ []))
  here_both {v} a {bs} {s} {h} c e i t = record {
    at = c.at;
    from = from_rest p a bs c.from;
    known = known_both (tail p) (head p) (arcs p) (tail-opposite p) (head-opposite p) a s h (subst (λ (x : ℕ). In x s.ord) (sym e) c.at, i) c.known;
    entered = λ b j. longer b (c.entered b j);
    before = before_more v s h (h ++ two) longer c.before;
    led = λ b u m. ⊎_elim (λ n. longer b (c.led b u n)) (λ j. in_append_right b h two j) (met-append b h two turned m);
    ahead = λ b j q u k. new b j q u (in_append b h two k);
  }
    where
      two : List ℕ
      two = a ∷ opposite a ∷ []

      longer : (b : ℕ) → In b h → In b (h ++ two)
      longer b j = in_append_left b h two j

      turned : (b : ℕ) → In b two → In (opposite b) two
      turned b (inl q) = inr (inl (ap opposite q))
      turned b (inr (inl q)) = inl (ap opposite q ∙ opposite_twice a)
      turned b (inr (inr z)) = absurd z

      new : (b : ℕ) → In b bs → tail p b ≡ v → T (leading_from p r b) → In b h ⊎ In b two → ⊥
      new b j q u (inl k) = c.ahead b (inr j) q u k
      new b j q u (inr (inl z)) = (from_distinct p (a ∷ bs) c.from).0 (subst (λ (x : ℕ). In x bs) z j)
      new b j q u (inr (inr (inl z))) = lead_apart p r a t (subst (λ (x : ℕ). T (leading_from p r x)) z u)
      new b j q u (inr (inr (inr z))) = z

module _ (p : Plant) (ok : Valid p) (r : ℕ) (r_in : r < p.switches) where
  -- a link that is crossed both ways at once is not entered, and it is crossed first by its leading arc
  pub both_leads : {v : ℕ} (a : ℕ) {bs : List ℕ} {s : St} {h : List ℕ} → Here p r v (a ∷ bs) s h → tail p a ≡ v → In (head p a) s.ord → (Met a h → ⊥) → Ext s (visited_from p r) → Since p r s
      → T (leading_from p r a) × (T (entered_from p r (a / 2)) → ⊥)
  both_leads {v} a {bs} {s} {h} c e i n x o = (lead_back p ok r r_in a (here_arc p r a c) (x.ords (tail p a) low) out (below (c.before (head p a) i)), out)
    where
      low : In (tail p a) s.ord
      low = subst (λ (y : ℕ). In y s.ord) (sym e) c.at

      out : T (entered_from p r (a / 2)) → ⊥
      out t =
          n
          (⊎_elim (λ j. inl (c.entered a (o a j i))) (λ j. inr (c.entered (opposite a) (o (opposite a) j (subst (λ (y : ℕ). In y s.ord) (sym (head-opposite p a)) low)))) (link_entered p r a t))

      apart : place p r (tail p a) ≡ place p r (head p a) → ⊥
      apart q = ends-apart p ok a (here_arc p r a c) (rank_inj (tail p a) (head p a) (visited_from p r).ord (x.ords (tail p a) low) (x.ords (head p a) i) q)

      below : (rank (head p a) s.ord ≤ rank v s.ord) ⊎ All (tail p) (head p) (arcs p) h (head p a) → place p r (head p a) < place p r (tail p a)
      below (inl l) = omega (arith, apart, x.ranks (head p a) i, x.ranks (tail p a) low, ap (λ (y : ℕ). rank y s.ord) e)
      below (inr f) = absurd (n (met-back a h (f (opposite a) ((arcs-are p (opposite a)).1 (opposite_arc p a (here_arc p r a c))) (tail-opposite p a))))

  -- an arc is entered
  pub here-push : {v : ℕ} (a : ℕ) {bs : List ℕ} {s : St} {h : List ℕ} → Here p r v (a ∷ bs) s h → tail p a ≡ v → (In (head p a) s.ord → ⊥) → T (leading_from p r a)
      → Here p r (head p a) (arcs p) (push (tail p) (head p) a s) (h ++ (a ∷ []))
  here-push {v} a {bs} {s} {h} c e n t = record {
    at = inl refl;
    from = from_first p;
    known = known_push (tail p) (head p) (arcs p) (tail-opposite p) (head-opposite p) a s h (subst (λ (x : ℕ). In x s.ord) (sym e) c.at) n c.known;
    entered = logged_push p r a s h c.entered;
    before = λ y i. inl (omega (arith, rank_lt y (head p a ∷ s.ord) i, rank_eq (head p a) (head p a) s.ord refl));
    led = led;
    ahead = λ b i q u k. new b q (in_append b h (a ∷ []) k);
  }
    where
      led : (b : ℕ) → T (leading_from p r b) → Met b (h ++ (a ∷ [])) → In b (h ++ (a ∷ []))
      led b u (inl i) = i
      led b u (inr i) = go (in_append (opposite b) h (a ∷ []) i)
        where
          go : In (opposite b) h ⊎ ((opposite b ≡ a) ⊎ ⊥) → In b (h ++ (a ∷ []))
          go (inl j) = in_append_left b h (a ∷ []) (c.led b u (inr j))
          go (inr (inl q)) = absurd (lead_apart p r a t (subst (λ (x : ℕ). T (leading_from p r x)) (sym (opposite_twice b) ∙ ap opposite q) u))
          go (inr (inr z)) = absurd z

      new : (b : ℕ) → tail p b ≡ head p a → In b h ⊎ ((b ≡ a) ⊎ ⊥) → ⊥
      new b q (inl j) = n (subst (λ (x : ℕ). In x s.ord) q (c.known b j).0)
      new b q (inr (inl z)) = ends-apart p ok a (here_arc p r a c) (ap (tail p) (sym z) ∙ q)
      new b q (inr (inr z)) = z

  -- the tails of the leading ones among hops from v are v or new
  abbrev pub Tails : ℕ → St → List ℕ → Type 0
  Tails v s w = (b : ℕ) → In b w → T (leading_from p r b) → (tail p b ≡ v) ⊎ (In (tail p b) s.ord → ⊥)

  -- its far side is finished, and it is crossed back
  pub here-next : {v : ℕ} (a : ℕ) {bs : List ℕ} {s m : St} {h l u : List ℕ} → Here p r v (a ∷ bs) s h → tail p a ≡ v → (In (head p a) s.ord → ⊥) → T (leading_from p r a)
      → Tours (tail p) (head p) (arcs p) (head p a) (arcs p) (push (tail p) (head p) a s) (h ++ (a ∷ [])) m l u → Tails (head p a) (push (tail p) (head p) a s) u
      → Here p r v bs m (l ++ (opposite a ∷ []))
  here-next {v} a {bs} {s} {m} {h} {l} {u} c e n t d f = record {
    at = (reaches (tail p) (head p) (arcs p) d).ords v (inr c.at);
    from = from_rest p a bs c.from;
    known = known_next (tail p) (head p) (arcs p) (tail-opposite p) (head-opposite p) a h d (subst (λ (x : ℕ). In x s.ord) (sym e) c.at) n c.known;
    entered = λ b i. longer b (logged p r d (logged_push p r a s h c.entered) b i);
    before = before_more p r v m l (l ++ (opposite a ∷ [])) longer
        (before-next p r v a s m h l c.at (ext_trans (ext_push (tail p) (head p) a s n) (reaches (tail p) (head p) (arcs p) d)) (λ b i. grow b (in_append_left b h (a ∷ []) i))
        (whole (tail p) (head p) (arcs p) d (λ b i q. inl i)) c.before);
    led = led;
    ahead = λ b i q x k. new b i q x (in_append b l (opposite a ∷ []) k);
  }
    where
      longer : (b : ℕ) → In b l → In b (l ++ (opposite a ∷ []))
      longer b i = in_append_left b l (opposite a ∷ []) i

      grow : (b : ℕ) → In b (h ++ (a ∷ [])) → In b l
      grow b i = grows (tail p) (head p) (arcs p) d b i

      led : (b : ℕ) → T (leading_from p r b) → Met b (l ++ (opposite a ∷ [])) → In b (l ++ (opposite a ∷ []))
      led b x (inl i) = i
      led b x (inr i) = go (in_append (opposite b) l (opposite a ∷ []) i)
        where
          far : In (opposite b) (h ++ (a ∷ [])) ⊎ In (opposite b) u → In b l
          far (inl j) = grow b ((here-push a c e n t).led b x (inr j))
          far (inr j) = adds (tail p) (head p) (arcs p) d b (subst (λ (k : ℕ). In k u) (opposite_twice b) (paired (tail p) (head p) (arcs p) d (opposite b) j))

          go : In (opposite b) l ⊎ ((opposite b ≡ opposite a) ⊎ ⊥) → In b (l ++ (opposite a ∷ []))
          go (inl j) = longer b (far (parts (tail p) (head p) (arcs p) d (opposite b) j))
          go (inr (inl q)) = longer b (grow b (in_append_right b h (a ∷ []) (inl (sym (opposite_twice b) ∙ ap opposite q ∙ opposite_twice a))))
          go (inr (inr z)) = absurd z

      old : (b : ℕ) → In b bs → tail p b ≡ v → T (leading_from p r b) → In b h ⊎ ((b ≡ a) ⊎ ⊥) → ⊥
      old b i q x (inl o) = c.ahead b (inr i) q x o
      old b i q x (inr (inl z)) = (from_distinct p (a ∷ bs) c.from).0 (subst (λ (k : ℕ). In k bs) z i)
      old b i q x (inr (inr z)) = z

      made : (b : ℕ) → tail p b ≡ v → (tail p b ≡ head p a) ⊎ (In (tail p b) (head p a ∷ s.ord) → ⊥) → ⊥
      made b q (inl z) = n (subst (λ (k : ℕ). In k s.ord) (sym q ∙ z) c.at)
      made b q (inr g) = g (inr (subst (λ (k : ℕ). In k s.ord) (sym q) c.at))

      new : (b : ℕ) → In b bs → tail p b ≡ v → T (leading_from p r b) → In b l ⊎ ((b ≡ opposite a) ⊎ ⊥) → ⊥
      new b i q x (inl j) = ⊎_elim (λ k. old b i q x (in_append b h (a ∷ []) k)) (λ k. made b q (f b k x)) (parts (tail p) (head p) (arcs p) d b j)
      new b i q x (inr (inl z)) = lead_apart p r a t (subst (λ (k : ℕ). T (leading_from p r k)) z x)
      new b i q x (inr (inr z)) = z
