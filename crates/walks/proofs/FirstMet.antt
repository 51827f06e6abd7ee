-- What a tour makes: each link is crossed first by its leading arc, so that one which is not entered is first met at its later visited end, and it is crossed at once back; and the
-- tails of the leading hops are where the tour began, or new. Assumes a valid plant and a root that is a switch of it.
use mathlib.Core.Path.{◌≡◌, refl, sym, ap, ◌∙◌, subst}
use mathlib.Core.Logic.{◌⊎◌, inl, inr, ⊎_elim}
use mathlib.Core.List.{List, [], ◌∷◌, ◌++◌}
use Prim.Native.Nat.{ℕ, ◌/◌, ◌<◌}
use lib.Dec.{T}
use Rattle.lists.specs.Members.{In}
use Rattle.plant.specs.declared.Plant.{Plant}
use Rattle.walks.specs.Visit.{St, push}
use Rattle.walks.specs.Inner.{leading_from}
use Rattle.walks.specs.Arcs.{opposite, tail, head, Valid}
use Rattle.walks.specs.Graph.{arcs, visited_from, entered_from}
use Rattle.walks.proofs.Visit.{Ext, ext_trans}
use Rattle.walks.proofs.Labels.{opposite_twice}
use Rattle.walks.proofs.Leading.{lead_apart, lead_entered, entered_link}
use Rattle.walks.proofs.Tour.{spread, Tours, stop, pass, both, through, visit_of, reaches}
use Rattle.walks.proofs.Halfway.{Since, since, Here, here_rest, here_both, both_leads, here-push, Tails, here-next}

-- ---- each hop leads, or comes after the opposite one: among the hops h or in the list

module _ (p : Plant) (r : ℕ) where
  abbrev pub Firsts : List ℕ → List ℕ → Type 0
  Firsts h [] = Unit
  Firsts h (a ∷ w) = (T (leading_from p r a) ⊎ In (opposite a) h) × Firsts (a ∷ h) w

  more : (w h k : List ℕ) → ((b : ℕ) → In b h → In b k) → Firsts h w → Firsts k w
  more [] h k f t = tt
  more (a ∷ w) h k f t = (⊎_elim (λ l. inl l) (λ i. inr (f (opposite a) i)) t.0, more w (a ∷ h) (a ∷ k) (λ b i. ⊎_elim (λ e. inl e) (λ j. inr (f b j)) i) t.1)

  join : (u w h : List ℕ) → Firsts h u → Firsts h w → Firsts h (u ++ w)
  join [] w h s t = t
  join (a ∷ u) w h s t = (s.0, join u w (a ∷ h) s.1 (more w h (a ∷ h) (λ b i. inr i) t))

  pub first-at : (x y h : List ℕ) (a : ℕ) → Firsts h (x ++ (a ∷ y)) → T (leading_from p r a) ⊎ (In (opposite a) x ⊎ In (opposite a) h)
  first-at [] y h a t = ⊎_elim (λ l. inl l) (λ i. inr (inr i)) t.0
  first-at (b ∷ x) y h a t = ⊎_elim (λ l. inl l) (⊎_elim (λ i. inr (inl (inr i))) (⊎_elim (λ e. inr (inl (inl e))) (λ i. inr (inr i)))) (first-at x y (b ∷ h) a t.1)

  -- ---- after a leading arc of a link that is not entered comes the opposite one

  abbrev Begins : ℕ → List ℕ → Type 0
  Begins b [] = ⊥
  Begins b (c ∷ w) = c ≡ b

  abbrev pub Turned : List ℕ → Type 0
  Turned [] = Unit
  Turned (a ∷ w) = (T (leading_from p r a) → (T (entered_from p r (a / 2)) → ⊥) → Begins (opposite a) w) × Turned w

  turned_join : (u w : List ℕ) → Turned u → Turned w → Turned (u ++ w)
  turned_join [] w s t = t
  turned_join (a ∷ u) w s t = (λ l n. begins u (s.0 l n), turned_join u w s.1 t)
    where
      begins : (v : List ℕ) → Begins (opposite a) v → Begins (opposite a) (v ++ w)
      begins [] z = absurd z
      begins (c ∷ v) e = e

  pub turned_at : (x y : List ℕ) (a : ℕ) → Turned (x ++ (a ∷ y)) → T (leading_from p r a) → (T (entered_from p r (a / 2)) → ⊥) → (z : List ℕ) × (y ≡ opposite a ∷ z)
  turned_at [] y a t l n = go y (t.0 l n)
    where
      go : (v : List ℕ) → Begins (opposite a) v → (z : List ℕ) × (v ≡ opposite a ∷ z)
      go [] b = absurd b
      go (c ∷ v) e = (v, ap (λ (k : ℕ). k ∷ v) e)
  turned_at (b ∷ x) y a t l n = turned_at x y a t.1 l n

-- ---- along the tour

module _ (p : Plant) (ok : Valid p) (r : ℕ) (r_in : r < p.switches) where
  -- what holds of the hops w that are made at v from state s on
  pub record Made (v : ℕ) (s : St) (w : List ℕ) : Type 0 where
    pub tails : Tails p ok r r_in v s w
    pub firsts : Firsts p r [] w
    pub turned : Turned p r w

  made_both : {v : ℕ} (a : ℕ) {s : St} {w : List ℕ} → tail p a ≡ v → T (leading_from p r a) → Made v s w → Made v s (a ∷ opposite a ∷ w)
  made_both {v} a {s} {w} e t c = record {
    tails = tails;
    firsts = (inl t, (inr (inl (opposite_twice a)), more p r w [] (opposite a ∷ a ∷ []) (λ b z. absurd z) c.firsts));
    turned = (λ _ _. refl, (λ l _. absurd (lead_apart p r a t l), c.turned));
  }
    where
      tails : (b : ℕ) → (b ≡ a) ⊎ ((b ≡ opposite a) ⊎ In b w) → T (leading_from p r b) → (tail p b ≡ v) ⊎ (In (tail p b) s.ord → ⊥)
      tails b (inl q) x = inl (ap (tail p) q ∙ e)
      tails b (inr (inl q)) x = absurd (lead_apart p r a t (subst (λ (k : ℕ). T (leading_from p r k)) q x))
      tails b (inr (inr i)) x = c.tails b i x

  made_through : {v : ℕ} (a : ℕ) {s m : St} {u w : List ℕ} → tail p a ≡ v → (In (head p a) s.ord → ⊥) → T (leading_from p r a) → T (entered_from p r (a / 2))
      → Ext (push (tail p) (head p) a s) m → Made (head p a) (push (tail p) (head p) a s) u → Made v m w → Made v s (a ∷ (u ++ (opposite a ∷ w)))
  made_through {v} a {s} {m} {u} {w} e n t link x c₁ c₂ = record {
    tails = λ b j y. tails b y (spread b a (opposite a) u w j);
    firsts = (
      inl t,
      join p r u (opposite a ∷ w) (a ∷ []) (more p r u [] (a ∷ []) (λ b z. absurd z) c₁.firsts)
          (inr (inl (opposite_twice a)), more p r w [] (opposite a ∷ a ∷ []) (λ b z. absurd z) c₂.firsts),
    );
    turned = (λ _ f. absurd (f link), turned_join p r u (opposite a ∷ w) c₁.turned (λ l _. absurd (lead_apart p r a t l), c₂.turned));
  }
    where
      below : (b : ℕ) → (tail p b ≡ head p a) ⊎ (In (tail p b) (head p a ∷ s.ord) → ⊥) → In (tail p b) s.ord → ⊥
      below b (inl q) j = n (subst (λ (k : ℕ). In k s.ord) q j)
      below b (inr g) j = g (inr j)

      tails : (b : ℕ) → T (leading_from p r b) → ((b ≡ a) ⊎ (b ≡ opposite a)) ⊎ (In b u ⊎ In b w) → (tail p b ≡ v) ⊎ (In (tail p b) s.ord → ⊥)
      tails b y (inl (inl q)) = inl (ap (tail p) q ∙ e)
      tails b y (inl (inr q)) = absurd (lead_apart p r a t (subst (λ (k : ℕ). T (leading_from p r k)) q y))
      tails b y (inr (inl j)) = inr (below b (c₁.tails b j y))
      tails b y (inr (inr j)) = ⊎_elim (λ q. inl q) (λ g. inr (λ k. g (x.ords (tail p b) (inr k)))) (c₂.tails b j y)

  pub made : {v : ℕ} {bs : List ℕ} {s t : St} {h k w : List ℕ} → Tours (tail p) (head p) (arcs p) v bs s h t k w → Here p r v bs s h → Ext t (visited_from p r) → Since p r t → Made v s w
  made stop c x o = record { tails = λ b z. absurd z; firsts = tt; turned = tt }
  made (pass {a = a} f d) c x o = made d (here_rest p r a c) x o
  made (both {a = a} e i n d) c x o =
      let t = (both_leads p ok r r_in a c e i n (ext_trans (reaches (tail p) (head p) (arcs p) d) x) (since p r (visit_of (tail p) (head p) (arcs p) d) o)).0 in
      made_both a e t (made d (here_both p r a c e i t) x o)
  made (through {a = a} e n d₁ d₂) c x o =
      let x₁ = ext_trans (reaches (tail p) (head p) (arcs p) d₂) x in
      let i = x₁.ents a ((reaches (tail p) (head p) (arcs p) d₁).ents a (inl refl)) in
      let t = lead_entered p ok r r_in a i in
      let c₁ = made d₁ (here-push p ok r r_in a c e n t) x₁ (since p r (visit_of (tail p) (head p) (arcs p) d₂) o) in
      made_through a e n t (entered_link p r a i) (reaches (tail p) (head p) (arcs p) d₁) c₁ (made d₂ (here-next p ok r r_in a c e n t d₁ c₁.tails) x o)
