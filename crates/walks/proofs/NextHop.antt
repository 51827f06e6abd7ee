-- The hop after each hop of the tour of a plant: after an entered arc the first leading arc that leaves its head, after another leading arc the opposite one, after an opposite
-- one the next leading arc that leaves where it arrives. Assumes a valid plant and a root that is a switch of it.
use mathlib.Core.Path.{◌≡◌, refl, sym, ap, ◌∙◌, subst}
use mathlib.Core.Logic.{inl}
use mathlib.Core.List.{List, ◌∷◌, ◌++◌}
use Prim.Native.Nat.{ℕ, suc, ◌/◌, ◌<◌}
use lib.Dec.{T}
use Rattle.lists.specs.Members.{In}
use Rattle.plant.specs.declared.Plant.{Plant}
use Rattle.walks.specs.Walk.{Walk}
use Rattle.walks.proofs.Walk.{walk-append}
use Rattle.walks.specs.Visit.{St}
use Rattle.walks.specs.Inner.{leading_from, next_at, Turns}
use Rattle.walks.specs.Arcs.{opposite, tail, head, Valid}
use Rattle.walks.specs.Graph.{arcs, visited_from, entered_from}
use Rattle.walks.proofs.Visit.{Ext, ext_trans}
use Rattle.walks.proofs.Leading.{lead_entered, entered_link}
use Rattle.walks.proofs.NextAt.{From, first_in, first_yes, first_no, first_all, first_after}
use Rattle.walks.proofs.Tour.{Tours, stop, pass, both, through, visit_of, reaches}
use Rattle.walks.proofs.Halfway.{Since, since, Here, here_rest, pass_follows, here_both, both_leads, here-push, here-next}
use Rattle.walks.proofs.FirstMet.{made}

module _ (p : Plant) (ok : Valid p) (r : ℕ) (r_in : r < p.switches) (up next : ℕ → ℕ) (turns : Turns p r up next) where
  -- the hops w that trying the arcs `bs` at v makes follow one another, from the first of these that leads until the way back
  pub record After (v : ℕ) (bs w : List ℕ) : Type 0 where
    pub walk : Walk (λ a. a) next w (first_in p r up v bs) (up v)

  after_pass : {v : ℕ} (a : ℕ) {bs w : List ℕ} → (tail p a ≡ v → T (leading_from p r a) → ⊥) → After v bs w → After v (a ∷ bs) w
  after_pass {v} a {bs} {w} f c = record { walk = subst (λ (x : ℕ). Walk (λ b. b) next w x (up v)) (sym (first_no p r up v a bs (λ t e. f e t))) c.walk }

  -- after the opposite arc of a: on with the arcs that come after a
  resumes : (v a : ℕ) (bs w : List ℕ) → From p (a ∷ bs) → tail p a ≡ v → T (leading_from p r a) → After v bs w → Walk (λ b. b) next w (next (opposite a)) (up v)
  resumes v a bs w f e t c =
      subst (λ (x : ℕ). Walk (λ b. b) next w x (up v)) (first_after p r up v a bs f ∙ ap (λ (x : ℕ). next_at p r up x (suc a)) (sym e) ∙ sym (turns.resumes a t)) c.walk

  after_both : {v : ℕ} (a : ℕ) {bs w : List ℕ} → From p (a ∷ bs) → tail p a ≡ v → T (leading_from p r a) → (T (entered_from p r (a / 2)) → ⊥) → After v bs w
      → After v (a ∷ bs) (a ∷ opposite a ∷ w)
  after_both {v} a {bs} {w} f e t n c = record { walk = (sym (first_yes p r up v a bs t e), (sym (turns.turns a t n), resumes v a bs w f e t c)) }

  after_through : {v : ℕ} (a : ℕ) {bs u w : List ℕ} → From p (a ∷ bs) → tail p a ≡ v → In a (visited_from p r).ent → After (head p a) (arcs p) u → After v bs w
      → After v (a ∷ bs) (a ∷ (u ++ (opposite a ∷ w)))
  after_through {v} a {bs} {u} {w} f e i c₁ c₂ = record {
    walk = (
      sym (first_yes p r up v a bs t e),
      walk-append (λ b. b) next u (opposite a ∷ w) (next a) (up (head p a)) (up v)
          (subst (λ (y : ℕ). Walk (λ b. b) next u y (up (head p a))) (first_all p r up (head p a) ∙ sym (turns.enters a t link)) c₁.walk)
          (sym (turns.ups a t link), resumes v a bs w f e t c₂),
    );
  }
    where
      t : T (leading_from p r a)
      t = lead_entered p ok r r_in a i

      link : T (entered_from p r (a / 2))
      link = entered_link p r a i

  pub after : {v : ℕ} {bs : List ℕ} {s t : St} {h k w : List ℕ} → Tours (tail p) (head p) (arcs p) v bs s h t k w → Here p r v bs s h → Ext t (visited_from p r) → Since p r t → After v bs w
  after stop c x o = record { walk = refl }
  after (pass {a = a} f d) c x o = after_pass a (λ e t. pass_follows p r a c e (f e).1 t) (after d (here_rest p r a c) x o)
  after (both {a = a} e i n d) c x o =
      let f = both_leads p ok r r_in a c e i n (ext_trans (reaches (tail p) (head p) (arcs p) d) x) (since p r (visit_of (tail p) (head p) (arcs p) d) o) in
      after_both a c.from e f.0 f.1 (after d (here_both p r a c e i f.0) x o)
  after (through {a = a} e n d₁ d₂) c x o =
      let x₁ = ext_trans (reaches (tail p) (head p) (arcs p) d₂) x in
      let o₁ = since p r (visit_of (tail p) (head p) (arcs p) d₂) o in
      let i : In a (visited_from p r).ent = x₁.ents a ((reaches (tail p) (head p) (arcs p) d₁).ents a (inl refl)) in
      let t = lead_entered p ok r r_in a i in
      let c₁ = here-push p ok r r_in a c e n t in
      after_through a c.from e i (after d₁ c₁ x₁ o₁) (after d₂ (here-next p ok r r_in a c e n t d₁ (made p ok r r_in d₁ c₁ x₁ o₁).tails) x o)
