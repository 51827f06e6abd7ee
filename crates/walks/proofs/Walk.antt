-- Laws of walks, as lists of labels and as a relation. Assumes nothing.
use mathlib.Core.Path.{◌≡◌, refl, sym, ap, ◌∙◌, subst}
use mathlib.Core.Logic.{◌⊎◌, inl, inr}
use mathlib.Core.List.{List, [], ◌∷◌, ◌++◌}
use Prim.Native.Nat.{ℕ}
use Rattle.lists.specs.Members.{In}
use Rattle.walks.specs.Walk.{Walk, Reach, here, step}

module _ {tl hd : ℕ → ℕ} where
  pub trans : {ok : ℕ → Type 0} {y x z : ℕ} → Reach tl hd ok y x → Reach tl hd ok z y → Reach tl hd ok z x
  trans {ok} {z = z} (here e) r = subst (λ (k : ℕ). Reach tl hd ok z k) (sym e) r
  trans (step a h e p) r = step a h e (trans p r)

  pub weaken : {ok ok' : ℕ → Type 0} {y x : ℕ} → ((a : ℕ) → ok a → ok' a) → Reach tl hd ok y x → Reach tl hd ok' y x
  weaken f (here e) = here e
  weaken f (step a h e p) = step a (f a h) e (weaken f p)

  pub one : {ok : ℕ → Type 0} {x y : ℕ} (a : ℕ) → ok a → tl a ≡ x → hd a ≡ y → Reach tl hd ok y x
  one a h e f = step a h e (here f)

  -- a relation that takes each arc back takes a walk back
  pub back : {ok ok' : ℕ → Type 0} {y x : ℕ} → ((a : ℕ) → ok a → Reach tl hd ok' (tl a) (hd a)) → Reach tl hd ok y x → Reach tl hd ok' x y
  back f (here e) = here (sym e)
  back {ok' = ok'} {y = y} f (step a h e p) =
      subst (λ (k : ℕ). Reach tl hd ok' k y) e (trans (back f p) (f a h))

  -- a walk from inside P to outside P leaves P by one of its arcs
  pub exits : {ok : ℕ → Type 0} {y x : ℕ} (P : ℕ → Type 0) → ((k : ℕ) → P k ⊎ (P k → ⊥)) → P x → (P y → ⊥) → Reach tl hd ok y x
      → (a : ℕ) × ok a × P (tl a) × (P (hd a) → ⊥)
  exits P dec px ny (here e) = absurd (ny (subst P e px))
  exits {ok} {y = y} P dec px ny (step a h e p) = go (λ q. exits P dec q ny p) (dec (hd a))
    where
      go : (P (hd a) → (b : ℕ) × ok b × P (tl b) × (P (hd b) → ⊥)) → P (hd a) ⊎ (P (hd a) → ⊥) → (b : ℕ) × ok b × P (tl b) × (P (hd b) → ⊥)
      go rec (inl q) = rec q
      go rec (inr n) = (a, h, subst P (sym e) px, n)

  -- what each arc keeps, a walk keeps
  pub keeps : {ok : ℕ → Type 0} {y x : ℕ} (P : ℕ → Type 0) → ((a : ℕ) → ok a → P (tl a) → P (hd a)) → P x → Reach tl hd ok y x → P y
  keeps P k px (here e) = subst P e px
  keeps P k px (step a h e p) = keeps P k (k a h (subst P (sym e) px)) p

  -- ---- a walk as a list, and as a relation

  pub walk→reach : {ok : ℕ → Type 0} (w : List ℕ) (x y : ℕ) → Walk tl hd w x y → ((a : ℕ) → In a w → ok a) → Reach tl hd ok y x
  walk→reach [] x y e f = here e
  walk→reach (a ∷ w) x y p f = step a (f a (inl refl)) p.0 (walk→reach w (hd a) y p.1 (λ b h. f b (inr h)))

  pub reach→walk : {ok : ℕ → Type 0} {y x : ℕ} → Reach tl hd ok y x → (w : List ℕ) × Walk tl hd w x y × ((a : ℕ) → In a w → ok a)
  reach→walk (here e) = ([], e, λ a h. absurd h)
  reach→walk {ok} {y} {x} (step a h e p) = go (reach→walk p)
    where
      all : (w : List ℕ) → ((b : ℕ) → In b w → ok b) → (b : ℕ) → (b ≡ a) ⊎ In b w → ok b
      all w f b (inl q) = subst ok (sym q) h
      all w f b (inr i) = f b i

      go : (w : List ℕ) × Walk tl hd w (hd a) y × ((b : ℕ) → In b w → ok b) → (w : List ℕ) × Walk tl hd w x y × ((b : ℕ) → In b w → ok b)
      go r = (a ∷ r.0, (e, r.1), all r.0 r.2)

  -- a walk that crosses a goes to a's tail, and on from its head
  pub through : {ok : ℕ → Type 0} (w : List ℕ) (x y a : ℕ) → Walk tl hd w x y → ((b : ℕ) → In b w → ok b) → In a w → Reach tl hd ok (tl a) x × Reach tl hd ok y (hd a)
  through [] x y a p f h = absurd h
  through {ok} (b ∷ w) x y a p f (inl e) =
      (here (sym (ap tl e ∙ p.0)), subst (λ (k : ℕ). Reach tl hd ok y k) (ap hd (sym e)) (walk→reach w (hd b) y p.1 (λ c i. f c (inr i))))
  through {ok} (b ∷ w) x y a p f (inr i) =
      let r = through {ok = ok} w (hd b) y a p.1 (λ c j. f c (inr j)) i in
      (step b (f b (inl refl)) p.0 r.0, r.1)

module _ (tl hd : ℕ → ℕ) where
  pub walk-append : (w w' : List ℕ) (x y z : ℕ) → Walk tl hd w x y → Walk tl hd w' y z → Walk tl hd (w ++ w') x z
  walk-append [] w' x y z e q = subst (λ (k : ℕ). Walk tl hd w' k z) (sym e) q
  walk-append (a ∷ w) w' x y z p q = (p.0, walk-append w w' (hd a) y z p.1 q)
