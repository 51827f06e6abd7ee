-- The order has each link that is crossed and no other, each once. Assumes nothing.
use mathlib.Core.Path.{◌≡◌, refl, sym, ap, subst}
use mathlib.Core.Logic.{◌⊎◌, inl, inr}
use mathlib.Core.Bool.{Bool, true, false}
use mathlib.Core.List.{List, [], ◌∷◌}
use Prim.Native.Nat.{ℕ, ◌/◌}
use lib.Dec.{T}
use Rattle.lists.specs.Members.{In, memb, Distinct}
use Rattle.lists.proofs.Members.{memb→in, in→memb}
use Rattle.rings.specs.Order.{firsts, order}

-- how the order comes about: at each label its link was seen before, or is new
pub data Firsts : List ℕ → List ℕ → List ℕ → Type 0 where
  none : {seen : List ℕ} → Firsts seen [] []
  old : {seen w o : List ℕ} {a : ℕ} → In (a / 2) seen → Firsts seen w o → Firsts seen (a ∷ w) o
  new : {seen w o : List ℕ} {a : ℕ} → (In (a / 2) seen → ⊥) → Firsts ((a / 2) ∷ seen) w o → Firsts seen (a ∷ w) ((a / 2) ∷ o)

pub orders : (seen w : List ℕ) → Firsts seen w (firsts seen w)
orders seen [] = none
orders seen (a ∷ w) = pick (memb (a / 2) seen) (memb→in (a / 2) seen) (in→memb (a / 2) seen) (orders seen w) (orders ((a / 2) ∷ seen) w)
  where
    pick : (t : Bool) → (T t → In (a / 2) seen) → (In (a / 2) seen → T t) → Firsts seen w (firsts seen w) → Firsts ((a / 2) ∷ seen) w (firsts ((a / 2) ∷ seen) w)
        → Firsts seen (a ∷ w) (elim t as (λ _. List ℕ) [ true ↦ firsts seen w | false ↦ (a / 2) ∷ firsts ((a / 2) ∷ seen) w ])
    pick true f g r q = old (f tt) r
    pick false f g r q = new g q

-- a link of the order was not seen before
pub unseen : {seen w o : List ℕ} → Firsts seen w o → (l : ℕ) → In l o → In l seen → ⊥
unseen none l h i = h
unseen (old j r) l h i = unseen r l h i
unseen (new {seen = seen} n r) l (inl q) i = n (subst (λ (k : ℕ). In k seen) q i)
unseen (new n r) l (inr h) i = unseen r l h (inr i)

distinct : {seen w o : List ℕ} → Firsts seen w o → Distinct o
distinct none = tt
distinct (old j r) = distinct r
distinct (new {a = a} n r) = (λ h. unseen r (a / 2) h (inl refl), distinct r)

-- a link of the order is crossed
crossed : {seen w o : List ℕ} → Firsts seen w o → (l : ℕ) → In l o → (a : ℕ) × In a w × (a / 2 ≡ l)
crossed none l h = absurd h
crossed (old j r) l h = let c = crossed r l h in (c.0, inr c.1, c.2)
crossed (new {a = a} n r) l (inl q) = (a, inl refl, sym q)
crossed (new n r) l (inr h) = let c = crossed r l h in (c.0, inr c.1, c.2)

-- a link that is crossed was seen before, or is in the order
listed : {seen w o : List ℕ} → Firsts seen w o → (a : ℕ) → In a w → In (a / 2) seen ⊎ In (a / 2) o
listed none a h = absurd h
listed (old {seen = seen} j r) a (inl q) = inl (subst (λ (k : ℕ). In (k / 2) seen) (sym q) j)
listed (old j r) a (inr h) = listed r a h
listed (new n r) a (inl q) = inr (inl (ap (λ (k : ℕ). k / 2) q))
listed (new {seen = seen} {o = o} {a = b} n r) a (inr h) = go (listed r a h)
  where
    go : In (a / 2) ((b / 2) ∷ seen) ⊎ In (a / 2) o → In (a / 2) seen ⊎ In (a / 2) ((b / 2) ∷ o)
    go (inl (inl q)) = inr (inl q)
    go (inl (inr i)) = inl i
    go (inr i) = inr (inr i)

-- ---- the order

module _ (r : List ℕ) where
  -- no link twice
  pub order_distinct : Distinct (order r)
  unfolding order
  order_distinct = distinct (orders [] r)

  pub label_order : (a : ℕ) → In a r → In (a / 2) (order r)
  unfolding order
  label_order a h = go (listed (orders [] r) a h)
    where
      go : ⊥ ⊎ In (a / 2) (firsts [] r) → In (a / 2) (firsts [] r)
      go (inl z) = absurd z
      go (inr i) = i

  pub order_label : (l : ℕ) → In l (order r) → (a : ℕ) × In a r × (a / 2 ≡ l)
  unfolding order
  order_label l h = crossed (orders [] r) l h

-- ---- by the first label: its link was seen before, or is new

module _ (seen w : List ℕ) (a : ℕ) where
  by_first : (t : Bool) → memb (a / 2) seen ≡ t → firsts seen (a ∷ w) ≡ (elim t as (λ _. List ℕ) [ true ↦ firsts seen w | false ↦ (a / 2) ∷ firsts ((a / 2) ∷ seen) w ])
  by_first t = ap (λ (b : Bool). elim b as (λ _. List ℕ) [ true ↦ firsts seen w | false ↦ (a / 2) ∷ firsts ((a / 2) ∷ seen) w ])

  pub firsts_old : memb (a / 2) seen ≡ true → firsts seen (a ∷ w) ≡ firsts seen w
  firsts_old = by_first true

  pub firsts-new : memb (a / 2) seen ≡ false → firsts seen (a ∷ w) ≡ (a / 2) ∷ firsts ((a / 2) ∷ seen) w
  firsts-new = by_first false
