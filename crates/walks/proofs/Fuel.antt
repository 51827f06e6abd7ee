-- Enough fuel is enough: with as much as there are switches not visited the visit's function is its relation, the relation has one result, and so any such
-- fuel gives the same. The visit calls itself no deeper than that, and it visits no switch twice. Assumes that the arcs of the list arrive below n.
use mathlib.Core.Path.{◌≡◌, refl, sym, subst}
use mathlib.Core.Logic.{◌⊎◌, inl, inr}
use mathlib.Core.Bool.{Bool, true, false, not}
use mathlib.Core.List.{List, [], ◌∷◌}
use Prim.Native.Nat.{ℕ, zero, suc, ◌≤◌, ◌<◌}
use native.Mathlib.Omega.{arith}
use lib.Dec.{T, T_not, not_T, eqb, eqb→eq, leb}
use Rattle.lists.specs.Tests.{choose}
use Rattle.lists.proofs.Tests.{eq→eqb, T-or, and_left, and_right, and_both}
use Rattle.lists.specs.Members.{In, memb, Distinct}
use Rattle.lists.proofs.Members.{memb→in, in→memb}
use Rattle.lists.specs.Count.{count}
use Rattle.lists.proofs.Count.{count_le, count_lt, count-one, count-every}
use Rattle.walks.specs.Visit.{St, push, fresh, scan, visit}
use Rattle.walks.specs.Inner.{Scan, done, skip, enter}
use Rattle.walks.proofs.Visit.{Ext, ext}

-- how many switches below n are not in the list
abbrev pub unseen : ℕ → List ℕ → ℕ
unseen n l = count n (λ k. not (memb k l))

pub unseen_none : (n : ℕ) → unseen n [] ≡ n
unseen_none n = count-every n (λ k. true) (λ k h. tt)

pub unseen_push : (n x : ℕ) (l : List ℕ) → x < n → (In x l → ⊥) → unseen n l ≡ suc (unseen n (x ∷ l))
unseen_push n x l h f =
    omega (
      arith,
      count_lt n (λ k. not (memb k l)) (λ k. not (memb k (x ∷ l))) x h (not_T (memb x l) (λ t. f (memb→in x l t)))
          (λ t. T_not (memb x (x ∷ l)) t (in→memb x (x ∷ l) (inl refl)))
          (λ k i t. not_T (memb k l) (λ u. T_not (memb k (x ∷ l)) t (in→memb k (x ∷ l) (inr (memb→in k l u))))),
      count-one n (λ k. not (memb k l)) (λ k. not (memb k (x ∷ l))) x (λ k i t. go k t (T-or (memb k (x ∷ l)))),
    )
  where
    low : (k : ℕ) → T (not (memb k l)) → (k ≡ x) ⊎ In k l → (k ≡ x) ⊎ T (not (memb k (x ∷ l)))
    low k t (inl e) = inl e
    low k t (inr i) = absurd (T_not (memb k l) t (in→memb k l i))

    go : (k : ℕ) → T (not (memb k l)) → T (memb k (x ∷ l)) ⊎ (T (memb k (x ∷ l)) → ⊥) → (k ≡ x) ⊎ T (not (memb k (x ∷ l)))
    go k t (inl u) = low k t (memb→in k (x ∷ l) u)
    go k t (inr u) = inr (not_T (memb k (x ∷ l)) u)

-- at the beginning one switch has been visited
pub unseen_first : (n v : ℕ) → v < n → suc (unseen n (v ∷ [])) ≡ n
unseen_first n v h = omega (arith, unseen_push n v [] h (λ z. z), unseen_none n)

pub unseen_ext : (n : ℕ) {s t : St} → Ext s t → unseen n t.ord ≤ unseen n s.ord
unseen_ext n {s} {t} x =
    count_le n (λ k. not (memb k t.ord)) (λ k. not (memb k s.ord))
    (λ k i u. not_T (memb k s.ord) (λ v. T_not (memb k t.ord) u (in→memb k t.ord (x.ords k (memb→in k s.ord v)))))

module _ (tl hd : ℕ → ℕ) (arcs : List ℕ) where
  -- ---- the relation has one result
  pub unique : {v : ℕ} {bs : List ℕ} {s t t' : St} → Scan tl hd arcs v bs s t → Scan tl hd arcs v bs s t' → t ≡ t'
  unique done done = refl
  unique (skip k d) (skip k' d') = unique d d'
  unique (skip k d) (enter e n d₁ d₂) = absurd (n (k e))
  unique (enter e n d₁ d₂) (skip k d) = absurd (n (k e))
  unique {v} {t' = t'} (enter {bs = bs} e n d₁ d₂) (enter e' n' d₁' d₂') = unique d₂ (subst (λ (m : St). Scan tl hd arcs v bs m t') (sym (unique d₁ d₁')) d₂')

  -- ---- no switch is visited twice
  pub distinct : {v : ℕ} {bs : List ℕ} {s t : St} → Scan tl hd arcs v bs s t → Distinct s.ord → Distinct t.ord
  distinct done u = u
  distinct (skip k d) u = distinct d u
  distinct (enter e n d₁ d₂) u = distinct d₂ (distinct d₁ (n, u))

  -- how deep the visit calls itself, below its first call
  unfoldable pub depth : {v : ℕ} {bs : List ℕ} {s t : St} → Scan tl hd arcs v bs s t → ℕ
  depth done = 0
  depth (skip k d) = depth d
  depth (enter e n d₁ d₂) = choose (leb (suc (depth d₁)) (depth d₂)) (depth d₂) (suc (depth d₁))

  module _ (n : ℕ) (below : (b : ℕ) → In b arcs → hd b < n) where
    -- ---- what is visited is below n
    pub inside : {v : ℕ} {bs : List ℕ} {s t : St} → Scan tl hd arcs v bs s t → ((b : ℕ) → In b bs → In b arcs)
        → ((x : ℕ) → In x s.ord → x < n) → (x : ℕ) → In x t.ord → x < n
    inside done u f = f
    inside (skip k d) u f = inside d (λ b h. u b (inr h)) f
    inside {s = s} (enter {a = a} e z d₁ d₂) u f = inside d₂ (λ b h. u b (inr h)) (inside d₁ (λ b h. h) new)
      where
        new : (x : ℕ) → (x ≡ hd a) ⊎ In x s.ord → x < n
        new x (inl q) = omega (arith, q, below a (u a (inl refl)))
        new x (inr h) = f x h

    -- ---- each call visits a switch more
    pub deep : {v : ℕ} {bs : List ℕ} {s t : St} (d : Scan tl hd arcs v bs s t) → ((b : ℕ) → In b bs → In b arcs) → depth d ≤ unseen n s.ord
    unfolding depth
    deep done u = omega arith
    deep (skip k d) u = deep d (λ b h. u b (inr h))
    deep {s = s} (enter {a = a} {m = m} e z d₁ d₂) u = go (leb (suc (depth d₁)) (depth d₂)) (deep d₁ (λ b h. h)) (deep d₂ (λ b h. u b (inr h)))
      where
        go : (b : Bool) → depth d₁ ≤ unseen n (hd a ∷ s.ord) → depth d₂ ≤ unseen n m.ord → choose b (depth d₂) (suc (depth d₁)) ≤ unseen n s.ord
        go true i j = omega (arith, unseen_ext n (ext tl hd arcs d₁), unseen_push n (hd a) s.ord (below a (u a (inl refl))) z)
        go false i j = omega (arith, unseen_push n (hd a) s.ord (below a (u a (inl refl))) z)

    -- ---- the function is the relation

    scans : (f : ℕ) → ((w : ℕ) (t : St) → unseen n t.ord < f → Scan tl hd arcs w arcs t (visit tl hd arcs f w t))
        → (v : ℕ) (bs : List ℕ) (s : St) → ((b : ℕ) → In b bs → In b arcs) → unseen n s.ord ≤ f
        → Scan tl hd arcs v bs s (scan tl hd (λ w t. visit tl hd arcs f w t) v bs s)
    unfolding scan
    scans f rec v [] s u h = done
    scans f rec v (a ∷ bs) s u h = go (λ m k. scans f rec v bs m (λ b i. u b (inr i)) k) (fresh tl hd v a s) (λ t. t) (λ g. g)
      where
        next : St → St
        next m = scan tl hd (λ w t. visit tl hd arcs f w t) v bs m

        go : ((m : St) → unseen n m.ord ≤ f → Scan tl hd arcs v bs m (next m)) → (b : Bool) → (T b → T (fresh tl hd v a s)) → ((T b → ⊥) → (T (fresh tl hd v a s) → ⊥))
            → Scan tl hd arcs v (a ∷ bs) s (next (elim b as (λ _. St) [ true ↦ visit tl hd arcs f (hd a) (push tl hd a s) | false ↦ s ]))
        go more true p q =
            let e : tl a ≡ v = eqb→eq (tl a) v (and_left (eqb (tl a) v) (not (memb (hd a) s.ord)) (p tt)) in
            let new : In (hd a) s.ord → ⊥ = λ i. T_not (memb (hd a) s.ord) (and_right (eqb (tl a) v) (not (memb (hd a) s.ord)) (p tt)) (in→memb (hd a) s.ord i) in
            let l : unseen n (hd a ∷ s.ord) < f = omega (arith, unseen_push n (hd a) s.ord (below a (u a (inl refl))) new) in
            let d : Scan tl hd arcs (hd a) arcs (push tl hd a s) (visit tl hd arcs f (hd a) (push tl hd a s)) = rec (hd a) (push tl hd a s) l in
            enter e new d (more (visit tl hd arcs f (hd a) (push tl hd a s)) (omega (arith, unseen_ext n (ext tl hd arcs d))))
        go more false p q = skip old (more s h)
          where
            pick : T (memb (hd a) s.ord) ⊎ (T (memb (hd a) s.ord) → ⊥) → tl a ≡ v → In (hd a) s.ord
            pick (inl t) e = memb→in (hd a) s.ord t
            pick (inr t) e = absurd (q (λ z. z) (and_both (eqb (tl a) v) (not (memb (hd a) s.ord)) (eq→eqb e) (not_T (memb (hd a) s.ord) t)))

            old : tl a ≡ v → In (hd a) s.ord
            old e = pick (T-or (memb (hd a) s.ord)) e

    pub visits : (f v : ℕ) (s : St) → unseen n s.ord < f → Scan tl hd arcs v arcs s (visit tl hd arcs f v s)
    unfolding visit
    visits zero v s h = absurd (omega arith)
    visits (suc f) v s h = scans f (visits f) v arcs s (λ b i. i) (omega arith)

    pub any_fuel : (f g v : ℕ) (s : St) → unseen n s.ord < f → unseen n s.ord < g → visit tl hd arcs f v s ≡ visit tl hd arcs g v s
    any_fuel f g v s h k = unique (visits f v s h) (visits g v s k)
