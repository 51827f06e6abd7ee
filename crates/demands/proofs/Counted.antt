-- What counts as a probe, of any list of sendings: one of its sendings returned, or three in a row were lost. Assumes nothing.
use mathlib.Core.Path.{◌≡◌, refl, sym, ap, ◌∙◌, subst}
use mathlib.Core.Logic.{◌⊎◌, inl, inr, ⊎_elim, ◌↔◌}
use mathlib.Core.Bool.{Bool, false, ◌||◌}
use mathlib.Core.List.{List, [], ◌∷◌, ◌++◌, append_assoc}
use Prim.Native.Nat.{ℕ, zero, suc, ◌+◌, ◌≤◌, ◌<◌}
use native.Mathlib.Omega.{arith}
use borrow.Author.Tests.{eq-eqb, ne_eqb}
use lib.Dec.{T, eqb, leb, ltb, ltb→lt, leb→le, lt→ltb, le→leb}
use lib.ListN.{length, replicate, length-append}
use Rattle.lists.specs.Tests.{choose}
use Rattle.lists.specs.Count.{bit}
use Rattle.lists.proofs.Tests.{eq?, or_left, or_right, or_cases}
use Rattle.search.specs.declared.Outcome.{Outcome}
use Rattle.search.specs.declared.Outcome.TheVariants.{Returned, Lost}
use Rattle.search.specs.Search.{tries}
use Rattle.search.specs.Calls.{Sending, sent, returns_of, lost_in_row}
use Rattle.search.proofs.Values.{is-returned, is_lost}
use Rattle.demands.specs.Order4.{ReturnedIn, LostInRow, Counted}

-- the same with the outcomes named
record Return (m : ℕ) (l : List Sending) : Type 0 where
  before : List Sending
  after : List Sending
  there : l ≡ before ++ (sent m Returned ∷ after)

record Losses (m : ℕ) (l : List Sending) : Type 0 where
  before : List Sending
  after : List Sending
  there : l ≡ before ++ (sent m Lost ∷ sent m Lost ∷ sent m Lost ∷ after)

return_in : (m : ℕ) (l : List Sending) → Return m l ↔ ReturnedIn m l
return_in m l = (
  λ r. record { before = r.before; after = r.after; o = Returned; returned = refl; there = r.there },
  λ r. record {
    before = r.before;
    after = r.after;
    there = r.there ∙ ap (λ (o : Outcome). r.before ++ (sent m o ∷ r.after)) (is-returned r.o r.returned);
  },
)

losses_in : (m : ℕ) (l : List Sending) → Losses m l ↔ LostInRow m l
losses_in m l = (
  λ r. record { before = r.before; after = r.after; a = Lost; b = Lost; c = Lost; lost = (refl, refl, refl); there = r.there },
  λ r. record {
    before = r.before;
    after = r.after;
    there =
        r.there ∙ ap (λ (o : Outcome). r.before ++ (sent m o ∷ sent m r.b ∷ sent m r.c ∷ r.after)) (is_lost r.a r.lost.0)
        ∙ ap (λ (o : Outcome). r.before ++ (sent m Lost ∷ sent m o ∷ sent m r.c ∷ r.after)) (is_lost r.b r.lost.1)
        ∙ ap (λ (o : Outcome). r.before ++ (sent m Lost ∷ sent m Lost ∷ sent m o ∷ r.after)) (is_lost r.c r.lost.2);
  },
)

-- ---- returns

returned : (m : ℕ) (l : List Sending) → 0 < returns_of m l → Return m l
returned m [] h = absurd (omega arith)
returned m (sent k Lost ∷ l) h = let r = returned m l h in record { before = sent k Lost ∷ r.before; after = r.after; there = ap (λ (v : List Sending). sent k Lost ∷ v) r.there }
returned m (sent k Returned ∷ l) h = go (eq? m k) (λ i. returned m l i)
  where
    go : (m ≡ k) ⊎ (m ≡ k → ⊥) → (0 < returns_of m l → Return m l) → Return m (sent k Returned ∷ l)
    go (inl e) f = record { before = []; after = l; there = ap (λ (j : ℕ). sent j Returned ∷ l) (sym e) }
    go (inr d) f =
        let i : 0 < bit false + returns_of m l = subst (λ (b : Bool). 0 < bit b + returns_of m l) (ne_eqb m k d) h in
        let r = f (omega arith) in
        record { before = sent k Returned ∷ r.before; after = r.after; there = ap (λ (v : List Sending). sent k Returned ∷ v) r.there }

returns : (m : ℕ) (x y : List Sending) → 0 < returns_of m (x ++ (sent m Returned ∷ y))
returns m [] y = rw (eq-eqb m m refl) (omega arith)
returns m (sent k Returned ∷ x) y = omega (arith, returns m x y)
returns m (sent k Lost ∷ x) y = returns m x y

-- ---- losses in a row

module _ (m : ℕ) where
  abbrev lost : ℕ → List Sending
  lost n = replicate n (sent m Lost)

  -- one more in a row
  one_more : (n : ℕ) (l : List Sending) → lost n ++ (sent m Lost ∷ l) ≡ lost (n + 1) ++ l
  one_more zero l = refl
  one_more (suc n) l =
      let z : suc (n + 1) ≡ suc n + 1 = omega arith in
      ap (λ (v : List Sending). sent m Lost ∷ v) (one_more n l) ∙ ap (λ (k : ℕ). lost k ++ l) z

  three : (n : ℕ) (l : List Sending) → tries ≤ n → Losses m (lost n ++ l)
  three zero l h = absurd (omega arith)
  three (suc zero) l h = absurd (omega arith)
  three (suc (suc zero)) l h = absurd (omega arith)
  three (suc (suc (suc n))) l h = record { before = []; after = lost n ++ l; there = refl }

  later : (x l : List Sending) → Losses m l → Losses m (x ++ l)
  later x l r = record { before = x ++ r.before; after = r.after; there = ap (λ (v : List Sending). x ++ v) r.there ∙ sym (append_assoc x r.before _) }

  -- after a sending that ends the row
  past : (n : ℕ) (s : Sending) (l : List Sending) → Losses m l → Losses m (lost n ++ (s ∷ l))
  past n s l r = later (lost n) (s ∷ l) (later (s ∷ []) l r)

  in_row : (n : ℕ) (l : List Sending) → T (lost_in_row m n l) → Losses m (lost n ++ l)
  in_row n [] t = three n [] (leb→le tries n t)
  in_row n (sent k Returned ∷ l) t =
      ⊎_elim (λ h. three n (sent k Returned ∷ l) (leb→le tries n h)) (λ h. past n (sent k Returned) l (in_row 0 l h)) (or_cases (leb tries n) (lost_in_row m 0 l) t)
  in_row n (sent k Lost ∷ l) t =
      ⊎_elim (λ h. three n (sent k Lost ∷ l) (leb→le tries n h)) (λ h. go (eq? m k) h (λ i. in_row i l)) (or_cases (leb tries n) (lost_in_row m (choose (eqb m k) (n + 1) 0) l) t)
    where
      go : (m ≡ k) ⊎ (m ≡ k → ⊥) → T (lost_in_row m (choose (eqb m k) (n + 1) 0) l) → ((i : ℕ) → T (lost_in_row m i l) → Losses m (lost i ++ l)) → Losses m (lost n ++ (sent k Lost ∷ l))
      go (inl e) h f =
          subst (λ (j : ℕ). Losses m (lost n ++ (sent j Lost ∷ l))) e
          (subst (Losses m) (sym (one_more n l)) (f (n + 1) (subst (λ (b : Bool). T (lost_in_row m (choose b (n + 1) 0) l)) (eq-eqb m k e) h)))
      go (inr d) h f = past n (sent k Lost) l (f 0 (subst (λ (b : Bool). T (lost_in_row m (choose b (n + 1) 0) l)) (ne_eqb m k d) h))

  -- the other way: a sending of another kind ends the row
  ends_row : (n : ℕ) (s : Sending) (l x y : List Sending) → (s ≡ sent m Lost → ⊥) → lost n ++ (s ∷ l) ≡ x ++ (sent m Lost ∷ sent m Lost ∷ sent m Lost ∷ y) → (tries ≤ n) ⊎ Losses m l
  ends_row zero s l [] y d e = absurd (d (let z : s ≡ sent m Lost = cc in z))
  ends_row zero s l (w ∷ x) y d e = inr (record { before = x; after = y; there = let z : l ≡ x ++ (sent m Lost ∷ sent m Lost ∷ sent m Lost ∷ y) = cc in z })
  ends_row (suc zero) s l [] y d e = absurd (d (let z : s ≡ sent m Lost = cc in z))
  ends_row (suc (suc zero)) s l [] y d e = absurd (d (let z : s ≡ sent m Lost = cc in z))
  ends_row (suc (suc (suc n))) s l [] y d e = inl (omega arith)
  ends_row (suc n) s l (w ∷ x) y d e =
      ⊎_elim (λ h. inl (omega arith)) (λ r. inr r) (ends_row n s l x y d (let z : lost n ++ (s ∷ l) ≡ x ++ (sent m Lost ∷ sent m Lost ∷ sent m Lost ∷ y) = cc in z))

  lost-length : (n : ℕ) → length (lost n) ≡ n
  lost-length zero = refl
  lost-length (suc n) = ap suc (lost-length n)

  row_in : (n : ℕ) (l : List Sending) → Losses m (lost n ++ l) → T (lost_in_row m n l)
  row_in n [] r =
      le→leb tries n (omega (arith, lost-length n, length-append (lost n) [], ap length r.there, length-append r.before (sent m Lost ∷ sent m Lost ∷ sent m Lost ∷ r.after)))
  row_in n (sent k Returned ∷ l) r =
      ⊎_elim (λ h. or_left (leb tries n) (lost_in_row m 0 l) (le→leb tries n h)) (λ q. or_right (leb tries n) (lost_in_row m 0 l) (row_in 0 l q))
      (ends_row n (sent k Returned) l r.before r.after (λ e. let z : ◌≡◌ {A = ℕ} 0 1 = cc in omega arith) r.there)
  row_in n (sent k Lost ∷ l) r = go (eq? m k) (λ i. row_in i l)
    where
      go : (m ≡ k) ⊎ (m ≡ k → ⊥) → ((i : ℕ) → Losses m (lost i ++ l) → T (lost_in_row m i l)) → T (leb tries n || lost_in_row m (choose (eqb m k) (n + 1) 0) l)
      go (inl e) f =
          or_right (leb tries n) (lost_in_row m (choose (eqb m k) (n + 1) 0) l)
          (rw (eq-eqb m k e) (f (n + 1) (subst (Losses m) (one_more n l) (subst (λ (j : ℕ). Losses m (lost n ++ (sent j Lost ∷ l))) (sym e) r))))
      go (inr d) f =
          ⊎_elim (λ h. or_left (leb tries n) (lost_in_row m (choose (eqb m k) (n + 1) 0) l) (le→leb tries n h))
          (λ q. or_right (leb tries n) (lost_in_row m (choose (eqb m k) (n + 1) 0) l) (rw (ne_eqb m k d) (f 0 q)))
          (ends_row n (sent k Lost) l r.before r.after (λ e. d (let z : k ≡ m = cc in sym z)) r.there)

pub counted : Counted
counted l m = (
  λ t. ⊎_elim (λ h. inl ((return_in m l).0 (returned m l (ltb→lt 0 (returns_of m l) h)))) (λ h. inr ((losses_in m l).0 (in_row m 0 l h))) (or_cases (ltb 0 (returns_of m l)) (lost_in_row m 0 l) t),
  ⊎_elim
      (λ s. let r = (return_in m l).1 s in
      or_left (ltb 0 (returns_of m l)) (lost_in_row m 0 l) (lt→ltb 0 (returns_of m l) (subst (λ (v : List Sending). 0 < returns_of m v) (sym r.there) (returns m r.before r.after))))
      (λ r. or_right (ltb 0 (returns_of m l)) (lost_in_row m 0 l) (row_in m 0 l ((losses_in m l).1 r))),
)
