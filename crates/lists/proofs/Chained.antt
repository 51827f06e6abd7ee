-- Laws of the lists that a function has at some numbers, one after another: their members, their length, and where each begins. Assumes nothing.
use mathlib.Core.Path.{◌≡◌, refl, sym, ap, ◌∙◌, subst}
use mathlib.Core.Logic.{◌⊎◌, inl, inr}
use mathlib.Core.List.{List, [], ◌∷◌, ◌++◌, map, flatten}
use Prim.Native.Nat.{ℕ, zero, suc, ◌+◌, ◌-◌, ◌≤◌, ◌<◌}
use native.Mathlib.Omega.{arith}
use lib.ListN.{length, get_or, take, drop, length-append, get_or-append}
use lib.Seq.{take-append_seam, drop-append-add, get_or-append-add}
use Rattle.lists.specs.Members.{In, Distinct}
use Rattle.lists.specs.Sum.{sum_of}
use Rattle.lists.proofs.Members.{in_append, in_append_left, in_append_right, distinct_append, get_d_in}
use Rattle.lists.proofs.Tests.{below?}

module _ (f : ℕ → List ℕ) where
  abbrev pub chained : List ℕ → List ℕ
  chained rs = flatten (map f rs)

  -- ---- members

  pub in_chained : (a r : ℕ) (rs : List ℕ) → In r rs → In a (f r) → In a (chained rs)
  unfolding flatten
  in_chained a r [] i h = i
  in_chained a r (x ∷ rs) (inl e) h = in_append_left a (f x) (chained rs) (rw e at h)
  in_chained a r (x ∷ rs) (inr i) h = in_append_right a (f x) (chained rs) (in_chained a r rs i h)

  pub chained_in : (a : ℕ) (rs : List ℕ) → In a (chained rs) → (r : ℕ) × In r rs × In a (f r)
  unfolding flatten
  chained_in a [] h = absurd h
  chained_in a (x ∷ rs) h = go (chained_in a rs) (in_append a (f x) (chained rs) h)
    where
      go : (In a (chained rs) → (r : ℕ) × In r rs × In a (f r)) → In a (f x) ⊎ In a (chained rs) → (r : ℕ) × In r (x ∷ rs) × In a (f r)
      go rec (inl i) = (x, inl refl, i)
      go rec (inr i) = let q = rec i in (q.0, inr q.1, q.2)

  -- lists without a common member, each without one twice
  pub chained_distinct : (rs : List ℕ) → Distinct rs → ((r : ℕ) → In r rs → Distinct (f r)) → ((r s a : ℕ) → In r rs → In s rs → In a (f r) → In a (f s) → r ≡ s)
      → Distinct (chained rs)
  unfolding flatten
  chained_distinct [] d each own = tt
  chained_distinct (x ∷ rs) d each own =
      distinct_append (f x) (chained rs) (each x (inl refl)) (chained_distinct rs d.1 (λ r i. each r (inr i)) (λ r s a i j. own r s a (inr i) (inr j))) apart
    where
      apart : (a : ℕ) → In a (f x) → In a (chained rs) → ⊥
      apart a h i = let q = chained_in a rs i in d.0 (rw (own x q.0 a (inl refl) (inr q.1) h q.2) q.1)

  -- ---- lengths

  pub chained-length : (rs : List ℕ) → length (chained rs) ≡ sum_of (map (λ r. length (f r)) rs)
  unfolding flatten
  chained-length [] = refl
  chained-length (x ∷ rs) = length-append (f x) (chained rs) ∙ ap (λ (n : ℕ). length (f x) + n) (chained-length rs)

  -- ---- the list at place i begins after those before it

  pub chained-begin : (rs : List ℕ) (i : ℕ) → i < length rs → length (chained (take (suc i) rs)) ≡ length (chained (take i rs)) + length (f (get_or rs i 0))
  unfolding flatten
  chained-begin [] i h = absurd (omega arith)
  chained-begin (x ∷ rs) zero h = omega (arith, length-append (f x) [])
  chained-begin (x ∷ rs) (suc i) h =
      omega (arith, length-append (f x) (chained (take (suc i) rs)), length-append (f x) (chained (take i rs)), chained-begin rs i (omega arith))

  pub chained-within : (rs : List ℕ) (i : ℕ) → i < length rs → length (chained (take i rs)) + length (f (get_or rs i 0)) ≤ length (chained rs)
  unfolding flatten
  chained-within [] i h = absurd (omega arith)
  chained-within (x ∷ rs) zero h = omega (arith, length-append (f x) (chained rs))
  chained-within (x ∷ rs) (suc i) h = omega (arith, length-append (f x) (chained rs), length-append (f x) (chained (take i rs)), chained-within rs i (omega arith))

  -- so it can be read there
  pub chained-part : (rs : List ℕ) (i : ℕ) → i < length rs → take (length (f (get_or rs i 0))) (drop (length (chained (take i rs))) (chained rs)) ≡ f (get_or rs i 0)
  unfolding flatten
  chained-part [] i h = absurd (omega arith)
  chained-part (x ∷ rs) zero h = take-append_seam (f x) (chained rs)
  chained-part (x ∷ rs) (suc i) h =
      ap (λ (n : ℕ). take (length (f (get_or rs i 0))) (drop n (f x ++ chained rs))) (length-append (f x) (chained (take i rs)))
      ∙ ap (take (length (f (get_or rs i 0)))) (drop-append-add (f x) (chained rs) (length (chained (take i rs)))) ∙ chained-part rs i (omega arith)

  -- a member that stands before it is one of a list before it
  pub chained-before : (rs : List ℕ) (i j : ℕ) → j < length (chained (take i rs)) → (k : ℕ) × (k < i) × (k < length rs) × In (get_or (chained rs) j 0) (f (get_or rs k 0))
  unfolding flatten
  chained-before [] zero j h = absurd (omega arith)
  chained-before [] (suc i) j h = absurd (omega arith)
  chained-before (x ∷ rs) zero j h = absurd (omega arith)
  chained-before (x ∷ rs) (suc i) j h = go (chained-before rs i) (below? j (length (f x)))
    where
      go : ((m : ℕ) → m < length (chained (take i rs)) → (k : ℕ) × (k < i) × (k < length rs) × In (get_or (chained rs) m 0) (f (get_or rs k 0))) → (j < length (f x)) ⊎ (length (f x) ≤ j)
          → (k : ℕ) × (k < suc i) × (k < length (x ∷ rs)) × In (get_or (f x ++ chained rs) j 0) (f (get_or (x ∷ rs) k 0))
      go rec (inl l) = (0, omega arith, omega arith, subst (λ (a : ℕ). In a (f x)) (sym (get_or-append (f x) (chained rs) 0 j l)) (get_d_in (f x) j l))
      go rec (inr l) =
          let m : ℕ = j - length (f x) in
          let e : j ≡ length (f x) + m = omega arith in
          let q = rec m (omega (arith, h, length-append (f x) (chained (take i rs)))) in
          (suc q.0, omega (arith, q.1), omega (arith, q.2), subst (λ (a : ℕ). In a (f (get_or rs q.0 0))) (sym (ap (λ (k : ℕ). get_or (f x ++ chained rs) k 0) e ∙ get_or-append-add (f x) (chained rs) m 0)) q.3)
