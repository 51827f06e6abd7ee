-- What `next_at` tells is the first leading arc that leaves a switch, in the list of the arcs from a label on. Assumes nothing.
use mathlib.Core.Path.{◌≡◌, sym, ap, ◌∙◌, subst}
use mathlib.Core.Logic.{◌⊎◌, inl, inr}
use mathlib.Core.Bool.{Bool, ◌&&◌}
use mathlib.Core.List.{List, [], ◌∷◌, head-eq_of_cons-eq, tail-eq_of_cons-eq}
use Prim.Native.Nat.{ℕ, zero, suc, ◌+◌, ◌-◌, ◌*◌, ◌/◌}
use native.Mathlib.Omega.{arith}
use lib.Dec.{T, eqb, ltb, ltb→lt, lt→ltb, eqb→eq}
use lib.ListN.{length}
use Rattle.lists.specs.Tests.{choose}
use Rattle.lists.proofs.Tests.{T-or, choose_true, choose_false, if_true, if_false, and_left, and_right, and_both, eq→eqb}
use Rattle.lists.specs.Members.{In, Distinct}
use Rattle.lists.specs.Numbers.{range, keep}
use Rattle.lists.proofs.Numbers.{keep_yes, keep_no, keep_in, range_distinct, keep_distinct}
use Rattle.lists.specs.Least.{least_from}
use Rattle.plant.specs.declared.Plant.{Plant}
use Rattle.plant.specs.Links.{live}
use Rattle.walks.specs.Arcs.{tail, Arc}
use Rattle.walks.specs.Graph.{arcs}
use Rattle.walks.specs.Inner.{leading_from, next_at}
use Rattle.walks.proofs.Rising.{rising}
use Rattle.walks.proofs.Leading.{leads}

-- of numbers by rising number that pass a test, those after a are the ones from a + 1 on
kept-after : (q : ℕ → Bool) (n k a : ℕ) (bs : List ℕ) → a ∷ bs ≡ keep q (range k n) → (m : ℕ) × (suc a + m ≡ k + n) × (bs ≡ keep q (range (suc a) m))
kept-after q zero k a bs e = absurd (omega (arith, ap length e))
kept-after q (suc n) k a bs e = go (kept-after q n (suc k) a bs) (T-or (q k))
  where
    go : (a ∷ bs ≡ keep q (range (suc k) n) → (m : ℕ) × (suc a + m ≡ suc k + n) × (bs ≡ keep q (range (suc a) m))) → T (q k) ⊎ (T (q k) → ⊥)
        → (m : ℕ) × (suc a + m ≡ k + suc n) × (bs ≡ keep q (range (suc a) m))
    go rec (inl t) =
        let f : a ∷ bs ≡ k ∷ keep q (range (suc k) n) = e ∙ keep_yes q k (range (suc k) n) t in
        let g : a ≡ k = head-eq_of_cons-eq f in
        (n, omega arith, tail-eq_of_cons-eq f ∙ ap (λ (j : ℕ). keep q (range (suc j) n)) (sym g))
    go rec (inr t) = let m = rec (e ∙ keep_no q k (range (suc k) n) t) in (m.0, omega (arith, m.1), m.2)

module _ (p : Plant) where
  -- all arcs from a label on
  pub record From (bs : List ℕ) : Type 0 where
    pub start : ℕ
    pub labels : ℕ
    pub whole : start + labels ≡ 2 * p.count
    pub are : bs ≡ keep (λ a. live p (a / 2)) (range start labels)

  pub from_first : From (arcs p)
  from_first = record { start = 0; labels = 2 * p.count; whole = omega arith; are = sym (rising p) }

  pub from_rest : (a : ℕ) (bs : List ℕ) → From (a ∷ bs) → From bs
  from_rest a bs f = let r = kept-after (λ b. live p (b / 2)) f.labels f.start a bs f.are in record { start = suc a; labels = r.0; whole = r.1 ∙ f.whole; are = r.2 }

  pub from_arcs : (bs : List ℕ) → From bs → (b : ℕ) → In b bs → Arc p b
  from_arcs bs f b i = (keep_in (λ a. live p (a / 2)) b (range f.start f.labels) (subst (λ (l : List ℕ). In b l) f.are i)).1

  pub from_distinct : (bs : List ℕ) → From bs → Distinct bs
  from_distinct bs f = subst Distinct (sym f.are) (keep_distinct (λ a. live p (a / 2)) (range f.start f.labels) (range_distinct f.start f.labels))

  module _ (r : ℕ) (up : ℕ → ℕ) where
    -- the arc leads, and leaves x
    abbrev pub leaves : ℕ → ℕ → Bool
    leaves x a = leading_from p r a && eqb (tail p a) x

    -- the first of the list that does; where there is none, `up x`
    abbrev pub first_in : ℕ → List ℕ → ℕ
    first_in x [] = up x
    first_in x (b ∷ bs) = choose (leaves x b) b (first_in x bs)

    pub first_yes : (x b : ℕ) (bs : List ℕ) → T (leading_from p r b) → tail p b ≡ x → first_in x (b ∷ bs) ≡ b
    first_yes x b bs t e = choose_true (leaves x b) b (first_in x bs) (and_both (leading_from p r b) (eqb (tail p b) x) t (eq→eqb e))

    pub first_no : (x b : ℕ) (bs : List ℕ) → (T (leading_from p r b) → tail p b ≡ x → ⊥) → first_in x (b ∷ bs) ≡ first_in x bs
    first_no x b bs f =
        choose_false (leaves x b) b (first_in x bs) (λ t. f (and_left (leading_from p r b) (eqb (tail p b) x) t) (eqb→eq (tail p b) x (and_right (leading_from p r b) (eqb (tail p b) x) t)))

    -- the same by labels: of n from k on
    told : ℕ → ℕ → ℕ → ℕ
    told x n k = choose (ltb (least_from n k (leaves x)) (2 * p.count)) (least_from n k (leaves x)) (up x)

    kept : ℕ → ℕ → List ℕ
    kept k n = keep (λ a. live p (a / 2)) (range k n)

    first_told : (x n k : ℕ) → k + n ≡ 2 * p.count → first_in x (kept k n) ≡ told x n k
    unfolding told kept least_from
    first_told x zero k e = sym (choose_false (ltb k (2 * p.count)) k (up x) (λ t. omega (arith, ltb→lt k (2 * p.count) t)))
    first_told x (suc n) k e = go (first_told x n (suc k) (omega arith)) (T-or (leaves x k)) (T-or (live p (k / 2)))
      where
        rest : List ℕ
        rest = range (suc k) n

        out : ℕ → ℕ
        out f = choose (ltb f (2 * p.count)) f (up x)

        go : first_in x (keep (λ a. live p (a / 2)) rest) ≡ out (least_from n (suc k) (leaves x)) → T (leaves x k) ⊎ (T (leaves x k) → ⊥)
            → T (live p (k / 2)) ⊎ (T (live p (k / 2)) → ⊥) → first_in x (keep (λ a. live p (a / 2)) (k ∷ rest)) ≡ out (least_from (suc n) k (leaves x))
        go rec (inl t) (inl l) =
            ap (first_in x) (keep_yes (λ a. live p (a / 2)) k rest l)
            ∙ choose_true (leaves x k) k (first_in x (keep (λ a. live p (a / 2)) rest)) t
            ∙ sym (ap out (if_true (leaves x k) k (least_from n (suc k) (leaves x)) t) ∙ choose_true (ltb k (2 * p.count)) k (up x) (lt→ltb k (2 * p.count) (omega arith)))
        go rec (inl t) (inr l) = absurd (l (leads p r k (and_left (leading_from p r k) (eqb (tail p k) x) t)).arc)
        go rec (inr t) (inl l) =
            ap (first_in x) (keep_yes (λ a. live p (a / 2)) k rest l)
            ∙ choose_false (leaves x k) k (first_in x (keep (λ a. live p (a / 2)) rest)) t
            ∙ rec ∙ sym (ap out (if_false (leaves x k) k (least_from n (suc k) (leaves x)) t))
        go rec (inr t) (inr l) = ap (first_in x) (keep_no (λ a. live p (a / 2)) k rest l) ∙ rec ∙ sym (ap out (if_false (leaves x k) k (least_from n (suc k) (leaves x)) t))

    first_from : (x : ℕ) (bs : List ℕ) (f : From bs) → first_in x bs ≡ next_at p r up x f.start
    unfolding told kept next_at
    first_from x bs f =
        let e : f.labels ≡ 2 * p.count - f.start = omega (arith, f.whole) in
        ap (first_in x) f.are ∙ first_told x f.labels f.start f.whole ∙ ap (λ (n : ℕ). told x n f.start) e

    -- of all arcs, and of those after a
    pub first_all : (x : ℕ) → first_in x (arcs p) ≡ next_at p r up x 0
    unfolding from_first
    first_all x = first_from x (arcs p) from_first

    pub first_after : (x a : ℕ) (bs : List ℕ) → From (a ∷ bs) → first_in x bs ≡ next_at p r up x (suc a)
    unfolding from_rest
    first_after x a bs f = first_from x bs (from_rest a bs f)
