-- Laws of labels: halves, the opposite arc, the lists of labels, links that a walk crosses, the ends of an arc. Assumes nothing, and a valid plant where the ends are switches.
use mathlib.Core.Path.{◌≡◌, sym, ap, ◌∙◌, subst}
use mathlib.Core.Logic.{◌⊎◌, inl, inr, ⊎_elim, ◌↔◌}
use mathlib.Core.Bool.{Bool, not, ◌&&◌, ◌||◌}
use mathlib.Core.List.{List, [], ◌∷◌}
use Prim.Native.Nat.{ℕ, zero, suc, ◌+◌, ◌-◌, ◌*◌, ◌/◌, ◌%◌, ◌<◌}
use native.Mathlib.Omega.{arith}
use lib.Dec.{T, T_not, not_T, eqb, eqb→eq}
use Rattle.lists.proofs.Tests.{eq?, eq→eqb, and_left, and_right, and_both, or_left, or_right, or_cases}
use Rattle.lists.specs.Members.{In, memb}
use Rattle.lists.proofs.Members.{in?, memb→in, in→memb}
use Rattle.lists.specs.Numbers.{range, keep}
use Rattle.lists.proofs.Numbers.{in_range, keep_in, in_keep}
use Rattle.plant.specs.declared.Plant.{Plant}
use Rattle.plant.specs.Links.{side, first, second, live}
use Rattle.plant.proofs.Sides.{side_even, side_odd}
use Rattle.walks.specs.Arcs.{opposite, labels, tail, head, Arc, Avoid, Valid}
use Rattle.walks.specs.Graph.{Crosses, arcs, others}
use Rattle.walks.proofs.Live.{live_below}

-- ---- halves

pub even_half : (l : ℕ) → 2 * l / 2 ≡ l
even_half l = omega arith

pub odd_half : (l : ℕ) → (2 * l + 1) / 2 ≡ l
odd_half l = omega arith

pub even_or_odd : (a : ℕ) → (a ≡ 2 * (a / 2)) ⊎ (a ≡ 2 * (a / 2) + 1)
even_or_odd a = ⊎_elim (λ e. inl (omega arith)) (λ e. inr (omega (arith, e))) (eq? (a % 2) 0)

-- ---- the opposite arc

pub opposite_half : (a : ℕ) → opposite a / 2 ≡ a / 2
unfolding opposite
opposite_half a = omega arith

opposite_mod : (a : ℕ) → opposite a % 2 ≡ 1 - a % 2
unfolding opposite
opposite_mod a = omega arith

pub opposite_even : (l : ℕ) → opposite (2 * l) ≡ 2 * l + 1
unfolding opposite
opposite_even l = omega arith

pub opposite_odd : (l : ℕ) → opposite (2 * l + 1) ≡ 2 * l
unfolding opposite
opposite_odd l = omega arith

pub opposite_twice : (a : ℕ) → opposite (opposite a) ≡ a
unfolding opposite
opposite_twice a = omega arith

-- two labels of one link are the same or opposite
pub same-link : (a b : ℕ) → a / 2 ≡ b / 2 → (a ≡ b) ⊎ (a ≡ opposite b)
unfolding opposite
same-link a b e = ⊎_elim (λ q. inl q) (λ q. inr (omega (arith, q))) (eq? a b)

-- what holds of a label of the link of b holds of b, or of the opposite one
pub of_link : (P : ℕ → Type 0) (a b : ℕ) → a / 2 ≡ b / 2 → P a → P b ⊎ P (opposite b)
of_link P a b e h = ⊎_elim (λ q. inl (subst P q h)) (λ q. inr (subst P q h)) (same-link a b e)

-- ---- the labels of a list of links

pub labels_in : (a : ℕ) (ls : List ℕ) → In a (labels ls) → In (a / 2) ls
labels_in a [] h = h
labels_in a (l ∷ ls) (inl e) = inl (omega arith)
labels_in a (l ∷ ls) (inr (inl e)) = inl (omega arith)
labels_in a (l ∷ ls) (inr (inr h)) = inr (labels_in a ls h)

pub in_labels : (a : ℕ) (ls : List ℕ) → In (a / 2) ls → In a (labels ls)
in_labels a [] h = h
in_labels a (l ∷ ls) (inl e) = ⊎_elim (λ q. inl (omega arith)) (λ q. inr (inl (omega arith))) (even_or_odd a)
in_labels a (l ∷ ls) (inr h) = inr (inr (in_labels a ls h))

-- ---- links that a walk crosses

-- a walk that has an arc of link l crosses it
pub crosses : (a l : ℕ) (w : List ℕ) → In a w → a / 2 ≡ l → Crosses l w
crosses a l w h e = ⊎_elim (λ q. inl (subst (λ (k : ℕ). In k w) (q ∙ ap (λ (k : ℕ). 2 * k) e) h)) (λ q. inr (subst (λ (k : ℕ). In k w) (q ∙ ap (λ (k : ℕ). 2 * k + 1) e) h)) (even_or_odd a)

pub crosses? : (l : ℕ) (w : List ℕ) → Crosses l w ⊎ (Crosses l w → ⊥)
crosses? l w = go (in? (2 * l) w) (in? (2 * l + 1) w)
  where
    go : In (2 * l) w ⊎ (In (2 * l) w → ⊥) → In (2 * l + 1) w ⊎ (In (2 * l + 1) w → ⊥) → Crosses l w ⊎ (Crosses l w → ⊥)
    go (inl h) k = inl (inl h)
    go (inr n) (inl h) = inl (inr h)
    go (inr n) (inr m) = inr (λ c. elim c [ inl h ↦ n h | inr h ↦ m h ])

pub crossed-is : (l : ℕ) (w : List ℕ) → T (memb (2 * l) w || memb (2 * l + 1) w) ↔ Crosses l w
crossed-is l w = (λ t. there (or_cases (memb (2 * l) w) (memb (2 * l + 1) w) t), again)
  where
    there : T (memb (2 * l) w) ⊎ T (memb (2 * l + 1) w) → Crosses l w
    there (inl t) = inl (memb→in (2 * l) w t)
    there (inr t) = inr (memb→in (2 * l + 1) w t)

    again : Crosses l w → T (memb (2 * l) w || memb (2 * l + 1) w)
    again (inl h) = or_left (memb (2 * l) w) (memb (2 * l + 1) w) (in→memb (2 * l) w h)
    again (inr h) = or_right (memb (2 * l) w) (memb (2 * l + 1) w) (in→memb (2 * l + 1) w h)

-- it has the arc, or the opposite one
pub crosses_arc : (a : ℕ) (w : List ℕ) → Crosses (a / 2) w → In a w ⊎ In (opposite a) w
crosses_arc a w (inl h) = of_link (λ k. In k w) (2 * (a / 2)) a (even_half (a / 2)) h
crosses_arc a w (inr h) = of_link (λ k. In k w) (2 * (a / 2) + 1) a (odd_half (a / 2)) h

-- ---- the ends of an arc

side_swap : (x y n m : ℕ) → n < 2 → m ≡ 1 - n → side m x y ≡ side n y x
side_swap x y zero m h e = sym (side_odd m x y (λ z. omega arith))
side_swap x y (suc n) m h e = sym (side_even m x y (omega arith))

module _ (p : Plant) where
  pub tail_even : (l : ℕ) → tail p (2 * l) ≡ first p l
  unfolding tail
  tail_even l = sym (side_even (2 * l % 2) _ _ (omega arith)) ∙ ap (first p) (even_half l)

  pub head_even : (l : ℕ) → head p (2 * l) ≡ second p l
  unfolding head
  head_even l = sym (side_even (2 * l % 2) _ _ (omega arith)) ∙ ap (second p) (even_half l)

  pub tail_odd : (l : ℕ) → tail p (2 * l + 1) ≡ second p l
  unfolding tail
  tail_odd l = sym (side_odd ((2 * l + 1) % 2) _ _ (λ z. omega arith)) ∙ ap (second p) (odd_half l)

  pub head_odd : (l : ℕ) → head p (2 * l + 1) ≡ first p l
  unfolding head
  head_odd l = sym (side_odd ((2 * l + 1) % 2) _ _ (λ z. omega arith)) ∙ ap (first p) (odd_half l)

  pub tail-opposite : (a : ℕ) → tail p (opposite a) ≡ head p a
  unfolding tail head
  tail-opposite a =
      ap (λ (k : ℕ). side (opposite a % 2) (first p k) (second p k)) (opposite_half a)
      ∙ side_swap (first p (a / 2)) (second p (a / 2)) (a % 2) (opposite a % 2) (omega arith) (opposite_mod a)

  pub head-opposite : (a : ℕ) → head p (opposite a) ≡ tail p a
  head-opposite a = sym (tail-opposite (opposite a)) ∙ ap (tail p) (opposite_twice a)

  -- an arc leads from the first end of its link to the second, or back
  pub ends : (a : ℕ) → ((tail p a ≡ first p (a / 2)) × (head p a ≡ second p (a / 2))) ⊎ ((tail p a ≡ second p (a / 2)) × (head p a ≡ first p (a / 2)))
  ends a = ⊎_elim (λ e. inl (ap (tail p) e ∙ tail_even (a / 2), ap (head p) e ∙ head_even (a / 2))) (λ e. inr (ap (tail p) e ∙ tail_odd (a / 2), ap (head p) e ∙ head_odd (a / 2))) (even_or_odd a)

  -- ---- arcs

  pub arc_below : (a : ℕ) → Arc p a → a < 2 * p.count
  arc_below a h = omega (arith, live_below p (a / 2) h)

  pub even_arc : (l : ℕ) → T (live p l) → Arc p (2 * l)
  even_arc l t = subst (λ (k : ℕ). T (live p k)) (sym (even_half l)) t

  pub odd_arc : (l : ℕ) → T (live p l) → Arc p (2 * l + 1)
  odd_arc l t = subst (λ (k : ℕ). T (live p k)) (sym (odd_half l)) t

  pub opposite_arc : (a : ℕ) → Arc p a → Arc p (opposite a)
  opposite_arc a h = subst (λ (k : ℕ). T (live p k)) (sym (opposite_half a)) h

  pub opposite_avoid : (l a : ℕ) → Avoid p l a → Avoid p l (opposite a)
  opposite_avoid l a h = (opposite_arc a h.0, λ e. h.1 (sym (opposite_half a) ∙ e))

  -- the list of arcs has the arcs and no other label
  pub arcs-are : (a : ℕ) → In a (arcs p) ↔ Arc p a
  unfolding arcs
  arcs-are a = (
    λ h. (keep_in (live p) (a / 2) (range 0 p.count) (labels_in a (keep (live p) (range 0 p.count)) h)).1,
    λ h. in_labels a (keep (live p) (range 0 p.count))
        (in_keep (live p) (a / 2) (range 0 p.count) (in_range (a / 2) 0 p.count (omega arith) (omega (arith, live_below p (a / 2) h))) h),
  )

  -- so it is with the arcs that do not cross link l
  pub others-are : (l a : ℕ) → In a (others p l) ↔ Avoid p l a
  unfolding others
  others-are l a = (
    λ h.
        let t = (keep_in other (a / 2) (range 0 p.count) (labels_in a (keep other (range 0 p.count)) h)).1 in
        (and_left (live p (a / 2)) (not (eqb (a / 2) l)) t, λ e. T_not (eqb (a / 2) l) (and_right (live p (a / 2)) (not (eqb (a / 2) l)) t) (eq→eqb e)),
    λ h. in_labels a (keep other (range 0 p.count))
        (in_keep other (a / 2) (range 0 p.count) (in_range (a / 2) 0 p.count (omega arith) (omega (arith, live_below p (a / 2) h.0)))
        (and_both (live p (a / 2)) (not (eqb (a / 2) l)) h.0 (not_T (eqb (a / 2) l) (λ t. h.1 (eqb→eq (a / 2) l t))))),
  )
    where
      other : ℕ → Bool
      other k = live p k && not (eqb k l)

  module _ (ok : Valid p) where
    pub head_in : (a : ℕ) → Arc p a → head p a < p.switches
    head_in a h = ⊎_elim (λ e. omega (arith, e.1, ok.second_in (a / 2) h)) (λ e. omega (arith, e.1, ok.first_in_is (a / 2) h)) (ends a)

    pub tail_in : (a : ℕ) → Arc p a → tail p a < p.switches
    tail_in a h = omega (arith, head-opposite a, head_in (opposite a) (opposite_arc a h))

    pub ends-apart : (a : ℕ) → Arc p a → tail p a ≡ head p a → ⊥
    ends-apart a h q = ⊎_elim (λ e. ok.apart (a / 2) h (sym e.0 ∙ q ∙ e.1)) (λ e. ok.apart (a / 2) h (sym e.1 ∙ sym q ∙ e.0)) (ends a)
