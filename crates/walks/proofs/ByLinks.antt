-- The visit by rising link number is the visit over the arcs by rising label. Assumes a valid plant.
use mathlib.Core.Path.{◌≡◌, refl, sym, ap, ap₂, ◌∙◌}
use mathlib.Core.Logic.{inl, inr}
use mathlib.Core.Bool.{Bool, true, false, not, ◌&&◌}
use mathlib.Core.List.{List, [], ◌∷◌}
use Prim.Native.Nat.{ℕ, zero, suc, ◌+◌, ◌*◌, ◌/◌, ◌≤◌, ◌<◌}
use lib.Dec.{T, eqb, eqb→eq}
use Rattle.lists.proofs.Tests.{and_left, if_false}
use Rattle.lists.specs.Members.{In, memb}
use Rattle.lists.specs.Numbers.{range, keep}
use Rattle.lists.proofs.Numbers.{keep_in}
use Rattle.plant.specs.declared.Plant.{Plant}
use Rattle.plant.specs.Links.{first, second, live}
use Rattle.walks.specs.Visit.{St, scan, visit}
use Rattle.walks.specs.Arcs.{labels, tail, head, Valid}
use Rattle.walks.specs.Graph.{arcs, visit_from, visited_from}
use Rattle.walks.proofs.Labels.{labels_in, tail_even, head_even, tail_odd, head_odd}
use Rattle.walks.proofs.Visited.{begin, enough}
use Rattle.walks.specs.ByLinks.{try, try_link, scan_links, visit_links}

-- an arc that does not leave v is passed over
try-not : (en : ℕ → St → St) (v a x y : ℕ) (s : St) → (x ≡ v → ⊥) → try en v a x y s ≡ s
try-not en v a x y s n = if_false (eqb x v && not (memb y s.ord)) _ _ (λ t. n (eqb→eq x v (and_left (eqb x v) (not (memb y s.ord)) t)))

-- to try one arc and then the opposite one is to try the link
try_both : (en : ℕ → St → St) (v a b x y : ℕ) (s : St) → (x ≡ y → ⊥) → try en v b y x (try en v a x y s) ≡ try_link en v a b x y s
try_both en v a b x y s n = go (eqb x v && not (memb y s.ord)) (λ t. eqb→eq x v (and_left (eqb x v) (not (memb y s.ord)) t))
  where
    go : (c : Bool) → (T c → x ≡ v)
        → try en v b y x (elim c as (λ _. St) [ true ↦ en y (record { ord = y ∷ s.ord; ent = a ∷ s.ent }) | false ↦ s ])
        ≡ elim c as (λ _. St) [ true ↦ en y (record { ord = y ∷ s.ord; ent = a ∷ s.ent }) | false ↦ try en v b y x s ]
    go true f = try-not en v b y x (en y (record { ord = y ∷ s.ord; ent = a ∷ s.ent })) (λ e. n (f tt ∙ sym e))
    go false f = refl

try-same : (e₁ e₂ : ℕ → St → St) → ((w : ℕ) (t : St) → e₁ w t ≡ e₂ w t) → (v a b x y : ℕ) (s : St) → try_link e₁ v a b x y s ≡ try_link e₂ v a b x y s
try-same e₁ e₂ q v a b x y s = go (eqb x v && not (memb y s.ord)) (eqb y v && not (memb x s.ord))
  where
    go : (c d : Bool)
        → ◌≡◌ {A = St}
        (elim c as (λ _. St) [
          | true ↦ e₁ y (record { ord = y ∷ s.ord; ent = a ∷ s.ent })
          | false ↦ elim d as (λ _. St) [ true ↦ e₁ x (record { ord = x ∷ s.ord; ent = b ∷ s.ent }) | false ↦ s ]
        ])
        (elim c as (λ _. St) [
          | true ↦ e₂ y (record { ord = y ∷ s.ord; ent = a ∷ s.ent })
          | false ↦ elim d as (λ _. St) [ true ↦ e₂ x (record { ord = x ∷ s.ord; ent = b ∷ s.ent }) | false ↦ s ]
        ])
    go true d = q y (record { ord = y ∷ s.ord; ent = a ∷ s.ent })
    go false true = q x (record { ord = x ∷ s.ord; ent = b ∷ s.ent })
    go false false = refl

module _ (p : Plant) (ok : Valid p) where
  two : (en : ℕ → St → St) (v l : ℕ) (bs : List ℕ) (s : St) → T (live p l)
      → scan (tail p) (head p) en v ((2 * l) ∷ (2 * l + 1) ∷ bs) s ≡ scan (tail p) (head p) en v bs (try_link en v (2 * l) (2 * l + 1) (first p l) (second p l) s)
  unfolding scan
  two en v l bs s h =
      ap (λ (t : St). scan (tail p) (head p) en v bs (try en v (2 * l + 1) (tail p (2 * l + 1)) (head p (2 * l + 1)) t))
      (ap₂ (λ (x y : ℕ). try en v (2 * l) x y s) (tail_even p l) (head_even p l))
      ∙ ap₂ (λ (x y : ℕ). scan (tail p) (head p) en v bs (try en v (2 * l + 1) x y (try en v (2 * l) (first p l) (second p l) s))) (tail_odd p l) (head_odd p l)
      ∙ ap (λ (t : St). scan (tail p) (head p) en v bs t) (try_both en v (2 * l) (2 * l + 1) (first p l) (second p l) s (ok.apart l h))

  scan-links : (e₁ e₂ : ℕ → St → St) → ((w : ℕ) (t : St) → e₁ w t ≡ e₂ w t) → (v : ℕ) (ls : List ℕ) (s : St) → ((l : ℕ) → In l ls → T (live p l))
      → scan (tail p) (head p) e₁ v (labels ls) s ≡ scan_links p e₂ v ls s
  unfolding scan scan_links
  scan-links e₁ e₂ q v [] s h = refl
  scan-links e₁ e₂ q v (l ∷ ls) s h =
      two e₁ v l (labels ls) s (h l (inl refl))
      ∙ scan-links e₁ e₂ q v ls (try_link e₁ v (2 * l) (2 * l + 1) (first p l) (second p l) s) (λ k i. h k (inr i))
      ∙ ap (λ (t : St). scan_links p e₂ v ls t) (try-same e₁ e₂ q v (2 * l) (2 * l + 1) (first p l) (second p l) s)

  module _ (ls : List ℕ) (part : (l : ℕ) → In l ls → T (live p l)) where
    pub by_links : (f v : ℕ) (s : St) → visit (tail p) (head p) (labels ls) f v s ≡ visit_links p ls f v s
    unfolding visit visit_links
    by_links zero v s = refl
    by_links (suc f) v s = scan-links (λ w t. visit (tail p) (head p) (labels ls) f w t) (λ w t. visit_links p ls f w t) (by_links f) v ls s part

    -- from a switch, with any fuel from S on
    pub from_by_links : (f v : ℕ) → p.switches ≤ f → v < p.switches → visit_links p ls f v (begin v) ≡ visit_from p v (labels ls)
    from_by_links f v h i = sym (by_links f v (begin v)) ∙ enough p ok (labels ls) (λ b j. part (b / 2) (labels_in b ls j)) v i f h

  -- the visit of the plant from r tries the links in service by rising number
  pub visited_by_links : (r f : ℕ) → r < p.switches → p.switches ≤ f → visit_links p (keep (live p) (range 0 p.count)) f r (begin r) ≡ visited_from p r
  unfolding arcs
  visited_by_links r f r_in h = from_by_links (keep (live p) (range 0 p.count)) (λ l i. (keep_in (live p) l (range 0 p.count) i).1) f r h r_in
