-- The arcs in use are the paper's three cases, by the order of the visit. Assumes a sound plant.
use mathlib.Core.Path.{◌≡◌, refl, sym, ap, ap₂, ◌∙◌, subst}
use mathlib.Core.Logic.{inl, ◌↔◌}
use mathlib.Core.Bool.{Bool, false, ◌&&◌, ◌||◌}
use mathlib.Core.List.{List, [], ◌∷◌}
use Prim.Native.Nat.{ℕ, zero, suc, ◌+◌, ◌/◌, ◌<◌}
use native.Mathlib.Omega.{arith}
use lib.Dec.{T, ltb→lt, lt→ltb}
use lib.ListN.{length, get_or}
use Rattle.lists.specs.Tests.{choose}
use Rattle.lists.specs.Members.{In, Distinct}
use Rattle.lists.proofs.Members.{get_d_in, in_get_d, memb→in, in→memb}
use Rattle.lists.proofs.Tests.{T_true, true_T, not_true_false}
use Rattle.plant.specs.declared.Plant.{Plant}
use Rattle.plant.specs.Links.{live}
use Rattle.limits.specs.Sound.{Sound}
use Rattle.walks.specs.Arcs.{tail, head, Arc, Valid}
use Rattle.walks.specs.Visit.{rank}
use Rattle.walks.specs.Graph.{Bridge, bridge, arcs, visited_from, reached_from, entered_from, earlier_from, used_from}
use Rattle.walks.specs.Components.{root_of, roots, used}
use Rattle.walks.proofs.Labels.{tail_in}
use Rattle.walks.proofs.Tests.{bridge-is}
use Rattle.walks.proofs.Components.{root_reaches, listed_in}
use Rattle.walks.proofs.Visit.{rank_eq, rank_ne, ext}
use Rattle.walks.proofs.Visited.{visited_run, visited_root, visited_finds, visited_distinct}
use Rattle.walks.proofs.Valid.{sound_valid}
use Rattle.demands.specs.Demand2.{VisitOrder, InUse}

-- ---- the order of the visit

-- the rank of the member at a place is how many come after it
rank-at : (xs : List ℕ) → Distinct xs → (i : ℕ) → i < length xs → rank (get_or xs i 0) xs + (i + 1) ≡ length xs
rank-at [] d i h = absurd (omega arith)
rank-at (x ∷ xs) d zero h = omega (arith, rank_eq x x xs refl)
rank-at (x ∷ xs) d (suc i) h =
    let other : get_or xs i 0 ≡ x → ⊥ = λ e. d.0 (subst (λ (y : ℕ). In y xs) e (get_d_in xs i (omega arith))) in
    omega (arith, rank_ne (get_or xs i 0) x xs other, rank-at xs d.1 i (omega arith))

module _ (p : Plant) (ok : Sound p) (r : ℕ) (root : In r (roots p)) where
  r_in : r < p.switches
  r_in = listed_in p (sound_valid p ok) ok.start_in r root

  abbrev found : List ℕ
  found = (visited_from p r).ord

  once : Distinct found
  once = visited_distinct p (sound_valid p ok) r r_in

  begins : (i : ℕ) → i + 1 ≡ length found → get_or found i 0 ≡ r
  begins i h =
      let q = in_get_d found r (visited_root p (sound_valid p ok) r r_in) in
      let none : rank r found ≡ 0 = (ext (tail p) (head p) (arcs p) (visited_run p (sound_valid p ok) r r_in)).ranks r (inl refl) ∙ rank_eq r r [] refl in
      let there : rank r found + (q.0 + 1) ≡ length found = ap (λ (x : ℕ). rank x found + (q.0 + 1)) (sym q.2) ∙ rank-at found once q.0 q.1 in
      let same : i ≡ q.0 = omega arith in
      ap (λ (j : ℕ). get_or found j 0) same ∙ q.2

  earlier : (i j : ℕ) → i < length found → j < length found → T (earlier_from p r (get_or found i 0) (get_or found j 0)) ↔ (j < i)
  earlier i j h k =
      let x = rank (get_or found i 0) found in
      let y = rank (get_or found j 0) found in
      let a = rank-at found once i h in
      let b = rank-at found once j k in
      (λ t. omega (arith, ltb→lt x y t, a, b), λ l. lt→ltb x y (omega (arith, a, b)))

  pub visit_order : VisitOrder p r
  visit_order =
      let f = visited_finds p (sound_valid p ok) r r_in in
      record { each = λ x. (λ i. (f x).0 (in→memb x found i), λ w. memb→in x found ((f x).1 w)); once = once; begins = begins; earlier = earlier }

-- ---- the arcs in use

module _ (p : Plant) (ok : Sound p) (a : ℕ) (arc : Arc p a) where
  valid : Valid p
  valid = sound_valid p ok

  abbrev r : ℕ
  r = root_of p (tail p a)

  -- the definition, of an arc of a link in service, by whether it is a bridge and whether it was entered
  abbrev rest : Bool → Bool → Bool
  rest b e = b || choose e (earlier_from p r (tail p a) (head p a)) (earlier_from p r (head p a) (tail p a))

  is : used p a ≡ rest (bridge p (a / 2)) (entered_from p r (a / 2))
  unfolding used used_from
  is = ap₂ (λ (x y : Bool). x && (y && rest (bridge p (a / 2)) (entered_from p r (a / 2)))) (T_true (reached_from p r (tail p a)) (root_reaches p valid ok.start_in (tail p a) (tail_in p valid a arc))) (T_true (live p (a / 2)) arc)

  no : (Bridge p (a / 2) → ⊥) → bridge p (a / 2) ≡ false
  no n = not_true_false (bridge p (a / 2)) (λ e. n ((bridge-is p valid (a / 2) arc).0 (true_T (bridge p (a / 2)) e)))

  pub in_use : InUse p r a
  in_use = record {
    of_bridge = λ h. true_T (used p a) (is ∙ ap (λ (b : Bool). rest b (entered_from p r (a / 2))) (T_true (bridge p (a / 2)) ((bridge-is p valid (a / 2) arc).1 h)));
    of_entered = λ n t. let e = is ∙ ap₂ rest (no n) (T_true (entered_from p r (a / 2)) t) in (subst T e, subst T (sym e));
    of_other = λ n t. let e = is ∙ ap₂ rest (no n) (not_true_false (entered_from p r (a / 2)) (λ i. t (true_T (entered_from p r (a / 2)) i))) in (subst T e, subst T (sym e));
  }
