-- What the visits have found, with the component of one root more. Assumes a sound plant, and that the root is a switch of it that is apart from the others.
use mathlib.Core.Path.{◌≡◌, refl, sym, ap, ◌∙◌, subst}
use mathlib.Core.Logic.{◌⊎◌, inl, inr, ⊎_elim}
use mathlib.Core.Bool.{Bool, false, ◌||◌, or-false}
use mathlib.Core.List.{List, [], ◌∷◌, ◌++◌}
use Prim.Native.Nat.{ℕ, zero, suc, ◌+◌, ◌≤◌, ◌<◌}
use native.Mathlib.Omega.{arith}
use Rattle.std.proofs.Common.{Option, Some, None}
use lib.Dec.{T}
use Rattle.lists.specs.Tests.{choose}
use lib.ListN.{length, get_or, set, length-set}
use lib.Seq.{get_or-set_same, get_or-set_other}
use Rattle.lists.specs.Arrays.{flag, at}
use Rattle.lists.specs.Members.{In}
use Rattle.lists.proofs.Members.{memb→in, get_d_in, in_append, in_append_left, in_append_right}
use Rattle.lists.proofs.Tests.{below?, not_true_false, true_T, choose_true, choose_false}
use Rattle.plant.specs.declared.Plant.{Plant}
use Rattle.plant.specs.Links.{first}
use Rattle.limits.specs.Limits.{max_switches}
use Rattle.limits.specs.Sound.{Sound}
use Rattle.walks.specs.Visit.{rank}
use Rattle.walks.specs.Graph.{visited_from, reached_from, entered_from}
use Rattle.walks.proofs.Valid.{sound_valid}
use Rattle.walks.proofs.Visited.{visited_inside}
use Rattle.arcs.proofs.Entered.{entered-first}
use Rattle.arcs.specs.declared.Visited.{Visited}
use Rattle.arcs.specs.Shows.{Visits}
use Rattle.components.specs.declared.Forest.{Forest}
use Rattle.components.specs.Inner.{Apart, Outside, Covers}

-- ---- lists with one member more

more_length : (rs : List ℕ) (r : ℕ) → length (rs ++ (r ∷ [])) ≡ length rs + 1
more_length [] r = refl
more_length (s ∷ rs) r = omega (arith, more_length rs r)

more_before : (rs : List ℕ) (r i : ℕ) → i < length rs → get_or (rs ++ (r ∷ [])) i 0 ≡ get_or rs i 0
more_before [] r i h = absurd (omega arith)
more_before (s ∷ rs) r zero h = refl
more_before (s ∷ rs) r (suc i) h = more_before rs r i (omega arith)

more_last : (rs : List ℕ) (r : ℕ) → get_or (rs ++ (r ∷ [])) (length rs) 0 ≡ r
more_last [] r = refl
more_last (s ∷ rs) r = more_last rs r

more_cases : (rs : List ℕ) (r s : ℕ) → In s (rs ++ (r ∷ [])) → In s rs ⊎ (s ≡ r)
more_cases rs r s i = ⊎_elim (λ j. inl j) (⊎_elim (λ e. inr e) (λ z. absurd z)) (in_append s rs (r ∷ []) i)

-- ---- one root more

module _ (p : Plant) (sound : Sound p) (rs : List ℕ) (r : ℕ) (f : Forest) (covers : Covers p rs f) (apart : Apart p rs r) (v : Visited) (visits : Visits p r v) where
  abbrev rs' : List ℕ
  rs' = rs ++ (r ∷ [])

  last : In r rs'
  last = in_append_right r rs (r ∷ []) (inl refl)

  before : (s : ℕ) → In s rs → In s rs'
  before s = in_append_left s rs (r ∷ [])

  root_in : (s : ℕ) → In s rs' → s < p.switches
  root_in s i = ⊎_elim (covers.inside s) (λ e. omega (arith, e, visits.root_in)) (more_cases rs r s i)

  place : (s x : ℕ) → In s rs' → T (reached_from p s x) → x < max_switches
  place s x i t = omega (arith, visited_inside p (sound_valid p sound) s (root_in s i) x (memb→in x (visited_from p s).ord t), sound.few_switches)

  -- ---- the numbers of the switches

  -- a switch that is seen has the new value, and another the old
  module _ {A : Type 0} (new old now : ℕ → A) (renumbered : (x : ℕ) → x < max_switches → now x ≡ choose (flag v.seen x) (new x) (old x)) (x : ℕ) where
    renewed : T (reached_from p r x) → now x ≡ new x
    renewed t = renumbered x (place r x last t) ∙ choose_true (flag v.seen x) (new x) (old x) (subst T (sym (visits.shows.sees x)) t)

    kept : x < max_switches → (T (reached_from p r x) → ⊥) → now x ≡ old x
    kept h m = renumbered x h ∙ choose_false (flag v.seen x) (new x) (old x) (λ t. m (subst T (visits.shows.sees x) t))

  module _ (few : f.count < max_switches) where
    roots' : (i : ℕ) → i < length rs' → (i < length rs) ⊎ (length rs ≤ i) → at (set f.roots f.count r) i ≡ get_or rs' i 0
    roots' i h (inl l) =
        get_or-set_other f.roots f.count i r 0 (λ e. omega (arith, e, covers.count_is)) ∙ covers.roots_are i l ∙ sym (more_before rs r i l)
    roots' i h (inr l) =
        let e : i ≡ f.count = omega (arith, covers.count_is, more_length rs r) in
        rw e (get_or-set_same f.roots f.count r 0 (omega (arith, covers.roots_places)) ∙ sym (ap (λ (k : ℕ). get_or rs' k 0) covers.count_is ∙ more_last rs r))

    module _ (home : List (Option ℕ)) (settled : (x : ℕ) → x < max_switches → get_or home x None ≡ choose (flag v.seen x) (Some f.count) (get_or f.home x None)) where
      homes' : (i x : ℕ) → i < length rs' → T (reached_from p (get_or rs' i 0) x) → (i < length rs) ⊎ (length rs ≤ i) → get_or home x None ≡ Some i
      homes' i x h t (inl l) =
          let s = get_or rs i 0 in
          let t' : T (reached_from p s x) = subst (λ (y : ℕ). T (reached_from p y x)) (more_before rs r i l) t in
          let k = get_d_in rs i l in
          kept _ _ _ settled x (place s x (before s k) t') (apart s x k t') ∙ covers.homes i x l t'
      homes' i x h t (inr l) =
          let e : i ≡ length rs = omega (arith, more_length rs r) in
          let t' : T (reached_from p r x) = subst (λ (y : ℕ). T (reached_from p y x)) (ap (λ (k : ℕ). get_or rs' k 0) e ∙ more_last rs r) t in
          renewed _ _ _ settled x t' ∙ ap Some (covers.count_is ∙ sym e)

      homeless' : (x : ℕ) → x < max_switches → Outside p rs' x → get_or home x None ≡ None
      homeless' x h n = kept _ _ _ settled x h (n r last) ∙ covers.homeless x h (λ s i. n s (before s i))

      module _ (numbers : List ℕ) (ranked : (x : ℕ) → x < max_switches → at numbers x ≡ choose (flag v.seen x) (at v.rank x) (at f.rank x)) (entered : List Bool) (joined : (l : ℕ) → flag entered l ≡ flag f.entered l || flag v.entered l) where
        ranks' : (s x : ℕ) → T (reached_from p s x) → In s rs ⊎ (s ≡ r) → at numbers x ≡ rank x (visited_from p s).ord
        ranks' s x t (inl i) = kept _ _ _ ranked x (place s x (before s i) t) (apart s x i t) ∙ covers.ranks s x i t
        ranks' s x t (inr e) =
            renewed _ _ _ ranked x (subst (λ (k : ℕ). T (reached_from p k x)) e t) ∙ visits.shows.ranks x ∙ ap (λ (k : ℕ). rank x (visited_from p k).ord) (sym e)

        -- ---- the links that are entered

        -- a link at no switch that the visit reached
        passed : (l : ℕ) → (T (reached_from p r (first p l)) → ⊥) → flag v.entered l ≡ false
        passed l n = visits.shows.enters l ∙ not_true_false (entered_from p r l) (λ e. n (entered-first p sound r l visits.root_in (true_T (entered_from p r l) e)))

        enters' : (s l : ℕ) → T (reached_from p s (first p l)) → In s rs ⊎ (s ≡ r) → flag entered l ≡ entered_from p s l
        enters' s l t (inl i) = joined l ∙ rw (passed l (apart s (first p l) i t), covers.enters s l i t) (or-false (entered_from p s l))
        enters' s l t (inr e) =
            let t' : T (reached_from p r (first p l)) = subst (λ (k : ℕ). T (reached_from p k (first p l))) e t in
            joined l ∙ rw (covers.unentered l (λ q i u. apart q (first p l) i u t')) (visits.shows.enters l) ∙ ap (λ (k : ℕ). entered_from p k l) (sym e)

        unentered' : (l : ℕ) → Outside p rs' (first p l) → flag entered l ≡ false
        unentered' l n = joined l ∙ rw (covers.unentered l (λ s i. n s (before s i)), passed l (n r last))

        pub covers_more : Covers p rs' (record { count = f.count + 1; roots = set f.roots f.count r; home = home; rank = numbers; entered = entered })
        covers_more = record {
          inside = root_in;
          count_is = omega (arith, covers.count_is, more_length rs r);
          roots_places = length-set f.roots f.count r ∙ covers.roots_places;
          roots_are = λ i h. roots' i h (below? i (length rs));
          homes = λ i x h t. homes' i x h t (below? i (length rs));
          homeless = homeless';
          ranks = λ s x i t. ranks' s x t (more_cases rs r s i);
          enters = λ s l i t. enters' s l t (more_cases rs r s i);
          unentered = unentered';
        }
