-- The loop of a call of the visit, which tries the flagged arcs that leave a switch by rising label: arcs that leave another switch change nothing, so that it may go by
-- chains. Assumes that the flagged arcs go to switches that there can be.
use mathlib.Core.Path.{◌≡◌, refl, sym, ap, ◌∙◌, subst}
use mathlib.Core.Logic.{◌⊎◌, inl, inr}
use mathlib.Core.Bool.{Bool, true, false}
use mathlib.Core.List.{List, ◌∷◌}
use Prim.Native.Nat.{ℕ, zero, suc, ◌+◌, ◌-◌, ◌*◌, ◌/◌, ◌≤◌, ◌<◌}
use native.Mathlib.Omega.{arith}
use lib.Dec.{T, eqb, eqb→eq}
use lib.ListN.{get_or}
use Rattle.lists.specs.Arrays.{at}
use Rattle.lists.proofs.Arrays.{set_keeps}
use Rattle.lists.proofs.Tests.{T-or, true_T, T_true, not_both, and_left, and_right, and_both, eq→eqb, if_true, if_false}
use Rattle.lists.specs.Members.{memb}
use Rattle.lists.proofs.Members.{memb→in, in→memb}
use Rattle.lists.specs.Numbers.{range, keep}
use Rattle.lists.proofs.Numbers.{keep_yes, keep_no}
use Rattle.lists.specs.Least.{least_from}
use Rattle.limits.specs.Limits.{max_switches, max_links}
use Rattle.walks.specs.Visit.{St, push}
use Rattle.walks.specs.Inner.{done, skip, enter}
use Rattle.arcs.specs.Chains.{leaving, following, Chained}
use Rattle.arcs.proofs.Chain.{following-is}
use Rattle.arcs.specs.declared.Visited.{Visited}
use Rattle.arcs.specs.Shows.{Shows}
use Rattle.visit.specs.Inner.{Room, enter_of, Tries, Went}
use Rattle.visit.proofs.Entering.{enter-shows}

module _ (n : ℕ) (tl hd : ℕ → ℕ) (ok : ℕ → Bool) where
  -- the flagged labels from a on
  abbrev pub rest : ℕ → List ℕ
  rest a = keep ok (range a (n - a))

  -- all flagged labels
  abbrev pub all : List ℕ
  all = keep ok (range 0 n)

  abbrev pub Leads : ℕ → List ℕ → St → St → Type 0
  Leads = Tries n tl hd ok

  -- arc a is flagged and leaves x, and the first such from a on
  abbrev pub out : ℕ → ℕ → Bool
  out = leaving n tl ok

  abbrev pub next : ℕ → ℕ → ℕ
  next = following n tl ok

  module _ (a : ℕ) (below : a < n) where
    more : n - a ≡ suc (n - suc a)
    more = omega arith

    rest_yes : T (ok a) → rest a ≡ a ∷ rest (suc a)
    rest_yes t = rw more (keep_yes ok a (range (suc a) (n - suc a)) t)

    rest_no : (T (ok a) → ⊥) → rest a ≡ rest (suc a)
    rest_no f = rw more (keep_no ok a (range (suc a) (n - suc a)) f)

  module _ (from : ℕ) {t : St} where
    -- a label that is not flagged, or whose arc leaves another switch
    pass : (a : ℕ) → a < n → (T (out from a) → ⊥) → {s : St} → Leads from (rest (suc a)) s t → Leads from (rest a) s t
    pass a h f {s} d = go (T-or (ok a))
      where
        go : T (ok a) ⊎ (T (ok a) → ⊥) → Leads from (rest a) s t
        go (inl y) = rw (rest_yes a h y) (skip (λ e. absurd (f (and_both (ok a) (eqb (tl a) from) y (eq→eqb e)))) d)
        go (inr y) = rw (rest_no a h y) d

    passes : (f a : ℕ) → a + f ≡ n → {s : St} → Leads from (rest (least_from f a (out from))) s t → Leads from (rest a) s t
    unfolding least_from
    passes zero a e d = d
    passes (suc f) a e {s} d = go (passes f (suc a) (omega arith)) (T-or (out from a))
      where
        later : ℕ
        later = least_from f (suc a) (out from)

        go : (Leads from (rest later) s t → Leads from (rest (suc a)) s t) → T (out from a) ⊎ (T (out from a) → ⊥) → Leads from (rest a) s t
        go rec (inl y) = subst (λ (k : ℕ). Leads from (rest k) s t) (if_true (out from a) a later y) d
        go rec (inr y) = pass a (omega arith) y (rec (subst (λ (k : ℕ). Leads from (rest k) s t) (if_false (out from a) a later y) d))

    -- those before the first that leaves `from` change nothing
    to_first : (a : ℕ) → a ≤ n → {s : St} → Leads from (rest (next from a)) s t → Leads from (rest a) s t
    unfolding following
    to_first a h = passes (n - a) a (omega arith)

  -- before label a is tried at `from`, where the loop began with v₀: whatever state v₀ shows, v shows one from which the labels from a on lead where all lead
  pub record Goes (from a : ℕ) (v₀ v : Visited) : Type 0 where
    pub top : a ≤ n
    pub leaves : a < n → T (out from a)
    pub room : Room v
    pub root_kept : v.root ≡ v₀.root
    pub kept : (x : ℕ) → get_or v₀.seen x false ≡ true → get_or v.seen x false ≡ true
    pub goes : (s : St) → Shows v₀ s → (m : St) × Shows v m × ((t : St) → Leads from (rest a) m t → Leads from all s t)

  module _ (from : ℕ) where
    -- on to the first label that leaves `from`
    goes_to : {a : ℕ} {v₀ v : Visited} → a ≤ n → Room v → v.root ≡ v₀.root → ((x : ℕ) → get_or v₀.seen x false ≡ true → get_or v.seen x false ≡ true)
        → ((s : St) → Shows v₀ s → (m : St) × Shows v m × ((t : St) → Leads from (rest a) m t → Leads from all s t))
        → (b : ℕ) → b ≡ next from a → Goes from b v₀ v
    goes_to {a} {v₀} {v} h room root kept goes b e = subst (λ (k : ℕ). Goes from k v₀ v) (sym e) (record {
      top = (following-is n tl ok from a h).top;
      leaves = (following-is n tl ok from a h).passes;
      room = room;
      root_kept = root;
      kept = kept;
      goes = λ s i. let r = goes s i in (r.0, r.1, λ t d. r.2 t (to_first from a h d));
    })

    pub goes_begin : {v : Visited} → Room v → (b : ℕ) → b ≡ next from 0 → Goes from b v v
    goes_begin room = goes_to {a = 0} (omega arith) room refl (λ x e. e) (λ s h. (s, h, λ t d. let e : n - 0 ≡ n = omega arith in rw e at d))

    pub goes_end : {a : ℕ} {v₀ v : Visited} → n ≤ a → Goes from a v₀ v → Went n tl hd ok v₀ from v
    goes_end {a} end g = record {
      room = g.room;
      root_kept = g.root_kept;
      kept = g.kept;
      went = λ s h. let r = g.goes s h in (r.0, r.1, r.2 r.0 (let e : n - a ≡ 0 = omega arith in rw e done));
    }

    -- label a is tried
    module _ {a : ℕ} (below : a < n) {v₀ v : Visited} (g : Goes from a v₀ v) where
      pub flagged : T (ok a)
      flagged = and_left (ok a) (eqb (tl a) from) (g.leaves below)

      pub leaves_here : tl a ≡ from
      leaves_here = eqb→eq (tl a) from (and_right (ok a) (eqb (tl a) from) (g.leaves below))

      -- the next of its chain
      pub goes_next : {first after : List ℕ} → Chained n tl ok first after → at after a ≡ next from (suc a)
      goes_next c = c.afters a below flagged ∙ ap (λ (x : ℕ). next x (suc a)) leaves_here

      pub goes_rises : a < next from (suc a)
      goes_rises = (following-is n tl ok from (suc a) (omega arith)).bottom

      -- its head is visited already
      pub turn_old : get_or v.seen (hd a) false ≡ true → (b : ℕ) → b ≡ next from (suc a) → Goes from b v₀ v
      turn_old old = goes_to (omega arith) g.room g.root_kept g.kept (λ s h. let r = g.goes s h in (
        r.0,
        r.1,
        λ t d. r.2 t (rw (rest_yes a below flagged) (skip (λ _. memb→in (hd a) r.0.ord (true_T _ (sym (r.1.sees (hd a)) ∙ old))) d)),
      ))

      -- it is entered: w is what the visit from there makes of it
      pub turn_new : {w : Visited} → n ≤ 2 * max_links → hd a < max_switches → get_or v.seen (hd a) false ≡ false → Went n tl hd ok (enter_of v (hd a) (a / 2)) (hd a) w
          → (b : ℕ) → b ≡ next from (suc a) → Goes from b v₀ w
      turn_new {w} few to_in new went =
          goes_to (omega arith) went.room (went.root_kept ∙ g.root_kept)
          (λ x e. went.kept x (set_keeps v.seen (hd a) x (omega (arith, g.room.seen_places)) (g.kept x e))) goes
        where
          goes : (s : St) → Shows v₀ s → (m : St) × Shows w m × ((t : St) → Leads from (rest (suc a)) m t → Leads from all s t)
          goes s h = (
            after.0,
            after.1,
            λ t d. r.2 t (rw (rest_yes a below flagged)
                (enter leaves_here (λ i. not_both (memb (hd a) r.0.ord) (T_true _ (in→memb (hd a) r.0.ord i)) (sym (r.1.sees (hd a)) ∙ new)) after.2 d)),
          )
            where
              r : (m : St) × Shows v m × ((t : St) → Leads from (rest a) m t → Leads from all s t)
              r = g.goes s h

              after : (m : St) × Shows w m × Leads (hd a) all (push tl hd a r.0) m
              after = went.went (push tl hd a r.0) (enter-shows v (hd a) g.room to_in new r.0 a (omega arith) r.1)
