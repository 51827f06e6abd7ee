-- The theorem of Finds is not empty, and its limits are not too large. If every outcome is the one of the packet rule, so that no packet vanishes, both premises hold; for
-- every place of the first broken link there is such a list that ends the search there. The allowance alone, without the full check, is refuted, and so are two packets for
-- each probe. Without the second premise an ended search can name a link that is up. Assumes nothing.
use mathlib.Core.Path.{◌≡◌, refl, sym, ap, subst, ◌∙◌}
use mathlib.Core.Logic.{◌⊎◌, inl, inr}
use mathlib.Core.Bool.{true, false}
use mathlib.Core.List.{List, [], ◌∷◌}
use Prim.Native.Nat.{ℕ, zero, suc, ◌+◌, ◌*◌, ◌≤◌, ◌<◌}
use native.Mathlib.Omega.{arith}
use lib.Dec.{ltb}
use Rattle.lists.specs.Tests.{choose}
use Rattle.lists.specs.Members.{Each}
use Rattle.lists.proofs.Tests.{bool?}
use Rattle.lists.proofs.Members.{each-parts}
use Rattle.lists.specs.Least.{least_from}
use Rattle.limits.specs.Limits.{max_links}
use Rattle.allowance.specs.Allowance.{allowance}
use Rattle.search.specs.declared.Outcome.{Outcome}
use Rattle.search.specs.declared.Outcome.TheVariants.{Returned, Lost}
use Rattle.search.specs.declared.Progress.{Progress}
use Rattle.search.specs.Search.{tries, new_search, ended, wanted, lost_so_far, ask, give}
use Rattle.search.specs.Calls.{Call, gives, step, perform, begun, Sending, sent, sendings, TrueSending, OneReturns}
use Rattle.search.specs.Limit.{limit}
use Rattle.search.specs.Values.{Values, IsAllUp, IsDown, outcome_number, IsReturned}
use Rattle.search.proofs.Intervals.{left, next_as, settled-left, settled-lost, once_more_same, once_more_lost, good_lost, none_left}
use Rattle.search.proofs.Finds.{tells_by, moved, accepted, sends, Kept, kept_new, kept_step, sound-kept, finds}

module _ (actual : ℕ → Outcome) where
  -- a sending has the outcome of the packet rule: no packet vanishes
  abbrev pub Quiet : Sending → Type 0
  Quiet (sent m o) = o ≡ actual m

  abbrev home : ℕ → Type 0
  home m = IsReturned (actual m)

  quiet_true : (s : Sending) → Quiet s → TrueSending home s
  quiet_true (sent m Returned) e = ap outcome_number (sym e)
  quiet_true (sent m Lost) e = tt

  -- then both premises hold
  pub all_true : (l : List Sending) → Each Quiet l → Each (TrueSending home) l
  all_true [] h = tt
  all_true (s ∷ l) h = (quiet_true s h.0, all_true l h.1)

  pub one_returns : (l : List Sending) → Each Quiet l → OneReturns home l
  one_returns l h before after m a b c e i = inl (ap outcome_number (each-parts Quiet before (sent m a ∷ sent m b ∷ sent m c ∷ after) (subst (Each Quiet) e h)).1.0 ∙ i)

  -- a list of outcomes from p on that ends the search, each the one that its probe has
  abbrev pub Ends : Progress → Type 0
  Ends p = (cs : List Call) × Each Quiet (sendings p cs) × (ended (perform p cs).state ≡ true)

  module _ (e : ℕ) (fits : e ≤ max_links) where
    -- three packets for each probe that is left are enough, without those that are lost already
    ends : (n most : ℕ) (p : Progress) → Kept e most p → tries * left p.state ≤ n + lost_so_far p.state → Ends p
    ends zero most p k h = ([], tt, none_left e p.state k.good (omega (arith, good_lost e p.state k.good)))
    ends (suc n) most p k h = go (bool? (ended p.state)) (ends n most (step p (gives o)) (kept_step e fits most p (gives o) k))
      where
        o : Outcome
        o = actual (wanted p.state)

        -- each takes one
        fewer_left : ended p.state ≡ false → tries * left (moved p o).state ≤ n + lost_so_far (moved p o).state
        fewer_left q =
            let s = p.state in
            let g = k.good in
            next_as (λ t b. tries * left t ≤ n + lost_so_far t) s o (λ z. omega (arith, settled-left e s o g q, settled-lost e s o g, good_lost e s g))
            (λ z. omega (arith, (once_more_same e s).still_left, once_more_lost e s q))

        go : (ended p.state ≡ true) ⊎ (ended p.state ≡ false) → (tries * left (step p (gives o)).state ≤ n + lost_so_far (step p (gives o)).state → Ends (step p (gives o))) → Ends p
        go (inl q) rec = ([], tt, q)
        go (inr q) rec =
            let s = sound-kept e fits most p k in
            let r = rec (rw (accepted p o s q) (fewer_left q)) in
            (gives o ∷ r.0, rw (sends p o s q) (refl, r.1), r.2)

    pub ends-new : Ends (begun e)
    ends-new = ends (tries * left (begun e).state) (limit e) (begun e) (kept_new e) (omega arith)

-- so every place is found, and that no link is broken: each probe has the outcome that f, the place of the first broken link, decides
module _ (e : ℕ) (fits : e ≤ max_links) (f : ℕ) (from_one : 1 ≤ f) (to_none : f ≤ e + 1) where
  abbrev actual : ℕ → Outcome
  actual m = choose (ltb m f) Returned Lost

  pub found : (cs : List Call) × Each (Quiet actual) (sendings (begun e) cs)
      × (f ≤ e → IsDown f (perform (begun e) cs).state) × (f ≡ e + 1 → IsAllUp (perform (begun e) cs).state)
  found =
      let r = ends-new actual e fits in
      let t = finds e fits f (λ m. IsReturned (actual m)) (tells_by e f from_one to_none (λ m. ltb m f) (λ m h i. refl)) r.0 in
      let h = one_returns actual (sendings (begun e) r.0) r.1 in
      let i = all_true actual (sendings (begun e) r.0) r.1 in
      (r.0, r.1, t.first_down_is i h r.2, t.all_up i h r.2)

-- ---- what is refuted

-- so many losses
abbrev losses : ℕ → List Call
losses zero = []
losses (suc n) = gives Lost ∷ losses n

-- the allowance alone is not enough: three links can take three probes
fewer_probes : ((e : ℕ) (cs : List Call) → (perform (begun e) cs).probes ≤ allowance e) → ⊥
unfolding begun new_search give allowance least_from
fewer_probes f = let h : 3 ≤ 2 = f 3 (losses 9) in omega arith

-- nor are fewer packets than three for each probe
fewer_packets : ((e : ℕ) (cs : List Call) → (perform (begun e) cs).packets < tries * limit e) → ⊥
unfolding begun new_search give limit allowance least_from
fewer_packets f = let h : 9 < 9 = f 3 (losses 9) in omega arith

-- true outcomes alone do not give the verdict: where every probe comes home by the packet rule, three losses in a row end at a link that is up
truth_alone : ((cs : List Call) → Each (TrueSending (λ m. Unit)) (sendings (begun 1) cs) → ended (perform (begun 1) cs).state ≡ true
    → IsAllUp (perform (begun 1) cs).state) → ⊥
unfolding begun new_search give ask
truth_alone f = let z : ◌≡◌ {A = ℕ} 3 2 = ap (λ (v : Values). v.0) (f (losses 3) (tt, (tt, (tt, tt))) refl) in omega (arith, z)
