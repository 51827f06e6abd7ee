-- Which links are in service: those of the listing that have no mark. Assumes nothing.
-- Of a link in service the theory uses no more than that it is one of the listing (`live_below`).
use mathlib.Core.Path.{◌≡◌, refl, sym, ◌∙◌}
use mathlib.Core.Logic.{⊎_elim}
use mathlib.Core.Bool.{true, false, not}
use Prim.Native.Nat.{ℕ, ◌≤◌, ◌<◌}
use borrow.Author.Tests.{lt-ltb, le-ltb}
use lib.Dec.{T, ltb, ltb→lt}
use Rattle.lists.proofs.Tests.{and_left, and_comm, true_T, below?}
use Rattle.lists.proofs.Count.{count-every}
use Rattle.plant.specs.declared.Plant.{Plant}
use Rattle.plant.specs.Links.{is_out_of_service, live}
use Rattle.walks.specs.Graph.{live_links}

module _ (p : Plant) where
  pub live_below : (l : ℕ) → T (live p l) → l < p.count
  unfolding live
  live_below l t = ltb→lt l p.count (and_left (ltb l p.count) (not (is_out_of_service p l)) t)

  -- of a link of the listing, by its mark
  pub live-listed : (l : ℕ) → l < p.count → live p l ≡ not (is_out_of_service p l)
  unfolding live
  live-listed l h = rw (lt-ltb l p.count h) refl

  -- ---- which are not

  pub dead_past : (l : ℕ) → p.count ≤ l → live p l ≡ false
  unfolding live
  dead_past l h = rw (le-ltb l p.count h) refl

  pub dead_marked : (l : ℕ) → is_out_of_service p l ≡ true → live p l ≡ false
  unfolding live
  dead_marked l e = and_comm (ltb l p.count) (not (is_out_of_service p l)) ∙ rw e refl

  -- ---- of a plant without a mark every link of the listing is in service

  module _ (none : (l : ℕ) → l < p.count → is_out_of_service p l ≡ false) where
    all_live : (l : ℕ) → live p l ≡ ltb l p.count
    all_live l = ⊎_elim (λ h. live-listed l h ∙ rw (none l h, lt-ltb l p.count h) refl) (λ h. dead_past l h ∙ sym (le-ltb l p.count h)) (below? l p.count)

    pub live_all : live p ≡ λ l. ltb l p.count
    live_all = λ j l. all_live l j

    pub links-all : live_links p ≡ p.count
    unfolding live_links
    links-all = count-every p.count (live p) (λ l h. true_T (live p l) (all_live l ∙ lt-ltb l p.count h))
