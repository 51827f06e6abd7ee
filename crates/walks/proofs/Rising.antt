-- The arcs of a plant, link by link, are the labels of its links by rising label. Assumes nothing.
use mathlib.Core.Path.{◌≡◌, refl, sym, ap, ap₂, ◌∙◌}
use mathlib.Core.Logic.{◌⊎◌, inl, inr}
use mathlib.Core.Bool.{Bool}
use mathlib.Core.List.{List, ◌∷◌}
use Prim.Native.Nat.{ℕ, zero, suc, ◌+◌, ◌*◌, ◌/◌}
use native.Mathlib.Omega.{arith}
use lib.Dec.{T}
use Rattle.lists.proofs.Tests.{T-or}
use Rattle.lists.specs.Numbers.{range, keep}
use Rattle.lists.proofs.Numbers.{keep_yes, keep_no}
use Rattle.plant.specs.declared.Plant.{Plant}
use Rattle.plant.specs.Links.{live}
use Rattle.walks.specs.Arcs.{labels}
use Rattle.walks.specs.Graph.{arcs}
use Rattle.walks.proofs.Labels.{even_half}

pairs-kept : (q : ℕ → Bool) (k n : ℕ) → keep (λ a. q (a / 2)) (range (2 * k) (2 * n)) ≡ labels (keep q (range k n))
pairs-kept q k zero = refl
pairs-kept q k (suc n) = ap (λ (m : ℕ). keep half (range (2 * k) m)) twice ∙ go (T-or (q k)) (ap (λ (m : ℕ). keep half (range m (2 * n))) from ∙ pairs-kept q (suc k) n)
  where
    half : ℕ → Bool
    half a = q (a / 2)

    twice : 2 * suc n ≡ suc (suc (2 * n))
    twice = omega arith

    rest : List ℕ
    rest = range (suc (suc (2 * k))) (2 * n)

    from : suc (suc (2 * k)) ≡ 2 * suc k
    from = omega arith

    odd : suc (2 * k) ≡ 2 * k + 1
    odd = omega arith

    half_odd : suc (2 * k) / 2 ≡ k
    half_odd = omega arith

    go : T (q k) ⊎ (T (q k) → ⊥) → keep half rest ≡ labels (keep q (range (suc k) n)) → keep half (2 * k ∷ suc (2 * k) ∷ rest) ≡ labels (keep q (range k (suc n)))
    go (inl t) e =
        keep_yes half (2 * k) (suc (2 * k) ∷ rest) (rw (even_half k) t)
        ∙ ap (λ (l : List ℕ). 2 * k ∷ l) (keep_yes half (suc (2 * k)) rest (rw half_odd t) ∙ ap₂ (λ (a : ℕ) (l : List ℕ). a ∷ l) odd e)
        ∙ ap labels (sym (keep_yes q k (range (suc k) n) t))
    go (inr f) e =
        keep_no half (2 * k) (suc (2 * k) ∷ rest) (rw (even_half k) f)
        ∙ keep_no half (suc (2 * k)) rest (rw half_odd f) ∙ e ∙ ap labels (sym (keep_no q k (range (suc k) n) f))

pub rising : (p : Plant) → keep (λ a. live p (a / 2)) (range 0 (2 * p.count)) ≡ arcs p
unfolding arcs
rising p = pairs-kept (live p) 0 p.count
