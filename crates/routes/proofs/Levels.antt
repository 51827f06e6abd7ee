-- The level sets, from which v is at most k hops away: who is in the next one. Assumes nothing.
use mathlib.Core.Path.{◌≡◌, refl}
use mathlib.Core.Logic.{◌⊎◌, inl, inr, ⊎_elim}
use mathlib.Core.Bool.{Bool, ◌&&◌}
use mathlib.Core.List.{List}
use Prim.Native.Nat.{ℕ, zero, suc, ◌≤◌, ◌<◌}
use native.Mathlib.Omega.{arith}
use lib.Dec.{T, not_T, leb, leb→le, nleb→lt}
use Rattle.lists.proofs.Tests.{T-or, and_left, and_right, and_both}
use Rattle.lists.specs.Members.{In, memb}
use Rattle.lists.proofs.Members.{memb→in, in→memb, in_append, in_append_left, in_append_right}
use Rattle.lists.specs.Numbers.{range, keep}
use Rattle.lists.proofs.Numbers.{range_in, in_range, keep_in, in_keep}
use Rattle.routes.specs.Distance.{sources, within}
use Rattle.lists.proofs.Agree.{in_map, map_in}

-- x is at most y, or above it
pub le? : (x y : ℕ) → (x ≤ y) ⊎ (y < x)
le? x y = ⊎_elim (λ t. inl (leb→le x y t)) (λ f. inr (nleb→lt x y (not_T (leb x y) f))) (T-or (leb x y))

module _ (S n : ℕ) (tl hd : ℕ → ℕ) (ok : ℕ → Bool) where
  abbrev before : List ℕ → List ℕ
  before l = sources S n tl hd ok l

  abbrev level : ℕ → ℕ → List ℕ
  level k v = within S n tl hd ok k v

  -- some arc in use leads from x into l
  abbrev pub LeadsInto : ℕ → List ℕ → Type 0
  LeadsInto x l = (a : ℕ) × (a < n) × T (ok a) × In (hd a) l × (x ≡ tl a)

  sources_in : (x : ℕ) (l : List ℕ) → In x (before l) → LeadsInto x l
  unfolding sources
  sources_in x l h =
      let m = map_in tl x (keep (λ a. ok a && memb (hd a) l) (range 0 n)) h in
      let k = keep_in (λ a. ok a && memb (hd a) l) m.0 (range 0 n) m.1 in (
        m.0,
        omega (arith, (range_in m.0 0 n k.0).1),
        and_left (ok m.0) (memb (hd m.0) l) k.1,
        memb→in (hd m.0) l (and_right (ok m.0) (memb (hd m.0) l) k.1),
        m.2,
      )

  in_sources : (a : ℕ) (l : List ℕ) → a < n → T (ok a) → In (hd a) l → In (tl a) (before l)
  unfolding sources
  in_sources a l h t i =
      in_map tl a (keep (λ b. ok b && memb (hd b) l) (range 0 n))
      (in_keep (λ b. ok b && memb (hd b) l) a (range 0 n) (in_range a 0 n (omega arith) (omega arith)) (and_both (ok a) (memb (hd a) l) t (in→memb (hd a) l i)))

  pub within_old : (k x v : ℕ) → In x (level k v) → In x (level (suc k) v)
  unfolding within
  within_old k x v h = in_append_right x (before (level k v)) (level k v) h

  pub within-hop : (k a v : ℕ) → a < n → T (ok a) → In (hd a) (level k v) → In (tl a) (level (suc k) v)
  unfolding within
  within-hop k a v h t i = in_append_left (tl a) (before (level k v)) (level k v) (in_sources a (level k v) h t i)

  -- who is in the next level set was in the last one, or is one hop before it
  pub within_new : (k x v : ℕ) → In x (level (suc k) v) → In x (level k v) ⊎ LeadsInto x (level k v)
  unfolding within
  within_new k x v h = ⊎_elim (λ i. inr (sources_in x (level k v) i)) inl (in_append x (before (level k v)) (level k v) h)

  pub within_self : (k v : ℕ) → In v (level k v)
  unfolding within
  within_self zero v = inl refl
  within_self (suc k) v = within_old k v v (within_self k v)
