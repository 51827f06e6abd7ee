-- Laws of a lent trail: what the code asks of it and of a place, and how many labels there are up to the first crossing of a link.
-- Assumes nothing.
use mathlib.Core.Path.{◌≡◌, refl, sym, ap}
use mathlib.Core.Bool.{Bool, true, false, not, cond}
use mathlib.Core.List.{List, [], ◌∷◌}
use Prim.Native.Nat.{ℕ, suc, ◌+◌, ◌/◌, ◌≤◌, ◌<◌}
use native.Mathlib.Omega.{arith}
use lib.Dec.{eqb, ltb}
use lib.ListN.{length}
use Rattle.std.proofs.Common.{Option, Some, None, min}
use Rattle.std.specs.Option.{unwrap_or}
use Rattle.std.specs.List.{position, position_or_len}
use Rattle.std.proofs.lemmas.Bool.{ltb-true, ltb-false}
use Rattle.std.proofs.lemmas.Option.{none-some}
use Rattle.lists.specs.Members.{In}
use Rattle.lists.specs.Tests.{choose}
use Rattle.plant.specs.declared.Plant.{Plant}
use Rattle.limits.specs.Limits.{max_links}
use Rattle.walks.specs.Arcs.{tail}
use Rattle.walks.proofs.Live.{live_below}
use Rattle.rings.proofs.Ring.{place-most}
use Rattle.rings.specs.Injection.{place_of}
use Rattle.rings.specs.Probe.{up_to}
use Rattle.order.specs.declared.Ring.{Ring}

-- ---- what the code asks

-- the links of the labels have places
pub links_in : (r : Ring) (a : ℕ) → In a r.trail.now → a / 2 < max_links
links_in r a h = omega (arith, r.sound.few_links, live_below r.plant.now (a / 2) (r.over_arcs a h))

pub place_in : (p : Plant) (w : List ℕ) (s k : ℕ) → k ≡ place_of p w s → k ≤ length w
place_in p w s k e = omega (arith, place-most (tail p) s w)

-- ---- up to the first crossing of link l

abbrev pub crosses : ℕ → ℕ → Bool
crosses l a = eqb (a / 2) l

module _ (l : ℕ) where
  up-to : (r : List ℕ) → length (up_to l r) ≡ min (position_or_len (crosses l) r + 1) (length r)
  up-to [] = refl
  up-to (a ∷ r) = go (up-to r) (crosses l a)
    where
      go : length (up_to l r) ≡ min (position_or_len (crosses l) r + 1) (length r) → (b : Bool) → suc (length (choose b [] (up_to l r))) ≡ min (cond (not b) (1 + position_or_len (crosses l) r) 0 + 1) (suc (length r))
      go e true = omega arith
      go e false = omega (arith, e)

  -- it is label i, or none
  pub crossed_at : (r : List ℕ) (i : ℕ) → position (crosses l) r ≡ Some i → (i < length r) × (i + 1 ≡ length (up_to l r))
  crossed_at r i e = go (ltb (position_or_len (crosses l) r) (length r)) refl e
    where
      go : (b : Bool) → ltb (position_or_len (crosses l) r) (length r) ≡ b → cond b (Some (position_or_len (crosses l) r)) None ≡ Some i → (i < length r) × (i + 1 ≡ length (up_to l r))
      go true t q =
          let h = ltb-true (position_or_len (crosses l) r) (length r) t in
          let at = ap (λ (o : Option ℕ). unwrap_or o 0) q in
          (omega (arith, at, h), omega (arith, at, up-to r, h))
      go false t q = absurd (none-some i q)

  pub crossed_nowhere : (r : List ℕ) → position (crosses l) r ≡ None → length r ≡ length (up_to l r)
  crossed_nowhere r e = go (ltb (position_or_len (crosses l) r) (length r)) refl e
    where
      go : (b : Bool) → ltb (position_or_len (crosses l) r) (length r) ≡ b → cond b (Some (position_or_len (crosses l) r)) None ≡ None → length r ≡ length (up_to l r)
      go true t q = absurd (none-some _ (sym q))
      go false t q = omega (arith, up-to r, ltb-false (position_or_len (crosses l) r) (length r) t)
