-- Refusals 12 and 13: of a lent trail and of state bytes. Assumes nothing.
use mathlib.Core.Path.{◌≡◌, refl, ◌∙◌}
use mathlib.Core.Bool.{Bool, true, false, not}
use mathlib.Core.List.{List, ◌++◌}
use Prim.Native.Nat.{ℕ, ◌≤◌}
use lib.Dec.{eqb}
use lib.ListN.{length, take}
use borrow.Author.Tests.{ltb-false, not-false}
use Rattle.std.specs.Prelude.{Some, None}
use Rattle.plant.specs.declared.Plant.{Plant}
use Rattle.plan.specs.Plan.{trail_of}
use Rattle.trail.specs.Filled.{Tells}
use Rattle.trail.proofs.Filled.{same-is, front-is, begins-own}
use Rattle.judging.specs.Conditions.{trail_differs, hops_differ, states_short}

-- no refusal 13: there is a byte for each link
pub states-enough : (e : ℕ) (states : List ℕ) → states_short e states ≡ false → e ≤ length states
unfolding states_short
states-enough e states f = ltb-false (length states) e f

-- refusal 12: the lent trail begins with other hops than the plant's, or has another length
pub hops_differ_lem : (p : Plant) (w : List ℕ) → Tells w (trail_of p) None → true ≡ trail_differs p w
unfolding trail_differs
hops_differ_lem p w e = rw e

pub length_differs : (p : Plant) (w : List ℕ) (hops : ℕ) (r : Bool) → Tells w (trail_of p) (Some hops) → r ≡ not (eqb (length w) hops) → r ≡ trail_differs p w
unfolding trail_differs
length_differs p w hops r e f = f ∙ rw (e.0, e.1)

-- no refusal 12: the lent trail is the plant's
pub trail-same : (p : Plant) (w : List ℕ) → trail_differs p w ≡ false → w ≡ trail_of p
unfolding trail_differs
trail-same p w f = (same-is w (trail_of p)).0 (not-false _ f)

pub trail-own : (p : Plant) → trail_differs p (trail_of p) ≡ false
unfolding trail_differs
trail-own p = rw ((same-is (trail_of p) (trail_of p)).1 refl) refl

-- ---- 12 by the hops alone: what a comparison tells of a lent trail

module _ (w lent : List ℕ) where
  pub hops_other : Tells lent w None → hops_differ w lent ≡ true
  unfolding hops_differ
  hops_other e = rw e refl

  module _ (n : ℕ) (e : Tells lent w (Some n)) where
    pub hops-same : hops_differ w lent ≡ false
    unfolding hops_differ
    hops-same = rw e.0 refl

  pub hops-begin : hops_differ w lent ≡ false → take (length w) lent ≡ w
  unfolding hops_differ
  hops-begin f = front-is lent w (not-false _ f)

-- a lent trail that has w at its front
pub hops-own : (w spare : List ℕ) → hops_differ w (w ++ spare) ≡ false
unfolding hops_differ
hops-own w spare = rw (begins-own w spare) refl
