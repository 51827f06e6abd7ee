-- Inner: the first arc of each switch that a walk from the root reaches, as the table tells. No promise of a call needs it. Assumes nothing.
use Rattle.std.specs.Prelude.{◌≡◌, List, ℕ, ◌<◌, ltb, length}
use Rattle.lists.specs.Arrays.{at}
use Rattle.lists.specs.Tests.{choose}
use Rattle.limits.specs.Limits.{max_switches}
use Rattle.arcs.specs.Table.{cell}

-- S switches, the labels below n, a root, the first arcs, and a table of distances
module _ (S n root : ℕ) (first : List ℕ) (t : List (List ℕ)) where
  -- the first arc of switch x where a walk leads there from the root; else none
  unfoldable pub first_of : ℕ → ℕ
  first_of x = choose (ltb (cell t root x) S) (at first x) n

  -- the switches below y have theirs
  pub record Firsts (y : ℕ) (low : List ℕ) : Type 0 where
    pub long : length low ≡ max_switches
    pub done : (x : ℕ) → x < y → at low x ≡ first_of x
