-- The first broken link of an order (document 01, "Search": a link is broken if its state is down).
use Rattle.std.specs.Prelude.{◌≡◌, Bool, true, false, List, ℕ, ◌≤◌, ◌<◌, length}
use Rattle.rings.specs.Order.{nth}

module _ (up : ℕ → Bool) (ls : List ℕ) where
  -- the link at place k is down, and all before it are up
  pub record FirstDown (k : ℕ) : Type 0 where
    pub from_one : 1 ≤ k
    pub to_last : k ≤ length ls
    pub down : up (nth ls k) ≡ false
    pub before : (j : ℕ) → 1 ≤ j → j < k → up (nth ls j) ≡ true
