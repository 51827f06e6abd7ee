-- Inner: the table of distances of a network by value, a list of lists: document 01, "A table holds the fewest hops over arcs in use between every two switches". Where there is no
-- walk it holds the number of switches. And the trail of a network, by document 01's words. Assumes nothing.
use Rattle.std.specs.Prelude.{◌≡◌, Bool, List, [], map, ℕ, ◌<◌, length, get_or}
use Rattle.lists.specs.Arrays.{flag, at}
use Rattle.lists.specs.Numbers.{range}
use Rattle.limits.specs.Limits.{max_switches}
use Rattle.routes.specs.Distance.{dist}
use Rattle.routes.specs.Trail.{trail}
use Rattle.arcs.specs.declared.Net.{Net}

-- what stands in row i at place j
abbrev pub cell : List (List ℕ) → ℕ → ℕ → ℕ
cell t i j = get_or (get_or t i []) j 0

-- there is a row for each switch that there can be, and in it a place for each
pub record Shape (t : List (List ℕ)) : Type 0 where
  pub long : length t ≡ max_switches
  pub wide : (i : ℕ) → i < max_switches → length (get_or t i []) ≡ max_switches

-- the table that holds f u v in row u at place v
unfoldable pub grid : (ℕ → ℕ → ℕ) → List (List ℕ)
grid f = map (λ u. map (f u) (range 0 max_switches)) (range 0 max_switches)

-- a network, the tails and heads of its arcs, and flags of those in use
module _ (net : Net) (tails heads : List ℕ) (used : List Bool) where
  -- the fewest hops from u to v over the arcs in use; the number of switches if there is no walk
  abbrev pub distance_in : ℕ → ℕ → ℕ
  distance_in u v = dist net.switches net.labels (at tails) (at heads) (flag used) u v

  -- the table of all distances
  abbrev pub distances_in : List (List ℕ)
  distances_in = grid distance_in

  -- the trail from the root
  abbrev pub trail_in : List ℕ
  trail_in = trail net.switches net.labels (at tails) (at heads) (flag used) net.root
