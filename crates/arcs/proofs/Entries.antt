-- What a caller reads in the table of distances: each entry is the distance over the arcs in use, and so the fewest hops of a walk over them, as document 01 says.
-- The last assumes that the arcs in use join switches of the network.
use mathlib.Core.Path.{◌≡◌, sym, ap, ◌∙◌, subst}
use mathlib.Core.Bool.{Bool}
use mathlib.Core.List.{List}
use Prim.Native.Nat.{ℕ, ◌<◌}
use native.Mathlib.Omega.{arith}
use Rattle.lists.specs.Arrays.{flag, at}
use Rattle.limits.specs.Limits.{max_switches}
use Rattle.routes.specs.Meaning.{Fewest}
use Rattle.routes.proofs.Fewest.{dist-fewest}
use Rattle.arcs.specs.declared.Net.{Net}
use Rattle.arcs.specs.Net.{Within}
use Rattle.arcs.specs.Table.{cell, distance_in, distances_in}
use Rattle.arcs.proofs.Tables.{grid_holds}

module _ (net : Net) (tails heads : List ℕ) (used : List Bool) (t : List (List ℕ)) (right : t ≡ distances_in net tails heads used) (u v : ℕ) where
  pub entry : u < max_switches → v < max_switches → cell t u v ≡ distance_in net tails heads used u v
  entry h i = ap (λ (s : List (List ℕ)). cell s u v) right ∙ (grid_holds (distance_in net tails heads used)).cells u v h i

  pub entry_fewest : Within net tails heads used → u < net.switches → v < net.switches
      → Fewest net.switches net.labels (at tails) (at heads) (flag used) u v (cell t u v)
  entry_fewest w h i =
      subst (Fewest net.switches net.labels (at tails) (at heads) (flag used) u v) (sym (entry (omega (arith, w.few_switches)) (omega (arith, w.few_switches))))
      (dist-fewest net.switches net.labels (at tails) (at heads) (flag used) w.tail_in u v h i)
