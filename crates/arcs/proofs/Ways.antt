-- Distances as they are read in the table, which assumes the limits and the table alone. From the parts of a plan: that the trail is within the limits, and that in the part there
-- is a way from each switch to each, with as many hops as the table says.
use mathlib.Core.Path.{◌≡◌, sym, ◌∙◌}
use mathlib.Core.Bool.{Bool}
use mathlib.Core.List.{List}
use Prim.Native.Nat.{ℕ, ◌≤◌, ◌<◌}
use native.Mathlib.Nat.{mul-le-mul_right}
use native.Mathlib.Omega.{arith}
use lib.Dec.{T}
use lib.ListN.{length}
use Rattle.lists.specs.Arrays.{flag, at}
use Rattle.lists.specs.Count.{count}
use Rattle.lists.proofs.Count.{count-all}
use Rattle.limits.specs.Limits.{max_switches, max_hops}
use Rattle.routes.proofs.Distances.{route_length}
use Rattle.routes.proofs.Trails.{dist_lt, trail_tour}
use Rattle.arcs.specs.declared.Net.{Net}
use Rattle.arcs.specs.Net.{Within}
use Rattle.arcs.specs.Table.{cell, distance_in, distances_in, trail_in}
use Rattle.arcs.specs.Parts.{Parts}
use Rattle.arcs.specs.Legs.{route_in, Joined}
use Rattle.arcs.proofs.Entries.{entry}

module _ {net : Net} {tails heads : List ℕ} {used : List Bool} {t : List (List ℕ)} (within : Within net tails heads used)
    (right : t ≡ distances_in net tails heads used) (u v : ℕ) (h : u < net.switches) (i : v < net.switches)
  where
    pub entry_in : cell t u v ≡ distance_in net tails heads used u v
    entry_in = entry net tails heads used t right u v (omega (arith, within.few_switches)) (omega (arith, within.few_switches))

module _ {net : Net} {tails heads : List ℕ} {used : List Bool} {first after : List ℕ} {t : List (List ℕ)} (p : Parts net tails heads used first after t) where
  pub parts-hops : length (trail_in net tails heads used) ≤ max_hops
  parts-hops =
      let few : count net.switches p.part ≤ max_switches = omega (arith, count-all net.switches p.part, p.within) in
      let tour = trail_tour net.switches net.labels (at tails) (at heads) (flag used) net.root p.part p.strong in
      omega (arith, tour.short, mul-le-mul_right (count net.labels (flag used)) few, few, p.few_arcs)

  -- in the part there is a way from each switch to each
  pub part-joined : (u v : ℕ) → T (p.part u) → T (p.part v) → Joined net tails heads used p.part u v
  part-joined u v h i =
      let d = dist_lt net.switches net.labels (at tails) (at heads) (flag used) net.root p.part p.strong u v h i in
      record { from_part = h; to_part = i; from_in = p.strong.inside u h; to_in = p.strong.inside v i; reached = omega (arith, d, count-all net.switches p.part) }

  -- it has as many hops as the table says
  pub way_size : {u v : ℕ} → Joined net tails heads used p.part u v → length (route_in net tails heads used u v) ≡ cell t u v
  way_size {u} {v} j =
      route_length net.switches net.labels (at tails) (at heads) (flag used) u v ∙ sym (p.cells u v j.from_part j.to_part)
