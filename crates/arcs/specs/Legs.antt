-- Inner: ways over the arcs in use, and the legs of a trail by the arcs that they cross, as functions hand them on. No promise of a call needs it. Assumes nothing.
use Rattle.std.specs.Prelude.{◌≡◌, Bool, List, [], ◌∷◌, ◌++◌, ℕ, ◌≤◌, ◌<◌, T, length}
use Rattle.std.proofs.Math.Seq.{slice}
use Rattle.lists.specs.Arrays.{flag, at}
use Rattle.lists.specs.Members.{In}
use Rattle.limits.specs.Limits.{max_rules}
use Rattle.routes.specs.Distance.{hop, route}
use Rattle.routes.specs.Meaning.{InUse}
use Rattle.arcs.specs.declared.Net.{Net}
use Rattle.arcs.specs.declared.Legs.{Legs}
use Rattle.arcs.specs.Table.{distance_in, trail_in}

-- the legs of a trail with no hop
abbrev pub no_legs : Legs
no_legs = record { from = 0; to = 0; hops = 0 }

module _ (net : Net) (tails heads : List ℕ) (used : List Bool) where
  -- the way from u to v, hop by hop, and the first of these hops
  abbrev pub route_in : ℕ → ℕ → List ℕ
  route_in u v = route net.switches net.labels (at tails) (at heads) (flag used) u v

  abbrev pub hop_in : ℕ → ℕ → ℕ
  hop_in u v = hop net.switches net.labels (at tails) (at heads) (flag used) u v

  -- u and v are switches of a part, and a way leads from u to v
  pub record Joined (part : ℕ → Bool) (u v : ℕ) : Type 0 where
    pub from_part : T (part u)
    pub to_part : T (part v)
    pub from_in : u < net.switches
    pub to_in : v < net.switches
    pub reached : distance_in net tails heads used u v < net.switches

  -- from u to each of these arcs in turn and over it, and at the end to the root
  abbrev pub along : List ℕ → ℕ → List ℕ
  along [] u = route_in u net.root
  along (a ∷ aims) u = route_in u (at tails a) ++ a ∷ along aims (at heads a)

  -- the arcs that the legs cross are in use, and the trail goes along them
  pub record LegsOf (legs : List ℕ) : Type 0 where
    pub in_use : (a : ℕ) → In a legs → InUse net.labels (flag used) a
    pub goes : trail_in net tails heads used ≡ along legs net.root

  -- they stand in a list at their places, and the trail has so many hops
  pub record LegsIn (aims : List ℕ) (legs : Legs) : Type 0 where
    pub order : legs.from ≤ legs.to
    pub within : legs.to ≤ max_rules
    pub are : LegsOf (slice legs.from legs.to aims)
    pub hops_are : legs.hops ≡ length (trail_in net tails heads used)
