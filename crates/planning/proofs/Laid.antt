-- The network of each component and the legs of its trail, by the shared arrays. Assumes nothing.
use Prim.Native.Nat.{ℕ, ◌<◌}
use lib.ListN.{length, get_or}
use Rattle.walks.specs.Components.{roots}
use Rattle.arcs.specs.declared.ArcEnds.{ArcEnds}
use Rattle.arcs.specs.declared.Network.{Network}
use Rattle.arcs.specs.Parts as network
use Rattle.arcs.specs.Legs.{no_legs, LegsIn}
use Rattle.planning.specs.declared.Plan.{Plan}
use Rattle.planning.specs.Plans.{net_of, used_flags, NetworkAt}
use Rattle.planning.proofs.Charts.{listed, root_below}
use Rattle.planning.proofs.Networks.{parts_of}

-- the network of component i, which is that of the plant from its root
module _ (x : Plan) (i : ℕ) (i_in : i < length (roots x.layout.chart.ends.plant)) where
  abbrev e : ArcEnds
  e = x.layout.chart.ends

  abbrev r : ℕ
  r = get_or (roots e.plant) i 0

  own_parts : network.Parts (net_of e.plant r) e.tails e.heads (used_flags e.plant r) x.chains.first x.chains.after x.distances
  own_parts = parts_of e.plant e.sound e.tails e.heads e.ends r (root_below e.plant e.sound i i_in) (x.tables r (listed e.plant e.sound i i_in))

  pub net_parts : (n : Network) → NetworkAt e x.chains x.distances i n
      → network.Parts n.net n.tails.now n.heads.now (used_flags e.plant r) n.chains.now.first n.chains.now.after n.hops.now
  net_parts n own = rw (own.net_is, own.tails_are, own.heads_are, own.chains_are, own.hops_are) own_parts

  pub net_legs : LegsIn (net_of e.plant r) e.tails e.heads (used_flags e.plant r) x.legs.aims (get_or x.legs.list i no_legs)
  net_legs = x.legs_are i i_in
