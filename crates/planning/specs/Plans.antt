-- Inner: what the parts of a plan are: each is what the definitions say of the plant, over all its components. A plan says it of its fields. Assumes nothing.
use Rattle.std.specs.Prelude.{◌≡◌, Bool, List, map, ℕ, ◌*◌, ◌<◌, length, get_or}
use Rattle.lists.specs.Arrays.{flag, at}
use Rattle.lists.specs.Members.{In}
use Rattle.lists.specs.Numbers.{range}
use Rattle.plant.specs.declared.Plant.{Plant}
use Rattle.limits.specs.Limits.{max_links}
use Rattle.walks.specs.Graph.{bridge, used_from, links_from}
use Rattle.walks.specs.Components.{roots, component_of, used}
use Rattle.walks.specs.Round.{round_from}
use Rattle.routes.specs.Plants.{trail_from}
use Rattle.plan.specs.Plan.{trail_of}
use Rattle.arcs.specs.declared.AllLegs.{AllLegs}
use Rattle.arcs.specs.declared.Net.{Net}
use Rattle.arcs.specs.declared.Legs.{Legs}
use Rattle.arcs.specs.declared.ArcEnds.{ArcEnds}
use Rattle.arcs.specs.declared.Chains.{Chains}
use Rattle.arcs.specs.declared.Network.{Network}
use Rattle.arcs.specs.Chains.{Chained}
use Rattle.arcs.specs.Table.{distances_in}
use Rattle.arcs.specs.Parts.{Parts}
use Rattle.arcs.specs.Flags.{Flags}
use Rattle.arcs.specs.Legs.{no_legs, LegsOf, LegsIn}
use Rattle.planning.specs.declared.Components.{Components}
use Rattle.planning.specs.Components.{components_of}

-- the network of a plant from the root r, and flags of its arcs in use from there, which no code holds
abbrev pub net_of : Plant → ℕ → Net
net_of p r = record { switches = p.switches; labels = 2 * p.count; root = r }

unfoldable pub used_flags : Plant → ℕ → List Bool
used_flags p r = map (used_from p r) (range 0 (2 * max_links))

-- the trail and the round trail of component i
abbrev pub trail_at : Plant → ℕ → List ℕ
trail_at p i = trail_from p (get_or (roots p) i 0)

abbrev pub round_at : Plant → ℕ → List ℕ
round_at p i = round_from p (get_or (roots p) i 0)

-- of each component by its number, what is kept by it: its links in service, the hops of its trail, and the legs of its trail
abbrev pub LinksBy : Plant → List ℕ → Type 0
LinksBy p links = (i : ℕ) → i < length (roots p) → at links i ≡ links_from p (get_or (roots p) i 0)

abbrev pub HopsBy : Plant → List Legs → Type 0
HopsBy p list = (i : ℕ) → i < length (roots p) → (get_or list i no_legs).hops ≡ length (trail_at p i)

abbrev pub LegsBy : ArcEnds → AllLegs → Type 0
LegsBy ends legs =
    (i : ℕ) → i < length (roots ends.plant)
    → let r = get_or (roots ends.plant) i 0 in LegsIn (net_of ends.plant r) ends.tails ends.heads (used_flags ends.plant r) legs.aims (get_or legs.list i no_legs)

-- from each root, with the chains and the table of distances t they are what a trail is laid by. Of which switches these tell, and that arcs in use join them, is data, of which a
-- plan keeps no more than that there is some
abbrev pub TablesBy : ArcEnds → Chains → List (List ℕ) → Type 0
TablesBy ends chains t =
    (r : ℕ) → In r (roots ends.plant) → ∥ Parts (net_of ends.plant r) ends.tails ends.heads (used_flags ends.plant r) chains.first chains.after t ∥₁

-- the chains are those of the flagged arcs, and the table t has the fewest hops over these between every two switches
pub record NetworkOf (flags : List Bool) (ends : ArcEnds) (chains : Chains) (t : List (List ℕ)) : Type 0 where
  pub chained : Chained (2 * ends.plant.count) (at ends.tails) (flag flags) chains.first chains.after
  pub hops_are : t ≡ distances_in (net_of ends.plant ends.plant.start) ends.tails ends.heads flags

-- the component of each switch
abbrev pub HomesAre : Plant → List ℕ → Type 0
HomesAre p home = (y : ℕ) → y < p.switches → at home y ≡ component_of p y

-- these are the components of the plant, its bridges and its arcs in use
pub record Charted (p : Plant) (count : ℕ) (numbers home : List ℕ) (bridges arcs : List Bool) : Type 0 where
  pub count_is : count ≡ length (roots p)
  pub roots_are : (i : ℕ) → i < length (roots p) → at numbers i ≡ get_or (roots p) i 0
  pub homes : HomesAre p home
  pub bridges_are : Flags max_links (bridge p) bridges
  pub used_are : Flags (2 * max_links) (used p) arcs

-- these are the components with their hops, and the hops of all
pub record Measured (p : Plant) (components : Components) (hops : ℕ) : Type 0 where
  pub components_are : components ≡ components_of p
  pub hops_are : hops ≡ length (trail_of p)

-- of component i, the network that its trail is laid by, by reference to these parts; and the arcs are the legs of its trail
pub record NetworkAt (ends : ArcEnds) (chains : Chains) (t : List (List ℕ)) (i : ℕ) (n : Network) : Type 0 where
  pub net_is : n.net ≡ net_of ends.plant (get_or (roots ends.plant) i 0)
  pub tails_are : n.tails.now ≡ ends.tails
  pub heads_are : n.heads.now ≡ ends.heads
  pub chains_are : n.chains.now ≡ chains
  pub hops_are : n.hops.now ≡ t

abbrev pub LegsAt : ArcEnds → ℕ → List ℕ → Type 0
LegsAt ends i arcs = let r = get_or (roots ends.plant) i 0 in LegsOf (net_of ends.plant r) ends.tails ends.heads (used_flags ends.plant r) arcs
