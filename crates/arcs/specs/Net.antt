-- Inner: the ends of the arcs as arrays, and a network: so many switches, labels below some number, and a root. Assumes nothing.
use Rattle.std.specs.Prelude.{◌≡◌, Bool, List, ℕ, ◌*◌, ◌/◌, ◌≤◌, ◌<◌, T, length}
use Rattle.lists.specs.Arrays.{flag, at}
use Rattle.plant.specs.declared.Plant.{Plant}
use Rattle.plant.specs.Links.{live}
use Rattle.limits.specs.Limits.{max_switches, max_links}
use Rattle.walks.specs.Arcs.{tail, head}
use Rattle.arcs.specs.declared.Net.{Net}

-- a network from another root
abbrev pub rooted : Net → ℕ → Net
rooted net r = record { switches = net.switches; labels = net.labels; root = r }

-- the arrays hold the tails and the heads of the plant's arcs
pub record Ends (p : Plant) (tails heads : List ℕ) : Type 0 where
  pub tails_are : at tails ≡ tail p
  pub heads_are : at heads ≡ head p

-- there is a place for each label, and the flags tell the arcs, those whose links are in service
pub record AllArcs (p : Plant) (flags : List Bool) : Type 0 where
  pub places : length flags ≡ 2 * max_links
  pub tells : (a : ℕ) → flag flags a ≡ live p (a / 2)

-- the network keeps the limits, and the arcs that are flagged join switches of it
pub record Within (net : Net) (tails heads : List ℕ) (flags : List Bool) : Type 0 where
  pub few_switches : net.switches ≤ max_switches
  pub few_labels : net.labels ≤ 2 * max_links
  pub root_in : net.root < net.switches
  pub tail_in : (a : ℕ) → a < net.labels → T (flag flags a) → at tails a < net.switches
  pub head_in : (a : ℕ) → a < net.labels → T (flag flags a) → at heads a < net.switches
