-- Inner: the legs of a trail, found into an array after those of other trails, and the legs of the trails of a network from several roots. Which arcs are in use no code that
-- finds the legs reads, so the flags of those are no parameter: a promise holds for any whose plan the arrays are. No promise of a call needs it. Assumes nothing.
use Rattle.std.specs.Prelude.{◌≡◌, Bool, List, ℕ, ◌+◌, ◌≤◌, ◌<◌, length, take, get_or}
use Rattle.lists.specs.Arrays.{flag, at}
use Rattle.lists.specs.Count as counted
use Rattle.lists.specs.Sum.{sum}
use Rattle.limits.specs.Limits.{max_switches, max_rules}
use Rattle.arcs.specs.declared.Net.{Net}
use Rattle.arcs.specs.declared.Legs.{Legs}
use Rattle.arcs.specs.declared.Network.{Network}
use Rattle.arcs.specs.Net.{rooted}
use Rattle.arcs.specs.Parts.{Parts}
use Rattle.arcs.specs.Legs.{no_legs, LegsIn}

-- how many arcs are in use
abbrev pub in_use : Net → List Bool → ℕ
in_use net used = counted.count net.labels (flag used)

-- the arrays are those of a plan, and from place `from` on there is one for each arc in use
pub record SomeParts (net : Net) (tails heads first after : List ℕ) (t : List (List ℕ)) (from : ℕ) : Type 0 where
  pub used : List Bool
  pub parts : Parts net tails heads used first after t
  pub room : from + in_use net used ≤ max_rules

-- the legs of the trail stand in the list b from place `from` on, at most one for each arc in use, and before that place b is as a is
pub record Added (net : Net) (tails heads : List ℕ) (used : List Bool) (a : List ℕ) (from : ℕ) (legs : Legs) (b : List ℕ) : Type 0 where
  pub begin : legs.from ≡ from
  pub few : legs.to ≤ from + in_use net used
  pub long : length b ≡ max_rules
  pub kept : take from b ≡ take from a
  pub legs_are : LegsIn net tails heads used b legs

-- the same of the arrays that a network lends
abbrev pub SomePartsOf : Network → ℕ → Type 0
SomePartsOf x from = SomeParts x.net x.tails.now x.heads.now x.chains.now.first x.chains.now.after x.hops.now from

abbrev pub AddedOf : Network → List Bool → List ℕ → ℕ → Legs → List ℕ → Type 0
AddedOf x used a from legs b = Added x.net x.tails.now x.heads.now used a from legs b

-- the arrays are those of a plan from each of several roots, and there is a place for each arc in use of all
pub record Several (net : Net) (tails heads first after : List ℕ) (t : List (List ℕ)) (roots : List ℕ) : Type 0 where
  pub used : ℕ → List Bool
  pub few : length roots ≤ max_switches
  pub parts : (i : ℕ) → i < length roots → Parts (rooted net (at roots i)) tails heads (used i) first after t
  pub room : sum (length roots) (λ i. in_use net (used i)) ≤ max_rules

-- the legs of the trails from these roots stand in the list `aims`, and `list` tells their places
abbrev pub LegsOfAll : Net → (tails heads roots : List ℕ) → (ℕ → List Bool) → List ℕ → List Legs → Type 0
LegsOfAll net tails heads roots used aims list = (i : ℕ) → i < length roots → LegsIn (rooted net (at roots i)) tails heads (used i) aims (get_or list i no_legs)
