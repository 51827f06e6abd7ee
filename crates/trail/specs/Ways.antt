-- Inner: ways and the trail as inner functions go them. What no code along them reads, the flags of the arcs in use and along a way the tails of the arcs, is no parameter: a
-- promise holds for any such arcs whose plan the arrays are. No promise of a call needs it. Assumes nothing.
use Rattle.std.specs.Prelude.{◌≡◌, Bool, true, false, List, ℕ, ◌+◌, ◌≤◌, length, drop, Option, Some, None}
use Rattle.std.proofs.lemmas.List.Edits.{sets}
use Rattle.arcs.specs.declared.Net.{Net}
use Rattle.arcs.specs.declared.Network.{Network}
use Rattle.arcs.specs.Table.{trail_in}
use Rattle.arcs.specs.Parts.{Parts}
use Rattle.arcs.specs.Legs.{route_in, hop_in, Joined, LegsOf}
use Rattle.trail.specs.Filled.{begins_with}

-- the arrays are those of a plan, and over its arcs in use a way leads from u to v, switches of its part
pub record Way (net : Net) (heads first after : List ℕ) (t : List (List ℕ)) (u v : ℕ) : Type 0 where
  pub tails : List ℕ
  pub used : List Bool
  pub parts : Parts net tails heads used first after t
  pub joined : Joined net tails heads used parts.part u v

module _ {net : Net} {heads first after : List ℕ} {t : List (List ℕ)} {u v : ℕ} (w : Way net heads first after t u v) where
  -- the first hop of that way, and the whole
  abbrev pub hop_by : ℕ
  hop_by = hop_in net w.tails heads w.used u v

  abbrev pub route_by : List ℕ
  route_by = route_in net w.tails heads w.used u v

-- what is told of its next hop: which it is, or that the way is at its end
abbrev pub NextHop : {net : Net} {heads first after : List ℕ} {t : List (List ℕ)} {u v : ℕ} → Way net heads first after t u v → Option ℕ → Type 0
NextHop {u = u} {v = v} w (Some a) = (u ≡ v → ⊥) × (a ≡ hop_by w)
NextHop {u = u} {v = v} w None = u ≡ v

-- the arrays are those of a plan, and the legs are those of its trail
pub record Trailing (net : Net) (tails heads first after : List ℕ) (t : List (List ℕ)) (legs : List ℕ) : Type 0 where
  pub used : List Bool
  pub parts : Parts net tails heads used first after t
  pub legs_are : LegsOf net tails heads used legs

-- that trail
abbrev pub trail_by : {net : Net} {tails heads first after : List ℕ} {t : List (List ℕ)} {legs : List ℕ} → Trailing net tails heads first after t legs → List ℕ
trail_by {net} {tails} {heads} w = trail_in net tails heads w.used

-- and from place `from` on, of `room` places, there is one for each of its hops
pub record Fitting (net : Net) (tails heads first after : List ℕ) (t : List (List ℕ)) (legs : List ℕ) (from room : ℕ) : Type 0 where
  pub trailing : Trailing net tails heads first after t legs
  pub fits : from + length (trail_by trailing) ≤ room

-- the same of the arrays that a network lends
abbrev pub WayOf : Network → ℕ → ℕ → Type 0
WayOf x u v = Way x.net x.heads.now x.chains.now.first x.chains.now.after x.hops.now u v

abbrev pub TrailingOf : Network → List ℕ → Type 0
TrailingOf x legs = Trailing x.net x.tails.now x.heads.now x.chains.now.first x.chains.now.after x.hops.now legs

abbrev pub FittingOf : Network → List ℕ → ℕ → ℕ → Type 0
FittingOf x legs from room = Fitting x.net x.tails.now x.heads.now x.chains.now.first x.chains.now.after x.hops.now legs from room

-- the list w is laid into the list b from place i on, which makes b', and j is the place after it
pub record Laid (w b : List ℕ) (i : ℕ) (b' : List ℕ) (j : ℕ) : Type 0 where
  pub makes : b' ≡ sets b i w
  pub after : j ≡ i + length w

-- what is told of a list from place i on: that it begins with w there, and the place after it, or that it does not
abbrev pub TellsFrom : ℕ → List ℕ → List ℕ → Option ℕ → Type 0
TellsFrom i l w (Some n) = (begins_with (drop i l) w ≡ true) × (n ≡ i + length w)
TellsFrom i l w None = begins_with (drop i l) w ≡ false
