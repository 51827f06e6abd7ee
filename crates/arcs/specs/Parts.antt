-- Inner: what the parts of a plan are: a network with the ends of its arcs, flags of the arcs in use, their chains, and the table of distances over them. Functions that lay or
-- compare the trail ask for it. Assumes nothing.
use Rattle.std.specs.Prelude.{◌≡◌, Bool, List, ℕ, suc, ◌≤◌, ◌<◌, T}
use Rattle.lists.specs.Arrays.{flag, at}
use Rattle.lists.specs.Count.{count}
use Rattle.limits.specs.Limits.{max_rules}
use Rattle.routes.specs.Meaning.{Strong}
use Rattle.arcs.specs.declared.Net.{Net}
use Rattle.arcs.specs.Net.{Within}
use Rattle.arcs.specs.Chains.{following}
use Rattle.arcs.specs.Table.{cell, distance_in}

pub record Parts (net : Net) (tails heads : List ℕ) (used : List Bool) (first after : List ℕ) (t : List (List ℕ)) : Type 0 where
  pub within : Within net tails heads used
  -- there is a place for a rule for each arc in use
  pub few_arcs : count net.labels (flag used) ≤ max_rules
  -- the arcs in use join the switches of a part, the root among them, and each of them leads to each other
  pub part : ℕ → Bool
  pub strong : Strong net.switches net.labels (at tails) (at heads) (flag used) net.root part
  -- the chains of the switches of the part and the distances between them, as the arrays tell them; what these tell of other switches nobody goes by
  pub firsts : (x : ℕ) → T (part x) → at first x ≡ following net.labels (at tails) (flag used) x 0
  pub afters : (a : ℕ) → a < net.labels → T (flag used a) → at after a ≡ following net.labels (at tails) (flag used) (at tails a) (suc a)
  pub cells : (u v : ℕ) → T (part u) → T (part v) → cell t u v ≡ distance_in net tails heads used u v
  -- the table tells which switches are outside: no walk leads there from the root
  pub apart : (v : ℕ) → v < net.switches → (T (part v) → ⊥) → net.switches ≤ cell t net.root v
