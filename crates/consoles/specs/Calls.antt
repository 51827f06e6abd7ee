-- The calls on a desk of four consoles (document 02, orders 8 and 9): what each tries, in which order, what it answers, and the desk after
-- it. Of the desk a call knows its own console's set and search alone.
use Rattle.std.specs.Prelude.{Bool, List, [], ◌∷◌, ℕ, ltb}
use Rattle.answers.specs.Checks.{Checked, check, answer, ◌then◌, ◌giving◌}
use Rattle.listing.specs.Listing.{reading}
use Rattle.walks.specs.Components.{links_with}
use Rattle.search.specs.declared.Outcome.{Outcome}
use Rattle.desk.specs.declared.Console.{Console}
use Rattle.desk.specs.declared.Desk.{Desk}
use Rattle.desk.specs.Console.{held_at, replacing, starting, telling}
use Rattle.desk.specs.Desk.{console_of, desk_after}

-- 19: "console above 3, tried before every listing refusal"
unfoldable pub console_out_of_range : ℕ → Bool
console_out_of_range k = ltb 3 k

-- 19, then 1 to 8, then S of the listing's plant, and E for the switch x: the links in service of its component
unfoldable pub sizing : ℕ → List ℕ → ℕ → Checked (ℕ × ℕ)
sizing k s x = check ((19, console_out_of_range k) ∷ []) s then λ t. reading t giving λ p. (p.switches, links_with p x)

-- what a console asks for: a new set, a search from a switch, or that an outcome (document 01: a fate) be given to its search
pub data Request : Type 0 where
  new_set : ℕ → Request
  start : ℕ → Request
  outcome : Outcome → Request

-- the switch that a call goes by: that of a start, or that of the search which an outcome is given to; a new set goes by none
abbrev pub switch_of : Request → Console → ℕ
switch_of (new_set set) c = 0
switch_of (start x) c = x
switch_of (outcome o) c = held_at c.search

-- what its console tries and does, for S and E
abbrev pub asking : ℕ → ℕ → Request → Console → Checked Console
asking s e (new_set set) c = replacing s set c
asking s e (start x) c = starting s e x c
asking s e (outcome o) c = telling s e o c

-- a call of console k with the listing s, by that console's set and search
unfoldable pub calling : ℕ → List ℕ → Request → Console → Checked Console
calling k s r c = sizing k s (switch_of r c) then λ z. asking z.0 z.1 r c

-- on a desk: what is answered is the console's set and search as they then stand
abbrev pub serving : Desk → ℕ → List ℕ → Request → Checked Console
serving d k s r = calling k s r (console_of d k)

-- and the desk after it
unfoldable pub served : Desk → ℕ → List ℕ → Request → Desk
served d k s r = desk_after d k (answer (serving d k s r))
