-- The limits of document 01, "Plant and limits", as numbers. The number of each stands in one place, which the gate holds to be the only
-- one: a constant of the plant type, in crates/plant/src/lib.rt.
use Rattle.std.specs.Prelude.{ℕ, ◌+◌, ◌-◌}
use Rattle.plant.specs.declared.TheConstants.Plant.{MAX_SWITCHES, MAX_LINKS, MAX_HOPS}

-- the most switches that a plant can have: `Plant::MAX_SWITCHES`
abbrev pub max_switches : ℕ
max_switches = MAX_SWITCHES

-- the most links: `Plant::MAX_LINKS`
abbrev pub max_links : ℕ
max_links = MAX_LINKS

-- the most rules that a plant can have: its links and its bridges, of which there are fewer than switches; `Plant::MAX_RULES`
abbrev pub max_rules : ℕ
max_rules = max_links + max_switches - 1

-- the most hops that a trail can have: `Plant::MAX_HOPS`
abbrev pub max_hops : ℕ
max_hops = MAX_HOPS
