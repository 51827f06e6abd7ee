-- Inner: how many bytes a page takes at most, as the code makes room for them. No promise of a call needs it. Assumes nothing.
use Rattle.std.specs.Prelude.{ℕ, ◌+◌, ◌*◌}
use Rattle.limits.specs.Limits.{max_switches, max_rules}
use Rattle.text.specs.Sizes.{summary_most, rule_most, trails_most}

-- the most bytes of a page with so many hops: a line of numbers, and as many rules and trails as there can be
abbrev pub page_room : ℕ → ℕ
page_room hops = summary_most + max_rules * rule_most + trails_most max_switches hops
