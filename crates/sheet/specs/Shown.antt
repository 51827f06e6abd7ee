-- The counts that a buying page can hold (document 02, order 3): every one that is written or read is of such counts.
use Rattle.std.specs.Prelude.{◌≡◌, ℕ, ◌≤◌, ◌<◌, length}
use Rattle.lists.specs.Arrays.{at}
use Rattle.lists.specs.Sum.{sum}
use Rattle.limits.specs.Limits.{max_switches}
use Rattle.sheet.specs.declared.Sheet.{Sheet}

-- "numbers of one to three digits"
pub record ThreeDigits (s : Sheet) : Type 0 where
  pub rules : (x : ℕ) → x < s.switches → at s.rules x < 1000
  pub links : (x : ℕ) → x < s.switches → at s.links x < 1000
  pub total : s.total < 1000
  pub quantity : s.quantity < 1000

-- the rules and the links of one switch at least, zeros past the switches, and "rules that add up to the total"
pub record Shown (s : Sheet) : Type 0 where
  pub some : 1 ≤ s.switches
  pub few : s.switches ≤ max_switches
  pub rules_places : length s.rules ≡ max_switches
  pub links_places : length s.links ≡ max_switches
  pub rules_past : (x : ℕ) → s.switches ≤ x → at s.rules x ≡ 0
  pub links_past : (x : ℕ) → s.switches ≤ x → at s.links x ≡ 0
  pub digits : ThreeDigits s
  pub adds_up : sum s.switches (at s.rules) ≡ s.total
