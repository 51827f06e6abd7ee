-- The most probes that a search takes: none for no links, else one for the full check and the allowance. Assumes nothing.
use Rattle.std.specs.Prelude.{ℕ, ◌+◌, eqb}
use Rattle.lists.specs.Tests.{choose}
use Rattle.allowance.specs.Allowance.{allowance}

unfoldable pub limit : ℕ → ℕ
limit e = choose (eqb e 0) 0 (1 + allowance e)
