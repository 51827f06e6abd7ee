-- Before each turn n is the number that the digits before this one make.
use Rattle.std.proofs.Common.{◌≡◌, take}
use Rattle.text.specs.Decimal.{read_decimal}
use Rattle.columns.proofs.short_of.Given as goal

abbrev pub invariant-loop-b : goal.invariant-loop-b
invariant-loop-b l = l.n ≡ read_decimal (take l.b-index l.bytes)
