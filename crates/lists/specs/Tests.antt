-- A choice by a test. Its laws are in proofs/.
use Rattle.std.specs.Prelude.{Bool, true, false}

-- the one or the other, by a test
abbrev pub choose : {A : Type 0} → Bool → A → A → A
choose true x y = x
choose false x y = y
