-- The desk: its four consoles, the console of a number, and what a call leaves of the desk. Assumes nothing.
use Rattle.std.specs.Prelude.{[], ◌∷◌, map, ℕ, eqb, min, get_or, replicate}
use Rattle.lists.specs.Tests.{choose}
use Rattle.answers.specs.Answers.{Answer}
use Rattle.answers.specs.Checks.{leaves}
use Rattle.desk.specs.declared.Console.{Console}
use Rattle.desk.specs.declared.Desk.{Desk}
use Rattle.desk.specs.Console.{idle}

-- "a fresh desk has empty sets and no search"
unfoldable pub fresh_desk : Desk
fresh_desk = record { consoles = replicate 4 idle }

-- console k, for k from 0 to 3; of a greater number the last one
unfoldable pub console_of : Desk → ℕ → Console
console_of d k = get_or d.consoles (min k 3) idle

-- the desk with console k put in its place, and the other three as they are
unfoldable pub with_console : Desk → ℕ → Console → Desk
with_console d k c = record { consoles = map (λ j. choose (eqb j (min k 3)) c (console_of d j)) (0 ∷ 1 ∷ 2 ∷ 3 ∷ []) }

-- the desk after a call of console k that answers this: a result is the console as it then stands; a refusal leaves the desk as it was
abbrev pub desk_after : Desk → ℕ → Answer Console → Desk
desk_after d k a = leaves (with_console d k) d a
