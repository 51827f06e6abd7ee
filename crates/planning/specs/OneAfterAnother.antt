-- Inner: lists one after another, each by its number: what a function that lays or compares one of them does, and may ask. Assumes nothing.
use Rattle.std.specs.Prelude.{◌≡◌, List, map, ℕ, ◌+◌, ◌≤◌, ◌<◌, length, get_or, Option}
use mathlib.Core.List.{flatten}
use Rattle.std.specs.Borrow.{MutBor}
use Rattle.trail.specs.Ways.{Laid, TellsFrom}

-- there are n lists, each of a number, and room for all; what `may` asks for list i is no more than that there is room for it from a place on, and what `lays` tells is that it is
-- laid there
pub record LaysEach (may : ℕ → ℕ → MutBor (List ℕ) → Type 0) (lays : ℕ → ℕ → MutBor (List ℕ) → ℕ → MutBor (List ℕ) → Type 0) (n room : ℕ) : Type 0 where
  pub list : ℕ → List ℕ
  pub numbers : List ℕ
  pub count_is : n ≡ length numbers
  pub fits : length (flatten (map list numbers)) ≤ room
  pub may_lay : (i from : ℕ) (b : MutBor (List ℕ)) → i < length numbers → from + length (list (get_or numbers i 0)) ≤ length b.now → may i from b
  pub laid : (i from : ℕ) (b : MutBor (List ℕ)) (j : ℕ) (c : MutBor (List ℕ)) → i < length numbers → lays i from b j c → Laid (list (get_or numbers i 0)) b.now from c.now j

-- what `tells` has of list i from a place on is what is told of a lent list there; n lists, each of a number
pub record TellsEach (tells : ℕ → ℕ → Option ℕ → Type 0) (n : ℕ) : Type 0 where
  pub lent : List ℕ
  pub list : ℕ → List ℕ
  pub numbers : List ℕ
  pub count_is : n ≡ length numbers
  pub told : (i from : ℕ) (r : Option ℕ) → i < length numbers → tells i from r → TellsFrom from lent (list (get_or numbers i 0)) r
