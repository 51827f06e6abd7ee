-- Inner: the table of distances on the way, as inner functions make it. No promise of a call needs it.
use Rattle.std.specs.Prelude.{◌≡◌, Bool, true, List, [], ℕ, ◌+◌, ◌≤◌, ◌<◌, T, length, get_or, set, min}
use Rattle.lists.specs.Arrays.{flag, at}
use Rattle.limits.specs.Limits.{max_switches}
use Rattle.routes.specs.Distance.{dist}
use Rattle.arcs.specs.Table.{cell, Shape}

-- of a list, each member below i has become what R says of its place and of what it was, and the others are as they were
pub record Turned {A : Type 0} (z : A) (R : ℕ → A → A → Type 0) (old : List A) (i : ℕ) (new : List A) : Type 0 where
  pub long : length new ≡ length old
  pub done : (j : ℕ) → j < i → R j (get_or old j z) (get_or new j z)
  pub left : (j : ℕ) → i ≤ j → get_or new j z ≡ get_or old j z

-- ---- before any switch is a way

-- no hops are fewer than the distance or more than the switches, and for the arcs in use below a they are at most 1
pub record Near (S n : ℕ) (tl hd : ℕ → ℕ) (ok : ℕ → Bool) (a : ℕ) (t : List (List ℕ)) : Type 0 where
  pub shape : Shape t
  pub above : (u v : ℕ) → u < max_switches → v < max_switches → dist S n tl hd ok u v ≤ cell t u v
  pub top : (u v : ℕ) → u < max_switches → v < max_switches → cell t u v ≤ S
  pub arcs : (b : ℕ) → b < a → T (ok b) → cell t (tl b) (hd b) ≤ 1

-- there is a flag for each switch that there can be, and those that arcs in use below a leave have theirs set
pub record Left (tl : ℕ → ℕ) (ok : ℕ → Bool) (a : ℕ) (flags : List Bool) : Type 0 where
  pub places : length flags ≡ max_switches
  pub told : (b : ℕ) → b < a → T (ok b) → flag flags (tl b) ≡ true

-- the switches below i are 0 hops from themselves
abbrev pub Zeroed : List (List ℕ) → ℕ → List (List ℕ) → Type 0
Zeroed t i r = Turned [] (λ u row new. new ≡ set row u 0) t i r

-- ---- by way of one switch

-- no hops in a row are more than there can be switches
abbrev pub FewInRow : List ℕ → Type 0
FewInRow row = (j : ℕ) → j < max_switches → at row j ≤ max_switches

-- a table has a row for each switch that there can be, and in no row more hops than S
pub record FewHops (S : ℕ) (t : List (List ℕ)) : Type 0 where
  pub rows : length t ≡ max_switches
  pub few : (i j : ℕ) → i < max_switches → j < max_switches → cell t i j ≤ S

-- to the switches below j, the hops of a row or d hops to another switch and on from there by its row, whichever are fewer
abbrev pub ByWay : List ℕ → List ℕ → ℕ → ℕ → List ℕ → Type 0
ByWay row on d j r = Turned 0 (λ v h new. new ≡ min h (d + at on v)) row j r

-- the rows below i are by way of switch k
abbrev pub Through : ℕ → List (List ℕ) → ℕ → List (List ℕ) → Type 0
Through k t i r = Turned [] (λ u row new. ByWay row (get_or t k []) (at row k) max_switches new) t i r
