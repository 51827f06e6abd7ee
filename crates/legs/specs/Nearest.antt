-- Inner: the nearest uncrossed arc in use, where the lowest uncrossed label of each switch tells what is uncrossed. No promise of a call needs it. Assumes nothing.
use Rattle.std.specs.Prelude.{◌≡◌, ◌↔◌, Bool, List, ℕ, ◌*◌, ◌≤◌, ◌<◌, T, Option, Some, None}
use Rattle.lists.specs.Arrays.{at}
use Rattle.limits.specs.Limits.{max_switches, max_links}
use Rattle.routes.specs.Distance.{dist}
use Rattle.routes.specs.Trail.{uncrossed, nearest}
use Rattle.routes.specs.Meaning.{InUse}
use Rattle.arcs.specs.Table.{cell}

-- `low` has a label of an arc in use of each switch, or none, and the uncrossed arcs of that switch are those from it on
pub record Lows (S n : ℕ) (tl : ℕ → ℕ) (ok : ℕ → Bool) (low : ℕ → ℕ) (m : ℕ → Bool) : Type 0 where
  pub labels : (x : ℕ) → x < S → low x < n → T (ok (low x)) × (tl (low x) ≡ x)
  pub left : (b : ℕ) → InUse n ok b → T (uncrossed ok m b) ↔ (low (tl b) ≤ b)

-- the labels below n of arcs that join the switches of a part, u among them, the arcs in use among these, and t, which tells the distances over them in the part; `low` has
-- labels of switches of the part alone
pub record Tabled (S n : ℕ) (t : List (List ℕ)) (low : List ℕ) (u : ℕ) : Type 0 where
  pub tl : ℕ → ℕ
  pub hd : ℕ → ℕ
  pub ok : ℕ → Bool
  pub few_switches : S ≤ max_switches
  pub few_labels : n ≤ 2 * max_links
  pub part : ℕ → Bool
  pub inside : (x : ℕ) → T (part x) → x < S
  pub tails : (a : ℕ) → a < n → T (ok a) → T (part (tl a))
  pub here : T (part u)
  pub leave : (y : ℕ) → y < S → at low y < n → T (part y)
  pub cells : (v : ℕ) → T (part v) → cell t u v ≡ dist S n tl hd ok u v

-- what is told of a label: that it is x, where x is a label below n; and that there is none, where x is not
abbrev pub Label : ℕ → ℕ → Option ℕ → Type 0
Label n x (Some a) = (a ≡ x) × (x < n)
Label n x None = n ≤ x

-- r tells the nearest to u of the uncrossed arcs in use, for any arcs whose distances t tells, and any crossed ones that `low` tells
abbrev pub NearestBy : (S n : ℕ) → List (List ℕ) → List ℕ → ℕ → Option ℕ → Type 0
NearestBy S n t low u r = (w : Tabled S n t low u) (m : ℕ → Bool) → Lows S n w.tl w.ok (at low) m → Label n (nearest S n w.tl w.hd w.ok m u) r
