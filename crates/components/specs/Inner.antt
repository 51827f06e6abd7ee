-- Inner: what the visits from some roots have found, and what the inner functions of this crate keep. No promise of a call needs it. Assumes nothing.
use Rattle.std.specs.Prelude.{◌≡◌, false, List, ℕ, ◌<◌, T, length, get_or, Some, None}
use Rattle.lists.specs.Arrays.{flag, at}
use Rattle.lists.specs.Members.{In}
use Rattle.plant.specs.declared.Plant.{Plant}
use Rattle.plant.specs.Links.{first}
use Rattle.limits.specs.Limits.{max_switches}
use Rattle.walks.specs.Visit.{rank}
use Rattle.walks.specs.Graph.{visited_from, reached_from, entered_from}
use Rattle.components.specs.declared.Forest.{Forest}

module _ (p : Plant) (rs : List ℕ) where
  -- what is reached from r is reached from none of the list
  abbrev pub Apart : ℕ → Type 0
  Apart r = (s x : ℕ) → In s rs → T (reached_from p s x) → T (reached_from p r x) → ⊥

  -- no root of the list reaches x
  abbrev pub Outside : ℕ → Type 0
  Outside x = (r : ℕ) → In r rs → T (reached_from p r x) → ⊥

  -- f tells what is found from the roots of the list
  pub record Covers (f : Forest) : Type 0 where
    pub inside : (r : ℕ) → In r rs → r < p.switches
    pub count_is : f.count ≡ length rs
    pub roots_places : length f.roots ≡ max_switches
    pub roots_are : (i : ℕ) → i < length rs → at f.roots i ≡ get_or rs i 0
    -- each switch that is reached has the number of its component, and its own in the visit of that
    pub homes : (i x : ℕ) → i < length rs → T (reached_from p (get_or rs i 0) x) → get_or f.home x None ≡ Some i
    pub homeless : (x : ℕ) → x < max_switches → Outside x → get_or f.home x None ≡ None
    pub ranks : (r x : ℕ) → In r rs → T (reached_from p r x) → at f.rank x ≡ rank x (visited_from p r).ord
    -- the links at such switches that were entered, and no other link
    pub enters : (r l : ℕ) → In r rs → T (reached_from p r (first p l)) → flag f.entered l ≡ entered_from p r l
    pub unentered : (l : ℕ) → Outside (first p l) → flag f.entered l ≡ false
