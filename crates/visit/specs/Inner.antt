-- Inner: the depth-first visit by value, as the functions of this crate keep it. No promise of a call needs it.
use Rattle.std.specs.Prelude.{◌≡◌, Bool, true, false, not, List, ℕ, ◌+◌, ◌*◌, ◌/◌, ◌≤◌, ◌<◌, T, length, get_or, set, replicate}
use Rattle.lists.specs.Arrays.{flag, at}
use Rattle.lists.specs.Count.{count}
use Rattle.lists.specs.Numbers.{range, keep}
use Rattle.plant.specs.declared.Plant.{Plant}
use Rattle.plant.specs.Links.{live}
use Rattle.limits.specs.Limits.{max_switches, max_links}
use Rattle.walks.specs.Arcs.{tail}
use Rattle.walks.specs.Visit.{St}
use Rattle.walks.specs.Inner.{Scan}
use Rattle.arcs.specs.Chains.{Chained}
use Rattle.arcs.specs.declared.Visited.{Visited}
use Rattle.arcs.specs.Shows.{Shows}

-- the arrays have the heads of some arcs, each a switch that there can be, and the chains of the flagged ones; the tails and the flags no code of the visit reads
pub record SomeArcs (n : ℕ) (heads first after : List ℕ) : Type 0 where
  pub tl : ℕ → ℕ
  pub ok : ℕ → Bool
  pub heads_in : (a : ℕ) → a < n → T (ok a) → at heads a < max_switches
  pub chained : Chained n tl ok first after

-- the arrays have the chains of all arcs of a plant, those whose links are in service
abbrev pub AllChained : Plant → (first after : List ℕ) → Type 0
AllChained p first after = Chained (2 * p.count) (tail p) (λ a. live p (a / 2)) first after

-- how many switches are not visited
unfoldable pub unvisited : List Bool → ℕ
unvisited seen = count max_switches (λ x. not (flag seen x))

-- there is a place for each switch and each link, and a number for each switch that is not visited
pub record Room (v : Visited) : Type 0 where
  pub seen_places : length v.seen ≡ max_switches
  pub rank_places : length v.rank ≡ max_switches
  pub entered_places : length v.entered ≡ max_links
  pub numbers : v.next + unvisited v.seen ≤ max_switches

-- link l is entered, and the switch `to` is visited
abbrev pub enter_of : Visited → ℕ → ℕ → Visited
enter_of v to l = record {
  root = v.root;
  next = v.next + 1;
  seen = set v.seen to true;
  rank = set v.rank to v.next;
  entered = set v.entered l true;
}

-- the root is visited, and nothing else yet
unfoldable pub begin_of : ℕ → Visited
begin_of root = record {
  root = root;
  next = 1;
  seen = set (replicate max_switches false) root true;
  rank = replicate max_switches 0;
  entered = replicate max_links false;
}

-- v has room for the switches that are not visited, and `from` is a switch that there can be
pub record At (v : Visited) (from : ℕ) : Type 0 where
  pub room : Room v
  pub within : from < max_switches

-- the labels below n, the ends of their arcs, and which of them are flagged
module _ (n : ℕ) (tl hd : ℕ → ℕ) (ok : ℕ → Bool) where
  -- at `from` the arcs of the list are tried, and each that is entered leads on to all flagged arcs
  abbrev pub Tries : ℕ → List ℕ → St → St → Type 0
  Tries = Scan tl hd (keep ok (range 0 n))

  -- what the visit from `from` over the flagged arcs makes of v: whatever state v shows, r shows the one that the visit leads to
  pub record Went (v : Visited) (from : ℕ) (r : Visited) : Type 0 where
    pub room : Room r
    pub root_kept : r.root ≡ v.root
    pub kept : (x : ℕ) → get_or v.seen x false ≡ true → get_or r.seen x false ≡ true
    pub went : (s : St) → Shows v s → (t : St) × Shows r t × Tries from (keep ok (range 0 n)) s t
