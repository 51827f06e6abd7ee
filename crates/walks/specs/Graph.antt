-- Document 01, "Bridges, arcs in use and the trail", as far as the arcs in use: what is joined, bridges, the depth-first visit, arcs in use
-- and their number. Each definition computes. Demand 2 says what each means in terms of walks.
use Rattle.std.specs.Prelude.{◌⊎◌, Bool, not, ◌&&◌, ◌||◌, List, [], ◌∷◌, ℕ, ◌+◌, ◌*◌, ◌/◌, ◌<◌, eqb, ltb}
use Rattle.lists.specs.Tests.{choose}
use Rattle.lists.specs.Members.{In, memb}
use Rattle.lists.specs.Count.{count}
use Rattle.lists.specs.Numbers.{range, keep}
use Rattle.plant.specs.declared.Plant.{Plant}
use Rattle.plant.specs.Links.{first, second, live}
use Rattle.walks.specs.Walk.{Walk, Reach}
use Rattle.walks.specs.Visit.{St, visit, rank}
use Rattle.walks.specs.Arcs.{labels, tail, head, Arc, Avoid}

-- the walk w crosses link l, one way or the other
abbrev pub Crosses : ℕ → List ℕ → Type 0
Crosses l w = In (2 * l) w ⊎ In (2 * l + 1) w

module _ (p : Plant) where
  -- v is reached from u by a walk over the arcs of the kind ok
  abbrev pub To : (ℕ → Type 0) → ℕ → ℕ → Type 0
  To ok u v = Reach (tail p) (head p) ok v u

  -- a closed walk: each arc leaves the switch that the one before it reached, and the first leaves the switch that the last reached. The
  -- empty list is one
  pub record ClosedWalk (w : List ℕ) : Type 0 where
    pub from : ℕ
    pub walk : Walk (tail p) (head p) w from from
    pub arcs_alone : (a : ℕ) → In a w → Arc p a

  abbrev pub ClosedWalks : List (List ℕ) → Type 0
  ClosedWalks [] = Unit
  ClosedWalks (w ∷ ws) = ClosedWalk w × ClosedWalks ws

  -- every switch is reached from r
  abbrev pub AllFrom : ℕ → Type 0
  AllFrom r = (x : ℕ) → x < p.switches → To (Arc p) r x

  -- without link l its two ends are not joined
  abbrev pub Bridge : ℕ → Type 0
  Bridge l = To (Avoid p l) (first p l) (second p l) → ⊥

  -- the links in service, by rising number, and their labels
  unfoldable pub arcs : List ℕ
  arcs = labels (keep (live p) (range 0 p.count))

  -- the labels without those of link l
  unfoldable pub others : ℕ → List ℕ
  others l = labels (keep (λ k. live p k && not (eqb k l)) (range 0 p.count))

  -- the depth-first visit from v over the arcs of the list; it goes at most as deep as there are switches
  unfoldable pub visit_from : ℕ → List ℕ → St
  visit_from v bs = visit (tail p) (head p) bs p.switches v (record { ord = v ∷ []; ent = [] })

  -- it is in service, and without it its ends are not joined
  unfoldable pub bridge : ℕ → Bool
  bridge l = live p l && not (memb (second p l) (visit_from (first p l) (others l)).ord)

  -- how many links are in service, and how many of them are bridges
  unfoldable pub live_links : ℕ
  live_links = count p.count (live p)

  unfoldable pub bridges : ℕ
  bridges = count p.count bridge

  -- link l is at switch x: it is in service, and x is one of its ends
  abbrev pub is_at : ℕ → ℕ → Bool
  is_at x l = live p l && (eqb (first p l) x || eqb (second p l) x)

  -- how many links are at switch x
  unfoldable pub links_at : ℕ → ℕ
  links_at x = count p.count (is_at x)

  -- ---- the part of the plant that is reached from the switch r, its root

  module _ (r : ℕ) where
    -- the visit from r: the numbering of the switches and the entered arcs
    abbrev pub visited_from : St
    visited_from = visit_from r arcs

    -- switch x is reached
    abbrev pub reached_from : ℕ → Bool
    reached_from x = memb x visited_from.ord

    -- the visit entered link l, the one way or the other
    abbrev pub entered_from : ℕ → Bool
    entered_from l = memb (2 * l) visited_from.ent || memb (2 * l + 1) visited_from.ent

    -- x was visited before y
    abbrev pub earlier_from : ℕ → ℕ → Bool
    earlier_from x y = ltb (rank x visited_from.ord) (rank y visited_from.ord)

    -- both arcs of a bridge; of an entered link that is no bridge the arc from earlier to later visited; of every other link the arc from
    -- later to earlier
    abbrev pub chosen_from : ℕ → Bool
    chosen_from a =
        live p (a / 2)
        && (bridge (a / 2) || choose (entered_from (a / 2)) (earlier_from (tail p a) (head p a)) (earlier_from (head p a) (tail p a)))

    -- such an arc that leaves a reached switch: the arcs in use from r
    unfoldable pub used_from : ℕ → Bool
    used_from a = reached_from (tail p a) && chosen_from a

    -- a bridge that joins reached switches
    abbrev pub bridge_from : ℕ → Bool
    bridge_from l = reached_from (first p l) && bridge l

    -- how many switches are reached, how many links join them, how many of these are bridges, and how many arcs are in use
    unfoldable pub switches_from : ℕ
    switches_from = count p.switches reached_from

    unfoldable pub links_from : ℕ
    links_from = count p.count (λ l. reached_from (first p l) && live p l)

    unfoldable pub bridges_from : ℕ
    bridges_from = count p.count bridge_from

    unfoldable pub arcs_used_from : ℕ
    arcs_used_from = count (2 * p.count) used_from
