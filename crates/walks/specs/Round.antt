-- The round trail (document 02, order 6): the depth-first visit read a second time, for the hops of one who walks as it goes.
use Rattle.std.specs.Prelude.{Bool, true, false, not, ◌&&◌, ◌||◌, List, [], ◌∷◌, ◌++◌, ℕ, zero, suc, eqb}
use Rattle.lists.specs.Members.{memb}
use Rattle.plant.specs.declared.Plant.{Plant}
use Rattle.walks.specs.Visit.{St, push, fresh}
use Rattle.walks.specs.Arcs.{opposite, tail, head}
use Rattle.walks.specs.Graph.{arcs}

-- how far the visit has come, and the hops so far
pub record Tour : Type 0 where
  pub seen : St
  pub hops : List ℕ

-- the link of arc a has been crossed, the one way or the other
abbrev pub crossed : ℕ → List ℕ → Bool
crossed a hops = memb a hops || memb (opposite a) hops

-- these hops more
abbrev pub onward : Tour → List ℕ → Tour
onward t w = record { seen = t.seen; hops = t.hops ++ w }

module _ (tl hd : ℕ → ℕ) where
  -- "an entered link is crossed, its far side finished, then crossed back": `finish x` walks from switch x until its side is finished
  abbrev pub through_link : (ℕ → Tour → Tour) → ℕ → Tour → Tour
  through_link finish a t = onward (finish (hd a) (record { seen = push tl hd a t.seen; hops = t.hops ++ (a ∷ []) })) (opposite a ∷ [])

  -- "any other link is crossed and crossed back from the end where it is first met": where it is met again, it has been crossed
  abbrev pub first_met : ℕ → ℕ → Tour → Bool
  first_met v a t = eqb (tl a) v && not (crossed a t.hops)

  -- at v the arcs of the list are tried in turn
  unfoldable pub walk_at : (ℕ → Tour → Tour) → ℕ → List ℕ → Tour → Tour
  walk_at finish v [] t = t
  walk_at finish v (a ∷ bs) t =
      walk_at finish v bs (elim (fresh tl hd v a t.seen) as (λ _. Tour) [
        | true ↦ through_link finish a t
        | false ↦ elim (first_met v a t) as (λ _. Tour) [ true ↦ onward t (a ∷ opposite a ∷ []) | false ↦ t ]
      ])

  module _ (bs : List ℕ) where
    unfoldable pub tour : ℕ → ℕ → Tour → Tour
    tour zero v t = t
    tour (suc f) v t = walk_at (λ w u. tour f w u) v bs t

-- over the part of the plant that is reached from the switch r. The visit goes at most as deep as there are switches
abbrev pub tour_from : Plant → ℕ → Tour
tour_from p r = tour (tail p) (head p) (arcs p) p.switches r (record { seen = record { ord = r ∷ []; ent = [] }; hops = [] })

-- its round trail
unfoldable pub round_from : Plant → ℕ → List ℕ
round_from p r = (tour_from p r).hops
