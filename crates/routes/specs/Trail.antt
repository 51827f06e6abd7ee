-- The trail: document 01, "The trail begins at the start. While an arc in use is uncrossed, it goes to the nearest switch with an uncrossed
-- outgoing arc in use and crosses that arc; ties go to the lowest label of such an arc. On the way, each hop takes the lowest label of an
-- arc in use that lessens the distance left. At the end it returns to the start by the same hop rule." `route` in Distance is the way, hop
-- by hop. In graph theory a trail repeats no edge; this one may.
use Rattle.std.specs.Prelude.{Bool, true, false, not, ◌&&◌, ◌||◌, List, [], ◌∷◌, ◌++◌, ℕ, zero, suc, eqb, ltb}
use Rattle.lists.specs.Count.{count}
use Rattle.lists.specs.Least.{least, some}
use Rattle.routes.specs.Distance.{dist, route}

-- which arcs are crossed is a test m of labels; at first none is
abbrev pub unmarked : ℕ → Bool
unmarked b = false

-- arc a is crossed too
abbrev pub mark : ℕ → (ℕ → Bool) → ℕ → Bool
mark a m b = eqb b a || m b

-- the arcs of a list are crossed too
abbrev pub marks : List ℕ → (ℕ → Bool) → ℕ → Bool
marks [] m = m
marks (a ∷ w) m = marks w (mark a m)

-- arc a is in use and uncrossed
abbrev pub uncrossed : (ℕ → Bool) → (ℕ → Bool) → ℕ → Bool
uncrossed ok m a = ok a && not (m a)

-- S switches, the labels below n, their tails and heads, and which of them are in use
module _ (S n : ℕ) (tl hd : ℕ → ℕ) (ok : ℕ → Bool) where
  -- arc a is in use and uncrossed, and k is the distance from u to the switch that it leaves
  abbrev pub leaves_at : (ℕ → Bool) → ℕ → ℕ → ℕ → Bool
  leaves_at m u k a = uncrossed ok m a && eqb (dist S n tl hd ok u (tl a)) k

  -- the distance from u to the nearest switch with an uncrossed outgoing arc in use; S if there is none, or none that a walk from u reaches
  unfoldable pub near : (ℕ → Bool) → ℕ → ℕ
  near m u = least S (λ k. some n (leaves_at m u k))

  -- the lowest label of an uncrossed arc in use that leaves a switch at that distance; n if no arc in use is uncrossed. Where no walk
  -- reaches one, it is the lowest label of all that are uncrossed: of the arcs in use from a root each is reached
  unfoldable pub nearest : (ℕ → Bool) → ℕ → ℕ
  nearest m u = least n (leaves_at m u (near m u))

  module _ (start : ℕ) where
    -- the trail from u on, where m tells the arcs crossed: while an arc in use is uncrossed, a leg to the nearest and over it; at the end
    -- the way to the start. There are at most f such legs: each crosses an arc that was uncrossed, so that f is enough if no more arcs in
    -- use are uncrossed
    unfoldable pub legs : ℕ → (ℕ → Bool) → ℕ → List ℕ
    legs zero m u = route S n tl hd ok u start
    legs (suc f) m u =
        let a = nearest m u in
        let w = route S n tl hd ok u (tl a) in
        elim (ltb a n) [ true ↦ w ++ (a ∷ legs f (mark a (marks w m)) (hd a)) | false ↦ route S n tl hd ok u start ]

    -- the trail: from the start, with no arc crossed, and at most a leg for each arc in use
    unfoldable pub trail : List ℕ
    trail = legs (count n ok) unmarked start
